use Rattle.std.proofs.Common.{◌≡◌, take}
use Rattle.tournament_record.specs.Heads.{head_text}
use Rattle.tournament_record.proofs.head.head_text.Given as goal

abbrev pub invariant-loop-part : goal.invariant-loop-part
invariant-loop-part l = l.text ≡ head_text (take l.part-index l.parts)
