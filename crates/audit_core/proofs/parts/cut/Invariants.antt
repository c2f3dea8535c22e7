use Rattle.std.proofs.Common.{◌≡◌, take, true}
use Rattle.game_text.proofs.PartLaws.{has_none}
use Rattle.audit_core.proofs.parts.cut.Given as goal

abbrev pub invariant-loop-i : goal.invariant-loop-i
invariant-loop-i l = has_none (take l.i l.text) ≡ true
