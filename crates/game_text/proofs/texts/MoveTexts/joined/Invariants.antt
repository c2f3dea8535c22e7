use Rattle.std.proofs.Common.{◌≡◌, ◌++◌, drop}
use Rattle.std.specs.Prelude.{map}
use Rattle.game_text.proofs.WriteLaws.{behind}
use Rattle.game_text.proofs.texts.MoveTexts.joined.Given as goal

abbrev pub invariant-loop-part : goal.invariant-loop-part
invariant-loop-part l = l.text ++ behind (map (λ t. t.bytes) (drop l.part-index l.part-items)) ≡ l.initial.text ++ behind (map (λ t. t.bytes) l.part-items)
