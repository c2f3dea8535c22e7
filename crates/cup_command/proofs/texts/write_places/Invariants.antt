use Rattle.std.proofs.Common.{◌≡◌, ◌++◌, take}
use Rattle.std.specs.List.{flat_map}
use Rattle.cup_command.specs.Texts.{standing_text}
use Rattle.cup_command.proofs.texts.write_places.Given as goal

abbrev pub invariant-loop-place : goal.invariant-loop-place
invariant-loop-place l = l.out ≡ l.fn.out ++ flat_map (standing_text l.programs) (take l.place-index l.places)
