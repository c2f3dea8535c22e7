use Rattle.std.proofs.Common.{◌≡◌, take}
use Rattle.std.specs.List.{flat_map}
use Rattle.tournament_games.specs.Texts.{standing_text}
use Rattle.tournament_games.proofs.texts.tell_places.Given as goal

abbrev pub invariant-loop-place : goal.invariant-loop-place
invariant-loop-place l = l.text ≡ flat_map (standing_text l.programs) (take l.place-index l.places)
