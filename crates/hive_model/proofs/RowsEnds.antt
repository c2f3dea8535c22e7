-- Worked rows of a pass and of an end, computed.
use Rattle.std.proofs.Common.{◌≡◌, [], ◌∷◌, refl, pos, negsuc}
use Rattle.hive_model.specs.declared.places.Move.TheVariants.{Pass, To}
use Rattle.hive_model.specs.declared.places.State.TheVariants.{Draw}
use Rattle.hive_model.specs.Places.{origin}
use Rattle.hive_model.specs.Games.{replay, after}
use Rattle.hive_model.specs.Legal.{moves, pairs, state}
use Rattle.hive_model.specs.Positions.{opening}
use Rattle.hive_model.proofs.Worked.{place, plain}

-- a white beetle is on each of the two black pieces: black can move none, and has no top piece to
-- place beside
only_the_pass_is_left : moves (replay (opening plain) (To 3 origin ∷ To 15 (place (pos 1) (pos 0)) ∷ To 0 (place (pos 0) (negsuc 0)) ∷ To 14 (place (pos 2) (pos 0)) ∷ To 0 (place (pos 1) (negsuc 0)) ∷ To 14 (place (pos 1) (pos 1)) ∷ To 3 (place (pos 1) (pos 0)) ∷ To 14 (place (pos 2) (pos 0)) ∷ To 4 (place (pos 0) (pos 1)) ∷ To 14 (place (pos 1) (pos 1)) ∷ To 4 (place (pos 1) (pos 1)) ∷ [])) ≡ Pass ∷ []
unfolding moves pairs after state
only_the_pass_is_left = refl

-- one move surrounds both queens: a draw
both_queens_surrounded_is_a_draw : state (replay (opening plain) (To 1 origin ∷ To 15 (place (pos 1) (pos 0)) ∷ To 0 (place (negsuc 0) (pos 1)) ∷ To 14 (place (pos 2) (pos 0)) ∷ To 0 (place (pos 0) (pos 1)) ∷ To 14 (place (pos 1) (pos 1)) ∷ To 5 (place (negsuc 0) (pos 1)) ∷ To 19 (place (pos 2) (pos 0)) ∷ To 3 (place (negsuc 0) (pos 2)) ∷ To 17 (place (pos 2) (pos 1)) ∷ To 8 (place (negsuc 1) (pos 2)) ∷ To 22 (place (pos 1) (pos 2)) ∷ To 8 (place (pos 0) (pos 2)) ∷ [])) ≡ Draw
unfolding moves pairs after state
both_queens_surrounded_is_a_draw = refl
