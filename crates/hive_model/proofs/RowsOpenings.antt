-- Worked rows of openings, computed.
use Rattle.std.proofs.Common.{◌≡◌, [], ◌∷◌, refl, pos, negsuc}
use Rattle.hive_model.specs.declared.places.Move.TheVariants.{To}
use Rattle.hive_model.specs.Places.{origin}
use Rattle.hive_model.specs.Games.{replay, after}
use Rattle.hive_model.specs.Legal.{moves, pairs, state}
use Rattle.hive_model.specs.Positions.{opening}
use Rattle.hive_model.proofs.Worked.{place, plain, with_all}

-- white places any bug but the queen, the least of its kind, on the origin
first_moves : moves (opening plain) ≡ To 1 origin ∷ To 3 origin ∷ To 5 origin ∷ To 8 origin ∷ []
unfolding moves pairs state
first_moves = refl

-- with all three expansions, one of each of them too
first_moves_with_all : moves (opening with_all) ≡ To 1 origin ∷ To 3 origin ∷ To 5 origin ∷ To 8 origin ∷ To 11 origin ∷ To 12 origin ∷ To 13 origin ∷ []
unfolding moves pairs state
first_moves_with_all = refl

-- black places beside the one piece on the board, whatever its colour
second_moves : moves (replay (opening plain) (To 1 origin ∷ [])) ≡ To 15 (place (negsuc 0) (pos 0)) ∷ To 15 (place (negsuc 0) (pos 1)) ∷ To 15 (place (pos 0) (negsuc 0)) ∷ To 15 (place (pos 0) (pos 1)) ∷ To 15 (place (pos 1) (negsuc 0)) ∷ To 15 (place (pos 1) (pos 0)) ∷ To 17 (place (negsuc 0) (pos 0)) ∷ To 17 (place (negsuc 0) (pos 1)) ∷ To 17 (place (pos 0) (negsuc 0)) ∷ To 17 (place (pos 0) (pos 1)) ∷ To 17 (place (pos 1) (negsuc 0)) ∷ To 17 (place (pos 1) (pos 0)) ∷ To 19 (place (negsuc 0) (pos 0)) ∷ To 19 (place (negsuc 0) (pos 1)) ∷ To 19 (place (pos 0) (negsuc 0)) ∷ To 19 (place (pos 0) (pos 1)) ∷ To 19 (place (pos 1) (negsuc 0)) ∷ To 19 (place (pos 1) (pos 0)) ∷ To 22 (place (negsuc 0) (pos 0)) ∷ To 22 (place (negsuc 0) (pos 1)) ∷ To 22 (place (pos 0) (negsuc 0)) ∷ To 22 (place (pos 0) (pos 1)) ∷ To 22 (place (pos 1) (negsuc 0)) ∷ To 22 (place (pos 1) (pos 0)) ∷ []
unfolding moves pairs after state
second_moves = refl

-- with its queen still in hand on its fourth turn, a side places nothing else
fourth_turn_is_the_queens : moves (replay (opening plain) (To 1 origin ∷ To 15 (place (pos 1) (pos 0)) ∷ To 5 (place (negsuc 0) (pos 0)) ∷ To 19 (place (pos 2) (pos 0)) ∷ To 8 (place (negsuc 1) (pos 0)) ∷ To 22 (place (pos 3) (pos 0)) ∷ [])) ≡ To 0 (place (negsuc 2) (pos 0)) ∷ To 0 (place (negsuc 2) (pos 1)) ∷ To 0 (place (negsuc 1) (negsuc 0)) ∷ To 0 (place (negsuc 1) (pos 1)) ∷ To 0 (place (negsuc 0) (negsuc 0)) ∷ To 0 (place (negsuc 0) (pos 1)) ∷ To 0 (place (pos 0) (negsuc 0)) ∷ []
unfolding moves pairs after state
fourth_turn_is_the_queens = refl
