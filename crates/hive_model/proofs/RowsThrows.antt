-- Worked rows of throws, computed.
use Rattle.std.proofs.Common.{◌≡◌, [], ◌∷◌, refl, pos, negsuc}
use Rattle.std.specs.List.{filter}
use Rattle.hive_model.specs.declared.places.Move.TheVariants.{To}
use Rattle.hive_model.specs.Places.{origin}
use Rattle.hive_model.specs.Games.{replay, after}
use Rattle.hive_model.specs.Legal.{moves, pairs, state}
use Rattle.hive_model.specs.Positions.{opening}
use Rattle.hive_model.proofs.Worked.{place, with_pillbug, is_move_of}

-- an ant beside its own pillbug: the places that it walks to and is thrown to are listed once each
each_move_is_listed_once : filter (is_move_of 8) (moves (replay (opening with_pillbug) (To 1 origin ∷ To 15 (place (pos 1) (pos 0)) ∷ To 0 (place (negsuc 0) (pos 0)) ∷ To 14 (place (pos 2) (pos 0)) ∷ To 13 (place (negsuc 1) (pos 0)) ∷ To 19 (place (pos 3) (pos 0)) ∷ To 8 (place (negsuc 2) (pos 0)) ∷ To 22 (place (pos 4) (pos 0)) ∷ []))) ≡ To 8 (place (negsuc 2) (pos 1)) ∷ To 8 (place (negsuc 1) (negsuc 0)) ∷ To 8 (place (negsuc 1) (pos 1)) ∷ To 8 (place (negsuc 0) (negsuc 0)) ∷ To 8 (place (negsuc 0) (pos 1)) ∷ To 8 (place (pos 0) (negsuc 0)) ∷ To 8 (place (pos 0) (pos 1)) ∷ To 8 (place (pos 1) (negsuc 0)) ∷ To 8 (place (pos 1) (pos 1)) ∷ To 8 (place (pos 2) (negsuc 0)) ∷ To 8 (place (pos 2) (pos 1)) ∷ To 8 (place (pos 3) (negsuc 0)) ∷ To 8 (place (pos 3) (pos 1)) ∷ To 8 (place (pos 4) (negsuc 0)) ∷ To 8 (place (pos 4) (pos 1)) ∷ To 8 (place (pos 5) (negsuc 0)) ∷ To 8 (place (pos 5) (pos 0)) ∷ []
unfolding moves pairs after state
each_move_is_listed_once = refl

-- an ant that was just thrown rests: none of the moves is its own
thrown_piece_rests : moves (replay (opening with_pillbug) (To 13 origin ∷ To 22 (place (pos 1) (pos 0)) ∷ To 0 (place (negsuc 0) (pos 0)) ∷ To 14 (place (pos 2) (negsuc 0)) ∷ To 1 (place (negsuc 1) (pos 0)) ∷ To 14 (place (pos 1) (negsuc 0)) ∷ To 22 (place (pos 0) (pos 1)) ∷ [])) ≡ To 14 (place (pos 0) (negsuc 0)) ∷ To 14 (place (pos 1) (pos 0)) ∷ To 15 (place (negsuc 0) (pos 2)) ∷ To 15 (place (pos 0) (pos 2)) ∷ To 15 (place (pos 1) (negsuc 1)) ∷ To 15 (place (pos 1) (pos 1)) ∷ To 15 (place (pos 2) (negsuc 1)) ∷ To 15 (place (pos 2) (negsuc 0)) ∷ To 17 (place (negsuc 0) (pos 2)) ∷ To 17 (place (pos 0) (pos 2)) ∷ To 17 (place (pos 1) (negsuc 1)) ∷ To 17 (place (pos 1) (pos 1)) ∷ To 17 (place (pos 2) (negsuc 1)) ∷ To 17 (place (pos 2) (negsuc 0)) ∷ To 19 (place (negsuc 0) (pos 2)) ∷ To 19 (place (pos 0) (pos 2)) ∷ To 19 (place (pos 1) (negsuc 1)) ∷ To 19 (place (pos 1) (pos 1)) ∷ To 19 (place (pos 2) (negsuc 1)) ∷ To 19 (place (pos 2) (negsuc 0)) ∷ To 23 (place (negsuc 0) (pos 2)) ∷ To 23 (place (pos 0) (pos 2)) ∷ To 23 (place (pos 1) (negsuc 1)) ∷ To 23 (place (pos 1) (pos 1)) ∷ To 23 (place (pos 2) (negsuc 1)) ∷ To 23 (place (pos 2) (negsuc 0)) ∷ To 27 (place (negsuc 0) (pos 2)) ∷ To 27 (place (pos 0) (pos 2)) ∷ To 27 (place (pos 1) (negsuc 1)) ∷ To 27 (place (pos 1) (pos 1)) ∷ To 27 (place (pos 2) (negsuc 1)) ∷ To 27 (place (pos 2) (negsuc 0)) ∷ []
unfolding moves pairs after state
thrown_piece_rests = refl
