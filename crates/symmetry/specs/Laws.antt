-- The laws of symmetry.
use Rattle.std.specs.Prelude.{◌≡◌, ℕ, ◌+◌, ◌≤◌, ◌<◌, List, IsTrue, ◌↔◌}
use Rattle.hive_model.specs.declared.places.Place.{Place}
use Rattle.hive_model.specs.declared.places.Move.{Move}
use Rattle.hive_model.specs.Lists.{IsOn}
use Rattle.hive_model.specs.Boards.{Stacks, IsBoard, StandsWithin}
use Rattle.hive_model.specs.Positions.{Position}
use Rattle.hive_model.specs.Legal.{IsLegal, moves, state}
use Rattle.hive_model.specs.Games.{after}
use Rattle.hive_model.specs.Minimax.{lines}
use Rattle.symmetry.specs.Images.{IsIsometry, moved_by}
use Rattle.hive_model.specs.Keys.{KeyParts, key}
use Rattle.symmetry.specs.Shifts.{IsShift, shift_between}
use Rattle.symmetry.specs.Takes.{TakesMove, takes_move}
use Rattle.symmetry.specs.declared.own.OwnSymmetry.{OwnSymmetry}
use Rattle.symmetry.specs.Own.{AreOwn}
use Rattle.symmetry.specs.Alike.{IsImage, board_by, Alike, move_by, IsPlaced, started_state}

-- Each symmetry followed by a shift is an isometry.
abbrev pub SymmetriesAreIsometries : Type 0
SymmetriesAreIsometries = (s : ℕ) (t : Place) → IsIsometry (moved_by s t)

-- What is on the images of the places determines the board: its entries are those of the first
-- board, each taken to the image of its place.
abbrev pub ImagesAreBoards : Type 0
ImagesAreBoards =
    (f : Place → Place) → IsIsometry f → (b c : Stacks) → IsBoard b → IsBoard c
    → IsImage f b c ↔ (c ≡ board_by f b)

-- A move is legal exactly if its image is legal in the position that is alike.
abbrev pub LegalMovesAreAlike : Type 0
LegalMovesAreAlike =
    (p r : Position) (s : ℕ) (t : Place) → IsBoard p.board → IsBoard r.board → Alike p r s t
    → (m : Move) → IsLegal p m ↔ IsLegal r (move_by s t m)

-- It is on the list of legal moves exactly if its image is on the other list.
abbrev pub ListedMovesAreAlike : Type 0
ListedMovesAreAlike =
    (p r : Position) (s : ℕ) (t : Place) → IsBoard p.board → IsBoard r.board → Alike p r s t
    → (m : Move) → IsOn (moves p) m ↔ IsOn (moves r) (move_by s t m)

-- The positions after a move and after its image are alike.
abbrev pub AfterIsAlike : Type 0
AfterIsAlike =
    (p r : Position) (s : ℕ) (t : Place) → IsBoard p.board → IsBoard r.board → Alike p r s t
    → (m : Move) → Alike (after p m) (after r (move_by s t m)) s t

-- Positions that are alike have the same state, except for whether the game has started.
abbrev pub StatesAreAlike : Type 0
StatesAreAlike =
    (p r : Position) (s : ℕ) (t : Place) → IsBoard p.board → IsBoard r.board → Alike p r s t
    → started_state (state p) ≡ started_state (state r)

-- At most one shift makes two positions alike by a given symmetry.
abbrev pub ShiftIsOnly : Type 0
ShiftIsOnly =
    (p r : Position) (s : ℕ) (t u : Place) → IsBoard p.board → IsBoard r.board → Alike p r s t
    → Alike p r s u → t ≡ u

-- Different moves have different images.
abbrev pub MovesStayApart : Type 0
MovesStayApart = (s : ℕ) (t : Place) (m n : Move) → move_by s t m ≡ move_by s t n → m ≡ n

-- Every move is the image of a move.
abbrev pub MovesAreImages : Type 0
MovesAreImages = (s : ℕ) (t : Place) (n : Move) → (m : Move) × (move_by s t m ≡ n)

-- The test of a shift finds the one by which the positions of two keys are alike.
abbrev pub ShiftIsTested : Type 0
ShiftIsTested = (a b : KeyParts) (s : ℕ) → IsShift (shift_between a b s) a b s

-- The test that a move is taken to another holds exactly if a symmetry and a shift by which the
-- positions are alike take it there.
abbrev pub TakesAreTested : Type 0
TakesAreTested =
    (p : Position) (m : Move) (r : Position) (n : Move) → IsBoard p.board → IsBoard r.board
    → IsTrue (takes_move (key p) m (key r) n) ↔ TakesMove p m r n

-- A legal move leads to a place in the plane or one step beyond its edge.
abbrev pub LegalMovesArePlaced : Type 0
LegalMovesArePlaced = (p : Position) (m : Move) → IsBoard p.board → IsOn (moves p) m → IsPlaced m

-- Lists of legal moves. No piece may stand further out than there are plies left to the edge, so
-- that each of them ends in the plane.

-- Positions that are alike have the same number of lists of n moves.
abbrev pub AlikePositionsHaveAsManyLines : Type 0
AlikePositionsHaveAsManyLines =
    (p r : Position) (s : ℕ) (t : Place) → IsBoard p.board → IsBoard r.board → Alike p r s t
    → (k n : ℕ) → StandsWithin k p.board → StandsWithin k r.board → k + n ≤ 9000
    → lines p n ≡ lines r n

-- A legal move and one that it is taken to are followed by the same number of lists of n moves.
abbrev pub TakenMovesHaveAsManyLines : Type 0
TakenMovesHaveAsManyLines =
    (p : Position) (m : Move) (r : Position) (o : Move) → IsBoard p.board → IsBoard r.board
    → TakesMove p m r o → IsOn (moves p) m
    → (k n : ℕ) → StandsWithin k p.board → StandsWithin k r.board → k + n < 9000
    → lines (after p m) n ≡ lines (after r o) n

-- A legal move and its image by a symmetry of the position are followed by the same number of lists
-- of n moves.
abbrev pub OwnImagesHaveAsManyLines : Type 0
OwnImagesHaveAsManyLines =
    (p : Position) (own : List OwnSymmetry) (o : OwnSymmetry) (m : Move) → IsBoard p.board
    → AreOwn (key p) own → IsOn own o → IsOn (moves p) m
    → (k n : ℕ) → StandsWithin k p.board → k + n < 9000
    → lines (after p m) n ≡ lines (after p (move_by o.symmetry o.shift m)) n
