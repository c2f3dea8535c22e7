-- Pieces in hand by kind and colour.
use Rattle.std.specs.Prelude.{◌≡◌, ℕ, ◌+◌, ◌<◌, nat_eq, if◌then◌else◌}
use Rattle.hive_model.specs.declared.pieces.Colour.{Colour}
use Rattle.hive_model.specs.declared.pieces.GameType.{GameType}
use Rattle.hive_model.specs.declared.pieces.Kind.{Kind}
use Rattle.hive_model.specs.Pieces.{kind_of, colour_of, first_of, most_of, side_of}
use Rattle.hive_model.specs.Boards.{Stacks}
use Rattle.hive_model.specs.Placement.{IsInHand}

-- no piece of this kind and colour is in hand
abbrev pub HasNoneInHand : GameType → Stacks → Colour → Kind → Type 0
HasNoneInHand t b c k = (x : ℕ) → x < 28 → kind_of x ≡ k → colour_of x ≡ c → ¬ IsInHand t b x

-- how many pieces of a kind a side has: as many as its greatest number, or the one that has the
-- number 0
abbrev pub count_of : Kind → ℕ
count_of k = if nat_eq (most_of k) 0 then 1 else most_of k

-- the first piece of a side's kind, in the order of all pieces
abbrev pub first_piece : Colour → Kind → ℕ
first_piece c k = side_of c + first_of k
