-- The occupied neighbours of a place as a mask. Bit i is set if the neighbour in direction i is
-- occupied, in the order E, NE, NW, W, SW, SE. The order is cyclic: E follows SE. An arc is a run
-- of set bits in the cycle, with an unset bit before it and one after it. So an arc has one to five
-- bits, and the masks 0 and 63 have none.
use Rattle.std.specs.Prelude.{ℕ, ◌+◌, ◌/◌, ◌%◌, ◌^◌, Bool, not, ◌&&◌, ◌==◌, List, [], ◌∷◌, map, if◌then◌else◌}
use Rattle.std.specs.List.{range_with_len}
use Rattle.arcs.specs.declared.masks.CaseRow.{CaseRow}

-- whether the bit of a direction is set
abbrev pub bit : ℕ → ℕ → Bool
bit mask i = mask / 2 ^ i % 2 == 1

-- the directions, by number
abbrev pub six : List ℕ
six = 0 ∷ 1 ∷ 2 ∷ 3 ∷ 4 ∷ 5 ∷ []

-- An arc begins here: the bit is set, and the one before it is not.
abbrev pub is_first : ℕ → ℕ → Bool
is_first mask i = bit mask i && not (bit mask ((i + 5) % 6))

-- An arc ends here: the bit is set, and the one after it is not.
abbrev pub is_last : ℕ → ℕ → Bool
is_last mask i = bit mask i && not (bit mask ((i + 1) % 6))

-- An end of an arc: the bit is set, and the two beside it are not both set.
abbrev pub is_end : ℕ → ℕ → Bool
is_end mask i = bit mask i && not (bit mask ((i + 5) % 6) && bit mask ((i + 1) % 6))

-- how many items of a list pass the test
abbrev pub how_many : {X : Type 0} → (X → Bool) → List X → ℕ
how_many t [] = 0
how_many t (x ∷ xs) = (if t x then 1 else 0) + how_many t xs

-- the mask of the directions on a list that pass the test
abbrev pub mask_by : (ℕ → Bool) → List ℕ → ℕ
mask_by t [] = 0
mask_by t (i ∷ is) = (if t i then 2 ^ i else 0) + mask_by t is

-- the number of arcs of a mask, counted by where they begin
abbrev pub arcs : ℕ → ℕ
arcs mask = how_many (is_first mask) six

-- the mask of the ends of its arcs
abbrev pub arc_ends : ℕ → ℕ
arc_ends mask = mask_by (is_end mask) six

-- the row of a mask: the number of its arcs, and their ends
abbrev pub case_row : ℕ → CaseRow
case_row mask = record { arcs = arcs mask; ends = arc_ends mask }

-- the rows of all 64 masks, in order
abbrev pub case_rows : List CaseRow
case_rows = map case_row (range_with_len 0 64)
