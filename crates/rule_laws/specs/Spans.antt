-- How far apart the places of one hive are.
use Rattle.std.specs.Prelude.{ℤ, pos, ◌+ℤ◌, ◌≤ℤ◌, IsTrue}
use Rattle.hive_model.specs.declared.places.Place.{Place}
use Rattle.hive_model.specs.Boards.{Stacks, is_occupied, IsBoard}
use Rattle.hive_model.specs.Hive.{OneHive}

-- Two occupied places of one hive differ by at most 27 in each coordinate.
abbrev pub SpanLaw : Type 0
SpanLaw =
    (b : Stacks) → IsBoard b → OneHive b → (p q : Place) → IsTrue (is_occupied b p)
    → IsTrue (is_occupied b q)
    → (q.q ≤ℤ (p.q +ℤ pos 27)) × (q.r ≤ℤ (p.r +ℤ pos 27))
