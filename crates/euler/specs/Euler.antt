-- Euler's number of a board: the number of separate parts of its occupied places, minus the number
-- of holes. It is defined by which places are neighbours.
use Rattle.std.specs.Prelude.{◌≡◌, ◌↔◌, ℕ, ◌+◌, ◌<◌, ◌≤◌, ℤ, pos, ◌+ℤ◌, ◌-ℤ◌, ◌≤ℤ◌, Bool, ◌&&◌, List, length, IsTrue}
use Rattle.hive_model.specs.declared.places.Place.{Place}
use Rattle.hive_model.specs.declared.places.Dir.TheVariants.{E, NE, NW}
use Rattle.hive_model.specs.Lists.{IsOn}
use Rattle.hive_model.specs.Places.{step}
use Rattle.hive_model.specs.Neighbours.{ring, ring_mask}
use Rattle.hive_model.specs.Boards.{Stacks, IsBoard, StandsAt, height_at, is_occupied, places_of, put, lift, cleared}
use Rattle.hive_model.specs.Hive.{OneHive, IsSeparating, WalkOn}
use Rattle.arcs.specs.Masks.{arcs, how_many}

-- For a set of places and the list of its members

-- The number of pairs of neighbours in the set. Each pair is counted at the place from which the
-- other lies in direction E, NE or NW.
abbrev pub touching : (Place → Bool) → List Place → ℕ
touching o ps =
    how_many (λ p. o (step p E)) ps + how_many (λ p. o (step p NE)) ps
    + how_many (λ p. o (step p NW)) ps

-- The number of triangles in the set: three places, each a neighbour of the other two. Each
-- triangle is counted at the place from which the others lie in directions E and NE, or NE and NW.
abbrev pub triangles : (Place → Bool) → List Place → ℕ
triangles o ps =
    how_many (λ p. o (step p E) && o (step p NE)) ps
    + how_many (λ p. o (step p NE) && o (step p NW)) ps

-- the places, minus the pairs, plus the triangles
abbrev pub euler_of : (Place → Bool) → List Place → ℤ
euler_of o ps = pos (length ps + triangles o ps) -ℤ pos (touching o ps)

-- On a board

abbrev pub euler_number : Stacks → ℤ
euler_number b = euler_of (is_occupied b) (places_of b)

-- The number of arcs that the occupied neighbours of a place form. It is 0 if all six are occupied.
abbrev pub arcs_at : Stacks → Place → ℕ
arcs_at b p = arcs (ring_mask (ring (is_occupied b) p))

-- What a piece changes

-- A piece on an empty place adds 1, minus the arcs around it.
abbrev pub PutLaw : Type 0
PutLaw =
    (b : Stacks) → IsBoard b → (x : ℕ) (p : Place) → height_at b p ≡ 0
    → euler_number (put b x p) ≡ (euler_number b +ℤ pos 1) -ℤ pos (arcs_at b p)

-- On an occupied place it adds nothing.
abbrev pub PutOnLaw : Type 0
PutOnLaw =
    (b : Stacks) → IsBoard b → (x : ℕ) (p : Place) → 0 < height_at b p
    → euler_number (put b x p) ≡ euler_number b

-- A place that is cleared takes away 1, minus the arcs around it.
abbrev pub ClearedLaw : Type 0
ClearedLaw =
    (b : Stacks) → IsBoard b → (p : Place) → IsTrue (is_occupied b p)
    → euler_number b ≡ (euler_number (cleared b p) +ℤ pos 1) -ℤ pos (arcs_at b p)

-- So does a piece that is lifted from the ground and alone on its place.
abbrev pub LiftLaw : Type 0
LiftLaw =
    (b : Stacks) → IsBoard b → (x : ℕ) (p : Place) → StandsAt b x p 0 → height_at b p ≡ 1
    → euler_number b ≡ (euler_number (lift b x) +ℤ pos 1) -ℤ pos (arcs_at b p)

-- A piece that is lifted from another takes nothing away.
abbrev pub LiftOffLaw : Type 0
LiftOffLaw =
    (b : Stacks) → IsBoard b → (x : ℕ) (p : Place) (level : ℕ) → StandsAt b x p level
    → height_at b p ≡ level + 1 → 0 < level → euler_number (lift b x) ≡ euler_number b

-- Parts

-- If each occupied place is joined to one on a list by a walk over occupied places, the number is
-- at most the length of that list.
abbrev pub PartsLaw : Type 0
PartsLaw =
    (b : Stacks) → IsBoard b → (ends : List Place)
    → ((p : Place) → IsTrue (is_occupied b p)
    → (q : Place) × IsOn ends q × ((walk : List Place) × WalkOn (is_occupied b) p walk q))
    → euler_number b ≤ℤ pos (length ends)

-- So it is at most 1 for one hive.
abbrev pub OneHiveLaw : Type 0
OneHiveLaw = (b : Stacks) → IsBoard b → OneHive b → euler_number b ≤ℤ pos 1

-- Cut places by their arcs

-- A place of one hive with fewer than two arcs around it is not separating, since its neighbours
-- are joined around it.
abbrev pub FewArcsLaw : Type 0
FewArcsLaw =
    (b : Stacks) → OneHive b → (p : Place) → arcs_at b p ≤ 1 → ¬ IsSeparating b p

-- On one hive with Euler's number 1, which has no hole, an occupied place is separating exactly if
-- it has two or more arcs around it.
abbrev pub ArcsCutLaw : Type 0
ArcsCutLaw =
    (b : Stacks) → IsBoard b → OneHive b → euler_number b ≡ pos 1 → (p : Place)
    → IsTrue (is_occupied b p) → IsSeparating b p ↔ 2 ≤ arcs_at b p

-- For any Euler's number, an occupied place is separating if the number and the arcs around the
-- place add up to 3 or more. Without the place, the number would be 2 or more.
abbrev pub ManyArcsLaw : Type 0
ManyArcsLaw =
    (b : Stacks) → IsBoard b → (p : Place) → IsTrue (is_occupied b p)
    → pos 3 ≤ℤ (euler_number b +ℤ pos (arcs_at b p)) → IsSeparating b p
