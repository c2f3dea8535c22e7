-- One hive, separating places and cut places.
use Rattle.std.specs.Prelude.{◌≡◌, Bool, not, ◌&&◌, nat_eq, List, [], ◌∷◌, length, IsTrue}
use Rattle.std.specs.List.{list_any, list_all}
use Rattle.hive_model.specs.declared.places.Place.{Place}
use Rattle.hive_model.specs.Lists.{IsPath, flood}
use Rattle.hive_model.specs.Places.{is_place, step, dirs, AreNeighbours}
use Rattle.hive_model.specs.Boards.{Stacks, height_at, is_occupied, places_of, cleared}

-- Walks over a set of places

-- one step, to a neighbour that is in the set
abbrev pub StepOn : (Place → Bool) → Place → Place → Type 0
StepOn o p q = AreNeighbours p q × IsTrue (o q)

-- A walk is a list of places of the set, each a neighbour of the one before it.
abbrev pub WalkOn : (Place → Bool) → Place → List Place → Place → Type 0
WalkOn o p walk q = IsTrue (o p) × IsPath (StepOn o) p walk q

-- A set is one hive if any two of its places are joined by a walk over it. The empty set is one
-- hive.
abbrev pub OneHiveOn : (Place → Bool) → Type 0
OneHiveOn o = (p q : Place) → IsTrue (o p) → IsTrue (o q) → (walk : List Place) × WalkOn o p walk q

-- the set without a place
abbrev pub except : (Place → Bool) → Place → Place → Bool
except o q p = not (is_place q p) && o p

-- On a board, the set is that of the occupied places.

-- any two occupied places are joined by a walk over occupied places
abbrev pub OneHive : Stacks → Type 0
OneHive b = OneHiveOn (is_occupied b)

-- A place is separating if it is occupied and the board without its pieces is not one hive.
abbrev pub IsSeparating : Stacks → Place → Type 0
IsSeparating b p = IsTrue (is_occupied b p) × (¬ OneHiveOn (except (is_occupied b) p))

-- A cut place is a separating place of height 1.
pub record IsCut (b : Stacks) (p : Place) : Type 0 where
  pub alone : height_at b p ≡ 1
  pub separates : IsSeparating b p

-- The tests of these

abbrev pub are_neighbours : Place → Place → Bool
are_neighbours p q = list_any (λ d. is_place (step p d) q) dirs

abbrev pub on_list : List Place → Place → Bool
on_list ps q = list_any (λ p. is_place p q) ps

abbrev pub all_met : List Place → List Place → Bool
all_met ps found = list_all (on_list found) ps

-- From each occupied place a search by neighbours meets all occupied places.
abbrev pub is_one : Stacks → Bool
is_one b =
    list_all (λ p. all_met (places_of b)
    (p ∷ flood are_neighbours (length (places_of b)) (p ∷ []) (places_of b))) (places_of b)

abbrev pub is_separating : Stacks → Place → Bool
is_separating b p = is_occupied b p && not (is_one (cleared b p))

abbrev pub is_cut : Stacks → Place → Bool
is_cut b p = nat_eq (height_at b p) 1 && not (is_one (cleared b p))
