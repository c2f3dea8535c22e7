-- Steps of a piece to a neighbour, on the board from which the moving piece was lifted.
use Rattle.std.specs.Prelude.{◌≡◌, max, Bool, false, not, ◌&&◌, ◌||◌, nat_eq, nat_lt, IsTrue, ◌⊎◌}
use Rattle.std.specs.List.{list_any}
use Rattle.hive_model.specs.declared.places.Place.{Place}
use Rattle.hive_model.specs.declared.places.Dir.{Dir}
use Rattle.hive_model.specs.Places.{is_place, step, dirs, dir_before, dir_after}
use Rattle.hive_model.specs.Boards.{Stacks, height_at, is_occupied}

-- A step is blocked if both common neighbours are higher than each of its two places.
abbrev pub is_blocked : Stacks → Place → Dir → Bool
is_blocked b p d =
    nat_lt (max (height_at b p) (height_at b (step p d))) (height_at b (step p (dir_before d)))
    && nat_lt (max (height_at b p) (height_at b (step p d))) (height_at b (step p (dir_after d)))

-- A ground step goes from an empty place to an empty neighbour, and exactly one of the common
-- neighbours is occupied. With none, the piece would leave the hive on its way. With
-- both, it does not fit through the gate.
pub record GroundStep (b : Stacks) (p q : Place) : Type 0 where
  pub dir : Dir
  pub leads : step p dir ≡ q
  pub from_empty : height_at b p ≡ 0
  pub to_empty : height_at b q ≡ 0
  -- exactly one of the two common neighbours is occupied
  pub beside : is_occupied b (step p (dir_before dir))
      ≡ not (is_occupied b (step p (dir_after dir)))

-- a step that is not blocked
pub record FreeStep (b : Stacks) (p q : Place) : Type 0 where
  pub dir : Dir
  pub leads : step p dir ≡ q
  pub free : is_blocked b p dir ≡ false

-- A climbing step is not blocked, and at least one of its two places is occupied.
pub record ClimbingStep (b : Stacks) (p q : Place) : Type 0 where
  pub dir : Dir
  pub leads : step p dir ≡ q
  pub free : is_blocked b p dir ≡ false
  pub high : IsTrue (is_occupied b p) ⊎ IsTrue (is_occupied b q)

-- The tests of these

abbrev pub ground_at : Stacks → Place → Dir → Bool
ground_at b p d = nat_eq (height_at b p) 0 && (nat_eq (height_at b (step p d)) 0
    && (is_occupied b (step p (dir_before d)) && not (is_occupied b (step p (dir_after d)))
    || not (is_occupied b (step p (dir_before d))) && is_occupied b (step p (dir_after d))))

abbrev pub is_ground_step : Stacks → Place → Place → Bool
is_ground_step b p q = list_any (λ d. is_place (step p d) q && ground_at b p d) dirs

abbrev pub climb_at : Stacks → Place → Dir → Bool
climb_at b p d = not (is_blocked b p d) && (is_occupied b p || is_occupied b (step p d))

abbrev pub is_climbing_step : Stacks → Place → Place → Bool
is_climbing_step b p q = list_any (λ d. is_place (step p d) q && climb_at b p d) dirs

-- the step from p to a neighbour is not blocked
abbrev pub is_free : Stacks → Place → Place → Bool
is_free b p q = list_any (λ d. is_place (step p d) q && not (is_blocked b p d)) dirs
