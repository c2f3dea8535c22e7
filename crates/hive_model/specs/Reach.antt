-- The places that each bug moves to, on the board from which it was lifted.
use Rattle.std.specs.Prelude.{◌≡◌, ◌≢◌, ℕ, suc, zero, ◌-◌, ◌≤◌, ◌<◌, max, ◌-ℤ◌, Bool, true, false, not, ◌&&◌, ◌||◌, nat_eq, nat_le, List, [], ◌∷◌, length, Option, Some, None, IsTrue, ◌⊎◌, if◌then◌else◌}
use Rattle.std.specs.List.{list_any}
use Rattle.std.specs.Int.RustNames.{unsigned_abs}
use Rattle.hive_model.specs.declared.pieces.Kind.{Kind}
use Rattle.hive_model.specs.declared.pieces.Kind.TheVariants.{Queen, Spider, Beetle, Grasshopper, Ant, Mosquito, Ladybug, Pillbug}
use Rattle.hive_model.specs.declared.places.Place.{Place}
use Rattle.hive_model.specs.declared.places.Dir.{Dir}
use Rattle.hive_model.specs.Lists.{IsPath, flood}
use Rattle.hive_model.specs.Pieces.{kind_of, is_kind}
use Rattle.hive_model.specs.Places.{is_place, step, steps, dirs, neighbours}
use Rattle.hive_model.specs.Boards.{Stacks, height_at, is_occupied, top_at}
use Rattle.hive_model.specs.Hive.{on_list}
use Rattle.hive_model.specs.Steps.{GroundStep, ClimbingStep, is_ground_step, is_climbing_step}
use Rattle.hive_model.specs.Near.{near}

-- A grasshopper hops in one direction over one or more occupied places in a row, and lands on the
-- first empty place behind them.
pub record Hop (b : Stacks) (p q : Place) : Type 0 where
  pub dir : Dir
  pub far : ℕ
  pub far_enough : 2 ≤ far
  pub leads : steps far p dir ≡ q
  pub empty : height_at b q ≡ 0
  pub over : (k : ℕ) → 0 < k → k < far → IsTrue (is_occupied b (steps k p dir))

-- A spider makes three ground steps, and its four places are distinct.
pub record ThreeSteps (b : Stacks) (p q : Place) : Type 0 where
  pub first : Place
  pub second : Place
  pub one : GroundStep b p first
  pub two : GroundStep b first second
  pub three : GroundStep b second q
  pub apart : (p ≢ first) × (p ≢ second) × (p ≢ q) × (first ≢ second) × (first ≢ q) × (second ≢ q)

-- A ladybug climbs onto an occupied place, goes on to a second occupied one, and steps down to an
-- empty one.
pub record OverTwo (b : Stacks) (p q : Place) : Type 0 where
  pub first : Place
  pub second : Place
  pub up : ClimbingStep b p first
  pub along : ClimbingStep b first second
  pub down : ClimbingStep b second q
  pub first_occupied : IsTrue (is_occupied b first)
  pub second_occupied : IsTrue (is_occupied b second)
  pub empty : height_at b q ≡ 0

-- How each kind moves. A queen or a pillbug makes one ground step. A beetle makes one ground step
-- or one climbing step. An ant makes any number of ground steps. A mosquito has no rule of its own.
abbrev pub ReachBy : Kind → Stacks → Place → Place → Type 0
ReachBy Queen b p q = GroundStep b p q
ReachBy Pillbug b p q = GroundStep b p q
ReachBy Beetle b p q = GroundStep b p q ⊎ ClimbingStep b p q
ReachBy Grasshopper b p q = Hop b p q
ReachBy Ant b p q = (way : List Place) × IsPath (GroundStep b) p way q
ReachBy Spider b p q = ThreeSteps b p q
ReachBy Ladybug b p q = OverTwo b p q
ReachBy Mosquito b p q = ⊥

-- a bug that was lifted from p moves to a place q that is not p
abbrev pub Reach : Kind → Stacks → Place → Place → Type 0
Reach k b p q = (p ≢ q) × ReachBy k b p q

-- A mosquito that was lifted from p moves as a neighbouring top piece that is not a mosquito.
pub record CopiesOne (b : Stacks) (p q : Place) : Type 0 where
  pub dir : Dir
  pub other : ℕ
  pub stands : top_at b (step p dir) ≡ Some other
  pub copied : kind_of other ≢ Mosquito
  pub reach : Reach (kind_of other) b p q

-- A mosquito on a stack moves as a beetle. On the ground it moves as a piece that it touches.
abbrev pub Copies : Stacks → Place → Place → Type 0
Copies b p q =
    (IsTrue (is_occupied b p) × Reach Beetle b p q) ⊎ ((height_at b p ≡ 0) × CopiesOne b p q)

-- Every kind moves by its own rule, and the mosquito by what it copies.
abbrev pub MovesAs : Kind → Stacks → Place → Place → Type 0
MovesAs Mosquito b p q = Copies b p q
MovesAs Queen b p q = Reach Queen b p q
MovesAs Spider b p q = Reach Spider b p q
MovesAs Beetle b p q = Reach Beetle b p q
MovesAs Grasshopper b p q = Reach Grasshopper b p q
MovesAs Ant b p q = Reach Ant b p q
MovesAs Ladybug b p q = Reach Ladybug b p q
MovesAs Pillbug b p q = Reach Pillbug b p q

-- The tests of these

abbrev pub all_over : Stacks → ℕ → Place → Dir → Bool
all_over b zero p d = true
all_over b (suc k) p d = is_occupied b (steps (suc k) p d) && all_over b k p d

-- the distance of two places that one direction joins
abbrev pub line_length : Place → Place → ℕ
line_length p q = max (unsigned_abs (q.q -ℤ p.q)) (unsigned_abs (q.r -ℤ p.r))

abbrev pub is_hop : Stacks → Place → Place → Bool
is_hop b p q = nat_le 2 (line_length p q) && (nat_eq (height_at b q) 0
    && list_any (λ d. is_place (steps (line_length p q) p d) q
    && all_over b (line_length p q - 1) p d) dirs)

abbrev pub is_three_steps : Stacks → Place → Place → Bool
is_three_steps b p q =
    list_any (λ x. is_ground_step b p x
    && list_any (λ y. is_ground_step b x y && (is_ground_step b y q
    && (not (is_place p y) && not (is_place x q)))) (neighbours x)) (neighbours p)

abbrev pub is_over_two : Stacks → Place → Place → Bool
is_over_two b p q =
    nat_eq (height_at b q) 0 && list_any (λ x. is_occupied b x && (is_climbing_step b p x
    && list_any (λ y. is_occupied b y && (is_climbing_step b x y && is_climbing_step b y q))
    (neighbours x))) (neighbours p)

abbrev pub is_ant_way : Stacks → Place → Place → Bool
is_ant_way b p q = on_list (flood (is_ground_step b) (length (near b)) (p ∷ []) (near b)) q

abbrev pub reaches_by : Kind → Stacks → Place → Place → Bool
reaches_by Queen b p q = is_ground_step b p q
reaches_by Pillbug b p q = is_ground_step b p q
reaches_by Beetle b p q = is_ground_step b p q || is_climbing_step b p q
reaches_by Grasshopper b p q = is_hop b p q
reaches_by Ant b p q = is_ant_way b p q
reaches_by Spider b p q = is_three_steps b p q
reaches_by Ladybug b p q = is_over_two b p q
reaches_by Mosquito b p q = false

abbrev pub reaches : Kind → Stacks → Place → Place → Bool
reaches k b p q = not (is_place p q) && reaches_by k b p q

abbrev pub copies_one : Stacks → Place → Place → Option ℕ → Bool
copies_one b p q None = false
copies_one b p q (Some y) = not (is_kind (kind_of y) Mosquito) && reaches (kind_of y) b p q

abbrev pub copies : Stacks → Place → Place → Bool
copies b p q =
    if is_occupied b p then reaches Beetle b p q
    else list_any (λ d. copies_one b p q (top_at b (step p d))) dirs

-- a piece of this kind that was lifted from p moves to q
abbrev pub moves_as : Kind → Stacks → Place → Place → Bool
moves_as k b p q = if is_kind k Mosquito then copies b p q else reaches k b p q
