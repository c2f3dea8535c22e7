-- The ways of the bugs, step by step.
use Rattle.std.specs.Prelude.{◌≡◌, ◌≢◌, ℕ, ◌≤◌, ◌<◌, IsTrue, ◌⊎◌}
use Rattle.hive_model.specs.declared.places.Place.{Place}
use Rattle.hive_model.specs.declared.places.Dir.{Dir}
use Rattle.hive_model.specs.Places.{step, steps}
use Rattle.hive_model.specs.Boards.{Stacks, height_at, is_occupied}
use Rattle.hive_model.specs.Steps.{GroundStep, ClimbingStep}
use Rattle.hive_model.specs.Reach.{OverTwo}

-- a step in one direction
abbrev pub Toward : (Place → Place → Type 0) → Place → Dir → Place → Type 0
Toward S p d q = (step p d ≡ q) × S p q

-- a step on the ground that does not lead back to s
abbrev pub StepAway : Stacks → Place → Place → Place → Type 0
StepAway b s p q = (s ≢ q) × GroundStep b p q

-- a step of a beetle
abbrev pub BeetleStep : Stacks → Place → Place → Type 0
BeetleStep b p q = GroundStep b p q ⊎ ClimbingStep b p q

-- a hop in one direction
pub record HopAlong (b : Stacks) (p : Place) (d : Dir) (q : Place) : Type 0 where
  pub far : ℕ
  pub far_enough : 2 ≤ far
  pub leads : steps far p d ≡ q
  pub empty : height_at b q ≡ 0
  pub over : (k : ℕ) → 0 < k → k < far → IsTrue (is_occupied b (steps k p d))

-- a way that may begin in any direction
abbrev pub InSome : (Dir → Place → Type 0) → Place → Type 0
InSome P q = (d : Dir) × P d q

-- a step in one direction to a place that meets S, and the way on from there
abbrev pub Onward : (Place → Type 0) → (Place → Dir → Place → Type 0) → Place → Dir → Place → Type 0
Onward S T p d q = S (step p d) × InSome (T (step p d)) q

-- The last step of a spider that began at s and made its first step to x: it does not go back to
-- either.
abbrev pub ThirdStep : Stacks → Place → Place → Place → Place → Type 0
ThirdStep b s x y q = GroundStep b y q × (s ≢ q) × (x ≢ q)

abbrev pub ThirdToward : Stacks → Place → Place → Place → Dir → Place → Type 0
ThirdToward b s x = Toward (ThirdStep b s x)

-- a spider's second step in one direction, and the third
abbrev pub SecondToward : Stacks → Place → Place → Dir → Place → Type 0
SecondToward b s x = Onward (StepAway b s x) (ThirdToward b s x) x

-- a spider's first step in one direction, and the others
abbrev pub FirstToward : Stacks → Place → Dir → Place → Type 0
FirstToward b s = Onward (GroundStep b s) (SecondToward b s) s

-- a step of a ladybug up or along
abbrev pub OnTop : Stacks → Place → Place → Type 0
OnTop b p q = IsTrue (is_occupied b q) × ClimbingStep b p q

-- the last step of a ladybug that began at s, not back to there
abbrev pub StepDown : Stacks → Place → Place → Place → Type 0
StepDown b s y q = (height_at b q ≡ 0) × (s ≢ q) × ClimbingStep b y q

abbrev pub DownToward : Stacks → Place → Place → Dir → Place → Type 0
DownToward b s = Toward (StepDown b s)

-- a ladybug's second step in one direction, and the third
abbrev pub AlongToward : Stacks → Place → Place → Dir → Place → Type 0
AlongToward b s x = Onward (OnTop b x) (DownToward b s) x

-- a ladybug's first step in one direction, and the others
abbrev pub UpToward : Stacks → Place → Dir → Place → Type 0
UpToward b s = Onward (OnTop b s) (AlongToward b s) s

-- a ladybug's way to another place
abbrev pub OverTwoAway : Stacks → Place → Place → Type 0
OverTwoAway b s q = (s ≢ q) × OverTwo b s q
