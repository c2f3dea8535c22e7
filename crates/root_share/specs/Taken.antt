-- How a worker leaves a child that it has taken.
use Rattle.std.specs.Prelude.{◌≡◌, ℕ, ◌+◌, ℤ, ◌≤ℤ◌}
use Rattle.std.specs.declared.option.Option.{Option}
use Rattle.atomic_table.specs.declared.shared.Seat.{Seat}
use Rattle.hive_model.specs.declared.places.Move.{Move}
use Rattle.hive_model.specs.Positions.{Position}
use Rattle.root_share.specs.declared.beside.TriedBeside.{TriedBeside}
use Rattle.root_share.specs.declared.beside.TriedBeside.TheVariants.{Closed, Left}
use Rattle.root_share.specs.declared.candidate.Candidate.{Candidate}
use Rattle.root_share.specs.declared.work.Child.{Child}
use Rattle.root_share.specs.declared.work.RootWork.{RootWork}
use Rattle.root_share.specs.Answer.{IsAnswer, IsTried, child_cost}
use Rattle.root_share.specs.Children.{child_worth}
use Rattle.root_share.specs.Word.{Known, IsSeatOf}

-- The seat is at the shared word, and still knows the root and the depth.
abbrev pub KeepsRoot : {G T : Type 0} → RootWork G T → Seat (Unit {0}) Known
    → Seat (Unit {0}) Known → Type 0
KeepsRoot work seat later = IsSeatOf work.word.now.table_id seat.me.0.root work.depth later

-- The child is closed, and it is an answer if its value was found. The seat still knows the root.
-- It knows a bound that is at least the one given and at least the value of the child.
pub record IsClosed {G T : Type 0} (work : RootWork G T) (child : Child) (bound : ℤ)
    (seat later : Seat (Unit {0}) Known) (found : Option Candidate) : Type 0 where
  pub knows : KeepsRoot work seat later
  pub answer : IsAnswer seat.me.0.root work.depth (λ i. i ≡ child.place) found
  pub least : bound ≤ℤ later.me.0.top
  pub worth : child_worth seat.me.0.root work.depth child ≤ℤ later.me.0.top

-- A worker has tried the child that it begins with, and has left or closed it. The seat still knows
-- the root, and a bound that is no lower than before.
pub record HasTried {G T : Type 0} (work : RootWork G T) (child : Child)
    (seat later : Seat (Unit {0}) Known) (tried : TriedBeside) : Type 0 where
  pub knows : KeepsRoot work seat later
  pub came : IsTried seat.me.0.root work.depth child.place later.me.0.top tried
  pub grows : seat.me.0.top ≤ℤ later.me.0.top

-- The plays that the first child of a worker may cost. If it was closed, a move that seems to win
-- may have been played before it.
abbrev pub first_cost : Position → ℕ → Move → ℤ → TriedBeside → ℕ
first_cost p d m bound (Closed found) = 1 + child_cost p d m bound
first_cost p d m bound Left = child_cost p d m bound
