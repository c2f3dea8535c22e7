-- Steps lead to places at the hive, and away from where they begin.
use Rattle.std.proofs.Common.{Bool, false, ◌≡◌, ◌≢◌, ◌⊎◌, inl, inr, refl, sym, ◌∙◌, subst}
use Rattle.std.specs.Prelude.{IsTrue}
use Rattle.hive_model.specs.declared.places.Place.{Place}
use Rattle.hive_model.specs.Lists.{IsOn}
use Rattle.hive_model.specs.Places.{step, is_place, IsWithin}
use Rattle.hive_model.specs.Boards.{Stacks, is_occupied, IsBoard}
use Rattle.hive_model.specs.Near.{near}
use Rattle.hive_model.specs.Steps.{GroundStep, ClimbingStep, FreeStep}
use Rattle.hive_model.proofs.TouchLaws.{Touched, ground_touches, climb_touches}
use Rattle.hive_model.proofs.LegalLaws.{neighbour_back}
use Rattle.hive_model.proofs.NearLaws.{near_place, near_neighbour, near_within}
use Rattle.hive_model.proofs.ReachLaws.{step_moves}
use Rattle.hive_model.proofs.PlaceLemmas.{false_place}
use Rattle.bug_moves.specs.Adding.{IsAtHive}
use Rattle.bug_moves.specs.Ways.{BeetleStep}

-- a place that is occupied, or beside an occupied one, is at the hive
pub touched_at_hive : (b : Stacks) (q : Place) → Touched b q → IsAtHive b q
touched_at_hive b q (inl here) = (q, here, inl refl)
touched_at_hive b q (inr (d, there)) = (step q d, there, inr (neighbour_back q (step q d) (d, refl)))

pub ground_at_hive : (b : Stacks) (p q : Place) → GroundStep b p q → IsAtHive b q
ground_at_hive b p q h = touched_at_hive b q (ground_touches b p q h)

pub climb_at_hive : (b : Stacks) (p q : Place) → ClimbingStep b p q → IsAtHive b q
climb_at_hive b p q h = touched_at_hive b q (climb_touches b p q h)

pub at_hive_within : (b : Stacks) → IsBoard b → (q : Place) → IsAtHive b q → IsWithin 9500 q
at_hive_within b is q (p, taken, close) = near_within b is q (elim close [
  | inl same ↦ subst (IsOn (near b)) (sym same) (near_place b p taken)
  | inr (d, leads) ↦ subst (IsOn (near b)) leads (near_neighbour b p d taken)
])

pub climb_moves : (b : Stacks) (p q : Place) → ClimbingStep b p q → p ≢ q
climb_moves b p q g same = step_moves p g.dir (g.leads ∙ sym same)

-- a climbing step is a step that is not blocked, from or to an occupied place
pub climbing : (b : Stacks) (p q : Place) → IsTrue (is_occupied b p) ⊎ IsTrue (is_occupied b q) → FreeStep b p q → ClimbingStep b p q
climbing b p q high free = record { dir = free.dir; leads = free.leads; free = free.free; high = high }

pub climbs_free : (b : Stacks) (p q : Place) → ClimbingStep b p q → FreeStep b p q
climbs_free b p q h = record { dir = h.dir; leads = h.leads; free = h.free }

pub creep_at_hive : (b : Stacks) (p q : Place) → BeetleStep b p q → IsAtHive b q
creep_at_hive b p q h = elim h [ inl ground ↦ ground_at_hive b p q ground | inr climb ↦ climb_at_hive b p q climb ]

-- a place that was asked for another and is not it is apart from it
pub apart : (q p : Place) {answer : Bool} → answer ≡ is_place q p → answer ≡ false → p ≢ q
apart q p is other e = false_place q p (sym is ∙ other) (sym e)
