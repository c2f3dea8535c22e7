-- Each play of a search is counted, and the clock is read in time.
use Rattle.std.proofs.Common.{◌≡◌, ℕ, ◌+◌, ◌-◌, ◌^◌, ◌<◌, Bool, true, false, min, refl, sym, ap, subst, arith, ◌∙◌, nat_eq}
use Rattle.std.specs.Prelude.{is_some, ◌&&◌, if◌then◌else◌}
use Rattle.std.proofs.lemmas.Bool.Decides.{nat_tests}
use Rattle.io_edge.specs.Outside.{one_more}
use Rattle.search_core.specs.Ticks.{Ticks, is_due, has_come, IsInTime, CountsPlays}

-- ---- in time

pub in_time-none : (t : Ticks) (l : ℕ) → IsInTime t l l
in_time-none t l = record { late = λ come. refl }

pub in_time-then : (a b : Ticks) (l0 l1 l2 : ℕ) → b.deadline ≡ a.deadline → IsInTime a l0 l1 → IsInTime b l1 l2 → IsInTime a l0 l2
in_time-then a b l0 l1 l2 same x y = record {
  late = λ come.
      let last : l2 ≡ l1 = y.late (ap (λ d. has_come d l2) same ∙ come) in
      last ∙ x.late (ap (has_come a.deadline) (sym last) ∙ come);
}

-- a play at which the search is not stopped
pub in_time-tick : (a : Ticks) (l0 l1 : ℕ) (stop due : Bool) → stop ≡ false → is_due a ≡ due
    → (is_due a ≡ true → stop ≡ has_come a.deadline l1) → (is_due a ≡ false → l1 ≡ l0) → IsInTime a l0 l1
in_time-tick a l0 l1 stop false goes e read unread = record { late = λ come. unread e }
in_time-tick a l0 l1 stop true goes e read unread = record { late = λ come. let told = read e in absurd (cc) }

-- ---- each play

pub counts-none : (t : Ticks) (r n : ℕ) → CountsPlays t t r r n n
counts-none t r n = record { each = λ some below few. (refl, omega arith, omega arith); few = λ h. h }

pub counts-then : (a b c : Ticks) (r0 r1 r2 n0 n1 n2 : ℕ) → b.deadline ≡ a.deadline → CountsPlays a b r0 r1 n0 n1 → CountsPlays b c r1 r2 n1 n2 → CountsPlays a c r0 r2 n0 n2
counts-then a b c r0 r1 r2 n0 n1 n2 same x y = record {
  each = λ some below few.
      let rest = y.each (ap is_some same ∙ some) below few in
      let first = x.each some (omega (arith, rest.1, below)) (omega (arith, rest.2, few)) in
      (omega (arith, first.0, rest.0), omega (arith, first.1, rest.1), omega (arith, first.2, rest.2));
  few = λ h. y.few (x.few h);
}

-- nothing was played before, or after
pub counts-here : (a b : Ticks) (r0 r1 n0 n1 n2 n3 : ℕ) → n1 ≡ n0 → n3 ≡ n2 → CountsPlays a b r0 r1 n1 n2 → CountsPlays a b r0 r1 n0 n3
counts-here a b r0 r1 n0 n1 n2 n3 before after x = subst (λ (n : ℕ). CountsPlays a b r0 r1 n0 n) (sym after) (subst (λ (n : ℕ). CountsPlays a b r0 r1 n n2) before x)

few-after : (a b : Ticks) (some : Bool) → is_some a.deadline ≡ some → is_due a ≡ false → b.plays ≡ (if some then a.plays + 1 else a.plays) → a.plays < 256 → b.plays < 256
few-after a b false here due plays few = omega (arith, plays, few)
few-after a b true here due plays few =
    let not : nat_eq a.plays 255 ≡ false = sym (ap (λ t. t && nat_eq a.plays 255) here) ∙ due in
    let other : (a.plays ≡ 255) → ⊥ = grind (arith, nat_tests, not) in
    omega (arith, plays, few, other)

-- a play that is counted
pub counts-tick : (a b : Ticks) (r0 r1 l0 l1 n0 n1 : ℕ) (stop due : Bool) → n1 ≡ min (n0 + 1) (2 ^ 64 - 1) → is_due a ≡ due
    → (is_due a ≡ false → (stop ≡ false) × (b.plays ≡ (if is_some a.deadline then a.plays + 1 else a.plays)))
    → (is_due a ≡ true → (r1 ≡ one_more r0) × (b.plays ≡ 0) × (stop ≡ has_come a.deadline l1))
    → (is_due a ≡ false → (r1 ≡ r0) × (l1 ≡ l0)) → CountsPlays a b r0 r1 n0 n1
counts-tick a b r0 r1 l0 l1 n0 n1 stop false played e counted read unread = record {
  each = λ some below few.
      let plays : b.plays ≡ a.plays + 1 = (counted e).1 ∙ ap (λ t. if t then a.plays + 1 else a.plays) some in
      (omega (arith, plays, (unread e).0, played, few), omega (arith, (unread e).0), omega (arith, played, few));
  few = few-after a b _ refl e (counted e).1;
}
counts-tick a b r0 r1 l0 l1 n0 n1 stop true played e counted read unread = record {
  each = λ some below few.
      let plays : a.plays ≡ 255 = grind (arith, nat_tests, e) in
      let now = read e in
      (omega (arith, plays, now.0, now.1, played, few, below), omega (arith, now.0, below), omega (arith, played, few));
  few = λ few. let now = read e in omega (arith, now.1);
}
