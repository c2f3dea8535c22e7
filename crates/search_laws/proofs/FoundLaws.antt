-- Laws of what a search finds.
use Rattle.std.proofs.Common.{◌≡◌, ℕ, ◌≤◌, ap, arith, ◌∙◌, ℤ, pos, negsuc, neg_ℤ, ◌≤ℤ◌, ◌<ℤ◌}
use Rattle.std.proofs.lemmas.Int.{ints, clamps, by_lt_z}
use Rattle.std.specs.Int.{int_max}
use Rattle.search_laws.specs.Laws.{IsSmall}
use Rattle.search_laws.specs.declared.window.Window.{Window}
use Rattle.search_laws.specs.Found.{IsFound}

pub IsFound-exact : (v : ℤ) (w : Window) (r : ℤ) → r ≡ v → IsFound v w r
IsFound-exact v w r e = record { exact = λ a b. e; upper = λ a. omega (arith, ints); lower = λ b. omega (arith, ints) }

-- the other side's answer, negated
pub IsFound-neg : (v : ℤ) (w behind : Window) (r s : ℤ) → behind.alpha ≡ neg_ℤ w.beta → behind.beta ≡ neg_ℤ w.alpha → s ≡ neg_ℤ r →
    IsFound v behind r → IsFound (neg_ℤ v) w s
IsFound-neg v w behind r s ea eb es f = record {
  exact = λ a b. es ∙ ap neg_ℤ (f.exact (omega (arith, ints)) (omega (arith, ints)));
  upper = λ a. let k : r ≤ℤ v = f.lower (omega (arith, ints)) in omega (arith, ints);
  lower = λ b. let k : v ≤ℤ r = f.upper (omega (arith, ints)) in omega (arith, ints);
}

-- an answer is no larger than the value and the window allow
pub found-within : (n : ℕ) (v : ℤ) (w : Window) (r : ℤ) → IsSmall n v → n ≤ 1000100 → negsuc 1000099 ≤ℤ w.alpha → w.beta ≤ℤ pos 1000100 →
    w.alpha <ℤ w.beta → IsFound v w r → IsSmall 1000100 r
found-within n v w r small few low high wide f = record {
  low = by_lt_z w.alpha r (λ above. omega (arith, ints)) (λ not. let k : v ≤ℤ r = f.upper not in omega (arith, ints));
  high = by_lt_z r w.beta (λ below. omega (arith, ints)) (λ not. let k : r ≤ℤ v = f.lower not in omega (arith, ints));
}

-- if the answer does not reach beta, the value does not either
pub found-below : (v : ℤ) (w : Window) (r : ℤ) → w.alpha <ℤ w.beta → r <ℤ w.beta → IsFound v w r → v <ℤ w.beta
found-below v w r wide below f =
    by_lt_z w.alpha r
    (λ above. let k : r ≡ v = f.exact above below in omega (arith, ints))
    (λ not. let k : v ≤ℤ r = f.upper not in omega (arith, ints))

-- and then the answer and the value raise alpha alike
pub found-raises : (v : ℤ) (w : Window) (r : ℤ) → r <ℤ w.beta → IsFound v w r → int_max w.alpha r ≡ int_max w.alpha v
found-raises v w r below f =
    by_lt_z w.alpha r
    (λ above. ap (int_max w.alpha) (f.exact above below))
    (λ not. let k : v ≤ℤ r = f.upper not in omega (arith, ints, clamps))

-- an answer at or above beta, of which the value is no less
pub found-cut : (v : ℤ) (w : Window) (r : ℤ) → w.alpha <ℤ w.beta → w.beta ≤ℤ r → r ≤ℤ v → IsFound v w r
found-cut v w r wide cut low = record {
  exact = λ a b. absurd (omega (arith, ints));
  upper = λ a. absurd (omega (arith, ints));
  lower = λ b. low;
}

-- alpha, raised to the value
pub found-raised : (v : ℤ) (w : Window) (r : ℤ) → r <ℤ w.beta → r ≡ int_max w.alpha v → IsFound v w r
found-raised v w r below e = record {
  exact = λ a b. omega (arith, ints, clamps);
  upper = λ a. omega (arith, ints, clamps);
  lower = λ b. absurd (omega (arith, ints));
}
