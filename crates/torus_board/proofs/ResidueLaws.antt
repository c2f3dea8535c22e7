-- The places close to one hive have cells of their own.
use Rattle.std.proofs.Common.{ℕ, ◌≤◌, ◌<◌, List, [], ◌∷◌, length, subst, arith, ℤ, pos, ◌+ℤ◌, ◌≤ℤ◌}
use Rattle.std.specs.Prelude.{IsTrue}
use Rattle.std.proofs.lemmas.Int.{ints}
use Rattle.hive_model.specs.declared.places.Place.{Place}
use Rattle.hive_model.specs.declared.places.Dir.{Dir}
use Rattle.hive_model.specs.Places.{step}
use Rattle.hive_model.specs.Boards.{Stacks, is_occupied}
use Rattle.hive_model.proofs.LegalLaws.{opposite, back}
use Rattle.torus_board.specs.Residues.{after_steps, IsClose, ResidueLaw}
use Rattle.rule_laws.proofs.SpanLaws.{Slow, slow_q, slow_r, law as span_law}
use Rattle.torus_board.proofs.Cells.{cell_once}

steps_up : (f : Place → ℤ) → Slow f → (p : Place) (ds : List Dir) → f (after_steps p ds) ≤ℤ (f p +ℤ pos (length ds))
steps_up f slow p [] = omega (arith, ints)
steps_up f slow p (d ∷ ds) =
    let rest = steps_up f slow (step p d) ds in
    let one = slow p d in
    omega (arith, ints, rest, one)

steps_down : (f : Place → ℤ) → Slow f → (p : Place) (ds : List Dir) → f p ≤ℤ (f (after_steps p ds) +ℤ pos (length ds))
steps_down f slow p [] = omega (arith, ints)
steps_down f slow p (d ∷ ds) =
    let rest = steps_down f slow (step p d) ds in
    let one : f p ≤ℤ (f (step p d) +ℤ pos 1) = subst (λ z. f z ≤ℤ (f (step p d) +ℤ pos 1)) (back p d) (slow (step p d) (opposite d)) in
    omega (arith, ints, rest, one)

-- two coordinates near two that differ by at most 27
reach : (n i j : ℕ) (x x0 y y0 : ℤ) → 32 ≤ n → i ≤ 2 → j ≤ 2 → x ≤ℤ (x0 +ℤ pos i) → x0 ≤ℤ (y0 +ℤ pos 27) → y0 ≤ℤ (y +ℤ pos j) → (x +ℤ pos 1) ≤ℤ (y +ℤ pos n)
reach n i j x x0 y y0 side hi hj a b c = omega (arith, ints, side, hi, hj, a, b, c)

module _ (b : Stacks) (f : Place → ℤ) (slow : Slow f) (span : (p q : Place) → IsTrue (is_occupied b p) → IsTrue (is_occupied b q) → f p ≤ℤ (f q +ℤ pos 27)) (n : ℕ) (side : 32 ≤ n) where
  close : (p q : Place) → IsClose b p → IsClose b q → (f p +ℤ pos 1) ≤ℤ (f q +ℤ pos n)
  close p q hp hq =
      reach n (length hp.way) (length hq.way) (f p) (f hp.from) (f q) (f hq.from) side hp.short hq.short
      (subst (λ z. f z ≤ℤ (f hp.from +ℤ pos (length hp.way))) hp.leads (steps_up f slow hp.from hp.way))
      (span hp.from hq.from hp.occupied hq.occupied)
      (subst (λ z. f hq.from ≤ℤ (f z +ℤ pos (length hq.way))) hq.leads (steps_down f slow hq.from hq.way))

pub law : ResidueLaw
law n side b is one p q hp hq same =
    let some : 0 < n = omega (arith, side) in
    let span_q : (p q : Place) → IsTrue (is_occupied b p) → IsTrue (is_occupied b q) → p.q ≤ℤ (q.q +ℤ pos 27) = (λ p q hp hq. (span_law b is one q p hq hp).0) in
    let span_r : (p q : Place) → IsTrue (is_occupied b p) → IsTrue (is_occupied b q) → p.r ≤ℤ (q.r +ℤ pos 27) = (λ p q hp hq. (span_law b is one q p hq hp).1) in
    cell_once n p q some (record {
      q_up = close b (λ p. p.q) slow_q span_q n side p q hp hq;
      q_down = close b (λ p. p.q) slow_q span_q n side q p hq hp;
      r_up = close b (λ p. p.r) slow_r span_r n side p q hp hq;
      r_down = close b (λ p. p.r) slow_r span_r n side q p hq hp;
    }) same
