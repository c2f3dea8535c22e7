-- What a move that is tried first leaves of a window, and what was found about the rest.
use Rattle.std.proofs.Common.{◌≡◌, ◌-◌, ◌≤ℤ◌, ◌<ℤ◌, ℕ, ℤ, true, false, Option, to_z, of_z, ap, arith, ◌∙◌}
use Rattle.std.specs.Int.{int_max}
use Rattle.std.proofs.lemmas.Int.{ints, clamps, to_z-of_z}
use mir.Val.{SFits}
use mir.Syntax.{w32}
use lib.Signed.{le_z}
use Rattle.hive_model.specs.Positions.{Position}
use Rattle.hive_model.specs.declared.places.Move.{Move}
use Rattle.hive_model.specs.Minimax.{value, reply_value}
use Rattle.hive_model.specs.Histories.{History, position}
use Rattle.search_laws.specs.declared.window.Window.{Window}
use Rattle.search_laws.specs.Found.{IsFound, IsOpen}
use Rattle.search_laws.proofs.Signs.{at-least, below}
use Rattle.search_laws.proofs.HintLaws.{Raised, first-raised, reply-here, found-here}
use Rattle.search_core.specs.Times.{IsAtMost, IsTriedEarly}
use Rattle.search_core.proofs.CreditLaws.{Lifted, lifted, lifted-then, lifted-open, lifted-found, at_most-more, max-right, early-cut, tried-here}

-- the rest of a window, after the move at the place, which is worth no more than its lower end
pub record Rest (p : Position) (d : ℕ) (w rest : Window) (place : Option ℕ) : Type 0 where
  pub up : Lifted (value p d) w rest
  pub open_ : IsOpen rest
  pub most : IsAtMost p (d - 1) rest.alpha place

-- the lower end of a window is as the code has it
alpha-coded : (w : Window) → IsOpen w → to_z w32 (of_z w32 w.alpha) ≡ w.alpha
alpha-coded w wide = omega (arith, ints, wide.open_, wide.alpha, wide.beta)

-- and so is the upper end
pub beta-coded : (w : Window) → IsOpen w → to_z w32 (of_z w32 w.beta) ≡ w.beta
beta-coded w wide = omega (arith, ints, wide.open_, wide.alpha, wide.beta)

-- the lower end fits
alpha-fits : (w : Window) → IsOpen w → SFits w32 w.alpha
alpha-fits w wide = omega (arith, ints, wide.open_, wide.alpha, wide.beta)

-- the upper end fits
beta-fits : (w : Window) → IsOpen w → SFits w32 w.beta
beta-fits w wide = omega (arith, ints, wide.open_, wide.alpha, wide.beta)

-- a window with a raised lower end is a window too
pub open-raised : (w : Window) (alpha : ℤ) → IsOpen w → w.alpha ≤ℤ alpha → alpha <ℤ w.beta → IsOpen (record { alpha = alpha; beta = to_z w32 (of_z w32 w.beta) })
open-raised w alpha wide low high =
    let beta = beta-coded w wide in let least = wide.alpha in let most = wide.beta in
    record { open_ = omega (arith, ints, beta, high); alpha = omega (arith, ints, least, low); beta = omega (arith, ints, beta, most) }

-- what is at most a number is at most a greater one
pub at-most-then : (a b c : ℤ) → a ≤ℤ b → b ≤ℤ c → a ≤ℤ c
at-most-then a b c x y = omega (arith, ints, x, y)

-- the greater of the lower end and an answer below the upper end, as the code computes it
top-coded : (w : Window) (v r : ℤ) → IsOpen w → SFits w32 v → v <ℤ w.beta → r ≡ int_max (to_z w32 (of_z w32 w.alpha)) (to_z w32 (of_z w32 v)) → to_z w32 (of_z w32 r) ≡ int_max w.alpha v
top-coded w v r wide fits under e =
    let is : r ≡ int_max w.alpha v = e ∙ ap (λ z. int_max z (to_z w32 (of_z w32 v))) (alpha-coded w wide) ∙ ap (int_max w.alpha) (to_z-of_z w32 v fits) in
    omega (arith, ints, clamps, is, wide.open_, wide.alpha, wide.beta, under)

-- what is left of a window after an early try that did not reach the upper end
pub rest-after : (start now : History) (d : ℕ) (w : Window) (v r : ℤ) (place : Option ℕ) → now ≡ start → IsOpen w → SFits w32 v
    → r ≡ int_max (to_z w32 (of_z w32 w.alpha)) (to_z w32 (of_z w32 v)) → le_z (to_z w32 (of_z w32 w.beta)) (to_z w32 (of_z w32 v)) ≡ false
    → IsTriedEarly (position now) d w v place → Rest (position start) d w (record { alpha = to_z w32 (of_z w32 r); beta = to_z w32 (of_z w32 w.beta) }) place
rest-after start now d w v r place same wide fits e test tried =
    let p = position start in
    let rest : Window = record { alpha = to_z w32 (of_z w32 r); beta = to_z w32 (of_z w32 w.beta) } in
    let here : IsTriedEarly p d w v place = tried-here start now d w v place same tried in
    let under : v <ℤ w.beta = below w.beta v (beta-fits w wide) fits test in
    let top : rest.alpha ≡ int_max w.alpha v = top-coded w v r wide fits under e in
    let up : Lifted (value p d) w rest = lifted p d w rest v place (beta-coded w wide) top under wide.open_ here in
    record {
      up = up;
      open_ = lifted-open (value p d) w rest wide up;
      most = at_most-more p (d - 1) v rest.alpha place (max-right w.alpha v rest.alpha top) (here.low under);
    }

-- what is left after a second early try
pub rest-then : (p : Position) (d : ℕ) (w inner rest : Window) (one two : Option ℕ) → Rest p d w inner one → Rest p d inner rest two → Rest p d w rest one
rest-then p d w inner rest one two x y = record {
  up = lifted-then (value p d) w inner rest x.up y.up;
  open_ = y.open_;
  most = at_most-more p (d - 1) inner.alpha rest.alpha one y.up.up x.most;
}

-- what was found about the rest holds of the window
pub rest-found : (start now : History) (d : ℕ) (w rest : Window) (place : Option ℕ) (r : ℤ) → now ≡ start → w.alpha <ℤ w.beta → Rest (position start) d w rest place
    → IsFound (value (position now) d) rest r → IsFound (value (position start) d) w r
rest-found start now d w rest place r same wide x found = lifted-found (value (position start) d) w rest r wide x.up (found-here start now d rest r same found)

-- a second early try that reaches the upper end of the rest
pub rest-cut : (start now : History) (d : ℕ) (w rest : Window) (one two : Option ℕ) (v : ℤ) → now ≡ start → w.alpha <ℤ w.beta → Rest (position start) d w rest one → SFits w32 v
    → le_z (to_z w32 (of_z w32 rest.beta)) (to_z w32 (of_z w32 v)) ≡ true → IsTriedEarly (position now) d rest v two → IsFound (value (position start) d) w v
rest-cut start now d w rest one two v same wide x fits test tried =
    let p = position start in
    let high : rest.beta ≤ℤ v = at-least rest.beta v (beta-fits rest x.open_) fits test in
    lifted-found (value p d) w rest v wide x.up (early-cut p d rest v two x.open_.open_ high (tried-here start now d rest v two same tried))

-- the rest of a window after a first move of this worth
pub record FirstRest (worth : ℤ) (w rest : Window) : Type 0 where
  pub is : rest.alpha ≡ int_max w.alpha worth
  pub beta : rest.beta ≡ w.beta
  pub up : w.alpha ≤ℤ rest.alpha
  pub low : worth ≤ℤ rest.alpha
  pub open_ : IsOpen rest

-- the ends of the rest, from what the lower end was raised to
first-ends : (worth alpha : ℤ) (w : Window) → IsOpen w → Raised worth w alpha → FirstRest worth w (record { alpha = alpha; beta = to_z w32 (of_z w32 w.beta) })
first-ends worth alpha w wide up =
    let is = up.is in let less = up.less in let beta = beta-coded w wide in let low = wide.alpha in let high = wide.beta in let apart = wide.open_ in
    record {
      is = is;
      beta = beta;
      up = omega (arith, ints, clamps, is);
      low = omega (arith, ints, clamps, is);
      open_ = record { open_ = omega (arith, ints, clamps, is, less, apart, beta); alpha = omega (arith, ints, clamps, is, low); beta = omega (arith, ints, beta, high) };
    }

-- the greater of two numbers of the code fits
max-fits : (a b r : ℤ) → r ≡ int_max (to_z w32 (of_z w32 a)) (to_z w32 (of_z w32 b)) → SFits w32 r
max-fits a b r e = omega (arith, ints, clamps, e)

-- what is left of a window after the first move, which did not reach the upper end
pub first-rest : (start now : History) (d : ℕ) (m : Move) (found r : ℤ) (w : Window) → now ≡ start → IsOpen w → SFits w32 found
    → r ≡ int_max (to_z w32 (of_z w32 w.alpha)) (to_z w32 (of_z w32 found)) → le_z (to_z w32 (of_z w32 w.beta)) (to_z w32 (of_z w32 found)) ≡ false
    → IsFound (reply_value (position now) d m) w found → FirstRest (reply_value (position start) d m) w (record { alpha = to_z w32 (of_z w32 r); beta = to_z w32 (of_z w32 w.beta) })
first-rest start now d m found r w same wide fits e test tried =
    let worth = reply_value (position start) d m in
    first-ends worth (to_z w32 (of_z w32 r)) w wide
    (first-raised worth found r w wide (alpha-fits w wide) (beta-fits w wide) fits (max-fits w.alpha found r e) e test (reply-here start now d m w found same tried))
