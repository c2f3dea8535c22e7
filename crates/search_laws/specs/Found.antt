-- What the result of a search means.
use Rattle.std.specs.Prelude.{◌≡◌, ℤ, ◌<ℤ◌, ◌≤ℤ◌}
use Rattle.search_laws.specs.declared.window.Window.{Window}
use Rattle.hive_model.specs.Minimax.{lowest, highest}

-- The result of a search for this value in this window. Inside the window it is the value itself.
-- At or below alpha it is an upper bound, and at or above beta a lower bound.
pub record IsFound (value : ℤ) (window : Window) (answer : ℤ) : Type 0 where
  pub exact : window.alpha <ℤ answer → answer <ℤ window.beta → answer ≡ value
  pub upper : answer ≤ℤ window.alpha → value ≤ℤ answer
  pub lower : window.beta ≤ℤ answer → answer ≤ℤ value

-- A window is open: alpha is below beta, and both lie between -1,000,100 and 1,000,100.
pub record IsOpen (window : Window) : Type 0 where
  pub open_ : window.alpha <ℤ window.beta
  pub alpha : lowest ≤ℤ window.alpha
  pub beta : window.beta ≤ℤ highest
