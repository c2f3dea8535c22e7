-- What is left of a list from which indices are taken.
use Rattle.std.specs.Prelude.{ℕ, List}

-- the indices that are left of a list, and how many were taken
pub record ListLeft : Type 0 where
  pub list : List ℕ
  pub taken : ℕ
