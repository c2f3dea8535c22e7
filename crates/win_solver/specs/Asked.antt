-- The numbers about which a search for wins can ask.
use Rattle.std.specs.Prelude.{ℤ, pos, ◌≤ℤ◌}
use Rattle.hive_model.specs.Minimax.{lowest}

-- Either side can ask whether a value is at least this number. No value is as large as the greatest
-- of them, and the other side asks for 1 minus the number.
pub record CanBeAsked (least : ℤ) : Type 0 where
  pub low : lowest ≤ℤ least
  pub high : least ≤ℤ pos 1000101
