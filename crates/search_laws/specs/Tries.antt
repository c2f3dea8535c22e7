-- The plays that one move costs.
use Rattle.std.specs.Prelude.{ℕ, ◌+◌, ℤ, neg_ℤ}
use Rattle.hive_model.specs.declared.places.Move.{Move}
use Rattle.hive_model.specs.Positions.{Position}
use Rattle.hive_model.specs.Games.{after}
use Rattle.hive_model.specs.Costs.{cost}

-- The move is played, and then d plies are searched in the other side's window, if low is the best
-- value so far.
abbrev pub tried_cost : Position → ℕ → ℤ → Move → ℤ → ℕ
tried_cost p d b m low = 1 + cost (after p m) d (neg_ℤ b) (neg_ℤ low)
