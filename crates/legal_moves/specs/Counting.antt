-- How many legal moves there are.
use Rattle.std.specs.Prelude.{◌≡◌, ℕ, List, [], ◌∷◌, length}
use Rattle.hive_model.specs.declared.places.Place.{Place}
use Rattle.hive_model.specs.declared.places.Move.{Move}
use Rattle.hive_model.specs.Stack.{Levels}
use Rattle.hand_rules.specs.Listing.{ListsBelow}

-- one level, which holds these moves
abbrev pub one_level : List Move → Levels
one_level ms = record { lists = ms ∷ []; free = 0 }

-- the first k pieces may go to so many places, all pieces together
pub record PairsAreMany (May : ℕ → Place → Type 0) (k n : ℕ) : Type 0 where
  pub pairs : List Move
  pub listed : ListsBelow May k (one_level []) (one_level pairs)
  pub many : length pairs ≡ n
