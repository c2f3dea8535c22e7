-- How many moves an alpha-beta search may play.
use Rattle.std.specs.Prelude.{ℕ, zero, suc, ◌+◌, ◌-◌, ◌%◌, max, nat_eq, List, [], ◌∷◌, ℤ, pos, negsuc, neg_ℤ, int_le, ◌-ℤ◌, if◌then◌else◌}
use Rattle.std.specs.Int.{int_max}
use Rattle.hive_model.specs.declared.places.Move.{Move}
use Rattle.hive_model.specs.Positions.{Position}
use Rattle.hive_model.specs.Legal.{moves, is_over}
use Rattle.hive_model.specs.Games.{after}
use Rattle.hive_model.specs.Minimax.{reply_value, lowest}

-- the greatest of these counts, or 0 if there are none
abbrev pub most_by : {X : Type 0} → (X → ℕ) → List X → ℕ
most_by f [] = 0
most_by f (x ∷ xs) = max (f x) (most_by f xs)

-- The sum of `tried m low` over the moves up to the first that is worth b or more, or over all
-- moves if none is. For each move m, low is the greatest of a and the values of the moves before
-- it.
abbrev pub tries_cost : (Move → ℤ → ℕ) → (Move → ℤ) → ℤ → ℤ → List Move → ℕ
tries_cost tried worth a b [] = 0
tries_cost tried worth a b (m ∷ ms) =
    tried m a + (if int_le b (worth m) then 0
    else tries_cost tried worth (int_max a (worth m)) b ms)

-- The plays of a search of depth d in the window from a to b. The second summand pays for the hint:
-- one move that is tried before its turn.
unfoldable pub cost : Position → ℕ → ℤ → ℤ → ℕ
cost p zero a b = 0
cost p (suc d) a b =
    if is_over p then 0 else
    tries_cost (λ m low. 1 + cost (after p m) d (neg_ℤ b) (neg_ℤ low)) (reply_value p d) a b
    (moves p)
    + most_by (λ m. 1 + cost (after p m) d (neg_ℤ b) (neg_ℤ a)) (moves p)

-- The root is shared by W workers. Worker w takes the moves whose index leaves the remainder w when
-- divided by W.

abbrev pub every_from : ℕ → ℕ → ℕ → List Move → List Move
every_from i w W [] = []
every_from i w W (m ∷ ms) =
    if nat_eq (i % W) w then m ∷ every_from (i + 1) w W ms else every_from (i + 1) w W ms

-- The sum of `tried m g` over the moves. For each move m, g is the greatest of the first bound and
-- the values of the moves before m.
abbrev pub root_cost : (Move → ℤ → ℕ) → (Move → ℤ) → ℤ → List Move → ℕ
root_cost tried worth g [] = 0
root_cost tried worth g (m ∷ ms) = tried m g + root_cost tried worth (int_max g (worth m)) ms

-- The plays of worker w of W at a root whose depth is d, at least 1. The first bound is -1000090,
-- which is less than the value of any move. The last summand pays for the hint: one move that is
-- tried before its turn.
unfoldable pub share : Position → ℕ → ℕ → ℕ → ℕ
share p d w W =
    let mine = every_from 0 w W (moves p) in
    root_cost (λ m g. 1 + cost (after p m) (d - 1) lowest (pos 1 -ℤ g))
    (reply_value p (d - 1)) (negsuc 1000089) mine
    + most_by (λ m. 1 + cost (after p m) (d - 1) lowest (pos 1000091)) mine
