-- Third repetition: if that rule is on, a game is drawn when its position occurs for the third
-- time.
use Rattle.std.specs.Prelude.{◌≡◌, ℕ, ◌-◌, Bool, true, false, ◌&&◌, nat_le, List, [], ◌∷◌, ◌++◌, length, map, Option, Some, None, slice_get, IsTrue, ◌↔◌, if◌then◌else◌}
use Rattle.std.specs.List.{count_by}
use Rattle.hive_model.specs.declared.pieces.GameType.{GameType}
use Rattle.hive_model.specs.declared.places.Move.{Move}
use Rattle.hive_model.specs.declared.places.State.{State}
use Rattle.hive_model.specs.declared.places.State.TheVariants.{Draw}
use Rattle.hive_model.specs.Positions.{Position, opening}
use Rattle.hive_model.specs.Legal.{state, is_over_state}
use Rattle.hive_model.specs.Games.{after, replay, IsGame}
use Rattle.hive_model.specs.Keys.{KeyParts, key}
use Rattle.hive_model.specs.SameKeys.{same_key}

-- When two positions count as the same

-- Two positions count as the same if their boards, sides to move and resting pieces are equal. The
-- turn does not matter.
pub record StandAlike (p q : Position) : Type 0 where
  pub board : p.board ≡ q.board
  pub side : p.side ≡ q.side
  pub rest : p.rest ≡ q.rest

-- Keys of positions that count as the same: all but the turns are equal.
pub record HaveSameBoard (a b : KeyParts) : Type 0 where
  pub spots : a.spots ≡ b.spots
  pub game_type : a.game_type ≡ b.game_type
  pub side : a.side ≡ b.side
  pub rest : a.rest ≡ b.rest

-- the key with its turn set to 0
abbrev pub without_turn : KeyParts → KeyParts
without_turn k =
    record { spots = k.spots; game_type = k.game_type; side = k.side; turn = 0; rest = k.rest }

-- the test of it
unfoldable pub same_board : KeyParts → KeyParts → Bool
same_board a b = same_key (without_turn a) (without_turn b)

-- How often the last position has occurred

-- how many of the keys have the same board as this one
abbrev pub count_same : KeyParts → List KeyParts → ℕ
count_same k ks = count_by (same_board k) ks

abbrev pub count_found : Option KeyParts → List KeyParts → ℕ
count_found None ks = 0
count_found (Some k) ks = count_same k ks

-- how many of the keys have the same board as the last of them, which is counted too
unfoldable pub count_last : List KeyParts → ℕ
count_last ks = count_found (slice_get ks (length ks - 1)) ks

-- all positions from p on, p and the last one included
abbrev pub positions : Position → List Move → List Position
positions p [] = p ∷ []
positions p (m ∷ ms) = p ∷ positions (after p m) ms

-- the keys of the positions of a game
unfoldable pub keys : GameType → List Move → List KeyParts
keys t ms = map key (positions (opening t) ms)

-- how many of a game's positions count as the same as its last one
unfoldable pub times : GameType → List Move → ℕ
times t ms = count_same (key (replay (opening t) ms)) (keys t ms)

-- How a game ends under the rule

-- If the last position occurs for the third time, a game that is not over is drawn.
abbrev pub ends_as : Bool → State → State
ends_as false s = s
ends_as true s = if is_over_state s then s else Draw

-- The outcome of a game. If its position ends it, that decides. Otherwise the game is drawn if the
-- rule is on and the position occurs for the third time.
abbrev pub outcome_under : Bool → GameType → List Move → State
outcome_under r t ms = ends_as (r && nat_le 3 (times t ms)) (state (replay (opening t) ms))

-- No move follows the end of the game: no proper prefix of it is over.
abbrev pub StandsUnder : Bool → GameType → List Move → Type 0
StandsUnder r t ms =
    (front : List Move) (m : Move) (rest : List Move) → ms ≡ front ++ m ∷ rest
    → is_over_state (outcome_under r t front) ≡ false

-- The laws

-- If the rule is off, every game stands.
abbrev pub AllStandUnderFalse : Type 0
AllStandUnderFalse = (t : GameType) (ms : List Move) → IsGame t ms → StandsUnder false t ms

-- A game with one more move stands exactly if the game before it stands and is not over.
pub record StandsOn (r : Bool) (t : GameType) (ms : List Move) (m : Move) : Type 0 where
  pub before : StandsUnder r t ms
  pub open_yet : is_over_state (outcome_under r t ms) ≡ false

abbrev pub StandsMoveByMove : Type 0
StandsMoveByMove =
    (r : Bool) (t : GameType) (ms : List Move) (m : Move)
    → StandsUnder r t (ms ++ m ∷ []) ↔ StandsOn r t ms m

-- The test holds exactly if all but the turns are equal.
abbrev pub SameBoardIsTested : Type 0
SameBoardIsTested = (a b : KeyParts) → IsTrue (same_board a b) ↔ HaveSameBoard a b

-- The keys of a game's positions determine how often its last position has occurred.
abbrev pub KeysGiveTimes : Type 0
KeysGiveTimes = (t : GameType) (ms : List Move) → count_last (keys t ms) ≡ times t ms

-- A move adds the key of the position that it leads to.
abbrev pub KeysGrow : Type 0
KeysGrow =
    (t : GameType) (ms : List Move) (m : Move)
    → keys t (ms ++ m ∷ []) ≡ keys t ms ++ key (replay (opening t) (ms ++ m ∷ [])) ∷ []
