-- What a legal move does to a sound position, and what every game keeps.
use Rattle.std.specs.Prelude.{◌≡◌, ℕ, ◌+◌, ◌/◌, ◌%◌, ◌≤◌, ◌<◌, nat_eq, List, length, if◌then◌else◌}
use Rattle.hive_model.specs.declared.pieces.Colour.{Colour}
use Rattle.hive_model.specs.declared.pieces.Colour.TheVariants.{White, Black}
use Rattle.hive_model.specs.declared.pieces.GameType.{GameType}
use Rattle.hive_model.specs.declared.places.Move.{Move}
use Rattle.hive_model.specs.Lists.{IsOn}
use Rattle.hive_model.specs.Boards.{StandsWithin}
use Rattle.hive_model.specs.Positions.{Position, IsSound, opening}
use Rattle.hive_model.specs.Legal.{IsLegal, moves}
use Rattle.hive_model.specs.Games.{after, replay, IsGame}

-- The opening of every game type is sound. It has no pieces, so that trivially each is on the
-- origin.
abbrev pub OpeningsAreSound : Type 0
OpeningsAreSound = (t : GameType) → IsSound (opening t) × StandsWithin 0 (opening t).board

-- A legal move of a sound position leads to a sound position. It goes at most one place further out
-- than any piece stood.
abbrev pub LegalMovesKeepSoundness : Type 0
LegalMovesKeepSoundness =
    (p : Position) (n : ℕ) (m : Move) → IsSound p → StandsWithin n p.board → n < 9000 → IsLegal p m
    → IsSound (after p m) × StandsWithin (n + 1) (after p m).board

-- The same holds of each move on the list of legal moves.
abbrev pub ListedMovesKeepSoundness : Type 0
ListedMovesKeepSoundness =
    (p : Position) (n : ℕ) (m : Move) → IsSound p → StandsWithin n p.board → n < 9000
    → IsOn (moves p) m
    → IsSound (after p m) × StandsWithin (n + 1) (after p m).board

-- A game leads to a sound position, in which no coordinate exceeds the number of its plies in
-- absolute value.
abbrev pub GamesAreSound : Type 0
GamesAreSound = (t : GameType) (ms : List Move) → IsGame t ms → length ms ≤ 9000
    → IsSound (replay (opening t) ms) × StandsWithin (length ms) (replay (opening t) ms).board

-- the side to move after n plies: white if n is even
abbrev pub side_after : ℕ → Colour
side_after n = if nat_eq (n % 2) 0 then White else Black

-- A list of moves does not change the game type. Its length determines the side to move and the
-- turn number, which is 1 for the first move of each side. This holds of illegal moves too.
pub record CountsPlies (t : GameType) (ms : List Move) : Type 0 where
  pub game_type : (replay (opening t) ms).game_type ≡ t
  pub side : (replay (opening t) ms).side ≡ side_after (length ms)
  pub turn : (replay (opening t) ms).turn ≡ length ms / 2 + 1

abbrev pub GamesCountPlies : Type 0
GamesCountPlies = (t : GameType) (ms : List Move) → CountsPlies t ms
