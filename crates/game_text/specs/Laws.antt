-- The laws of game strings.
use Rattle.std.specs.Prelude.{◌≡◌, Bool, false, ℕ, ◌≤◌, List, length, Ok, Err, ◌↔◌}
use Rattle.hive_model.specs.declared.pieces.GameType.{GameType}
use Rattle.hive_model.specs.declared.places.Move.{Move}
use Rattle.hive_model.specs.Games.{IsGame}
use Rattle.hive_model.specs.Repetition.{StandsUnder}
use Rattle.hive_model.specs.Strings.{string, string_under, IsGameLine, IsGameLineUnder}
use Rattle.game_text.specs.declared.faults.GameFault.{GameFault}
use Rattle.game_text.specs.declared.parsed.Parsed.{Parsed}
use Rattle.game_text.specs.Reading.{game_of, game_under}
use Rattle.game_text.specs.Refusals.{IsRefused, IsRefusedUnder}

-- The string of a game of at most 5,000 moves is a line that is this game.
abbrev pub StringsAreGames : Type 0
StringsAreGames =
    (t : GameType) (ms : List Move) → IsGame t ms → length ms ≤ 5000 → IsGameLine (string t ms) t ms

-- A line is at most one game.
abbrev pub IsOneGame : Type 0
IsOneGame =
    (line : List ℕ) (t u : GameType) (ms ns : List Move) → IsGameLine line t ms
    → IsGameLine line u ns → (t ≡ u) × (ms ≡ ns)

-- The function that reads a line returns a game exactly if the line is that game.
abbrev pub GamesAreRead : Type 0
GamesAreRead =
    (line : List ℕ) (g : Parsed) → (game_of line ≡ Ok g) ↔ IsGameLine line g.game_type g.moves

-- It returns a fault exactly if the line is refused with that fault.
abbrev pub FaultsAreRead : Type 0
FaultsAreRead =
    (line : List ℕ) (fault : GameFault) → (game_of line ≡ Err fault) ↔ IsRefused line fault

-- The same under the rule of third repetition, on or off

-- The string of a game that stands under the rule is a line that is this game.
abbrev pub StringsAreGamesUnder : Type 0
StringsAreGamesUnder =
    (r : Bool) (t : GameType) (ms : List Move) → IsGame t ms → StandsUnder r t ms → length ms ≤ 5000
    → IsGameLineUnder r (string_under r t ms) t ms

abbrev pub IsOneGameUnder : Type 0
IsOneGameUnder =
    (r : Bool) (line : List ℕ) (t u : GameType) (ms ns : List Move) → IsGameLineUnder r line t ms
    → IsGameLineUnder r line u ns → (t ≡ u) × (ms ≡ ns)

abbrev pub GamesAreReadUnder : Type 0
GamesAreReadUnder =
    (r : Bool) (line : List ℕ) (g : Parsed)
    → (game_under r line ≡ Ok g) ↔ IsGameLineUnder r line g.game_type g.moves

abbrev pub FaultsAreReadUnder : Type 0
FaultsAreReadUnder =
    (r : Bool) (line : List ℕ) (fault : GameFault)
    → (game_under r line ≡ Err fault) ↔ IsRefusedUnder r line fault

-- If the rule is off, a line is a game under it exactly if it is a game.
abbrev pub OffIsPlain : Type 0
OffIsPlain =
    (line : List ℕ) (t : GameType) (ms : List Move)
    → IsGameLineUnder false line t ms ↔ IsGameLine line t ms
