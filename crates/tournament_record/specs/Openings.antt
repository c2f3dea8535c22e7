-- The openings of a tournament, and their sum.
use Rattle.std.specs.Prelude.{ℕ, ◌≤◌, List, [], ◌∷◌, ◌++◌, length}
use Rattle.std.specs.List.{flat_map}
use Rattle.hive_model.specs.declared.pieces.GameType.{GameType}
use Rattle.hive_model.specs.declared.places.Move.{Move}
use Rattle.hive_model.specs.Games.{IsGame}
use Rattle.hive_model.specs.Histories.{most_plies}
use Rattle.hive_model.specs.Strings.{string}
use Rattle.sha2.specs.Sha256.{sha256}

-- the moves of an opening are a game, of no more plies than there is room for in a game
pub record IsOpening (game_type : GameType) (moves : List Move) : Type 0 where
  pub game : IsGame game_type moves
  pub few : length moves ≤ most_plies

-- the line of an opening: its game string, with an LF (10)
abbrev pub opening_line : GameType → List Move → List ℕ
opening_line t moves = string t moves ++ 10 ∷ []

-- the sum of openings: the SHA-256 digest of their lines
abbrev pub openings_sum : GameType → List (List Move) → List ℕ
openings_sum t openings = sha256 (flat_map (opening_line t) openings)
