-- The setup of a match, and the moves with which it begins.
use Rattle.std.specs.Prelude.{ℕ, ◌≤◌, Bool, List, [], length}
use Rattle.hive_model.specs.declared.pieces.GameType.{GameType}
use Rattle.hive_model.specs.declared.places.Move.{Move}
use Rattle.hive_model.specs.Games.{IsGame}
use Rattle.hive_model.specs.Histories.{most_plies}
use Rattle.match_core.specs.declared.setup.Setup.{Setup}
use Rattle.match_core.specs.declared.setup.Level.{Level}

-- a setup, and the moves of the game with which the match begins: none for the opening
pub record FullSetup : Type 0 where
  pub game_type : GameType
  pub level : Level
  pub limit : ℕ
  pub repetition : Bool
  pub begin : List Move

-- this setup, from the game with these moves
abbrev pub setup_from : Setup → List Move → FullSetup
setup_from setup begin = record {
  game_type = setup.game_type;
  level = setup.level;
  limit = setup.limit;
  repetition = setup.repetition;
  begin = begin;
}

-- this setup, from the opening
abbrev pub setup_plain : Setup → FullSetup
setup_plain setup = setup_from setup []

-- the setup without the moves
abbrev pub setup_of : FullSetup → Setup
setup_of full = record {
  game_type = full.game_type;
  level = full.level;
  limit = full.limit;
  repetition = full.repetition;
}

-- The moves with which the match begins are a game of no more plies than a game has room for. There
-- may be more of them than the limit; then the match ends at its limit at once.
pub record IsBegin (full : FullSetup) : Type 0 where
  pub game : IsGame full.game_type full.begin
  pub few : length full.begin ≤ most_plies
