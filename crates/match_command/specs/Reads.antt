-- What a match that begins with the game of the input reads, writes and plays, by the status with
-- which it ends.
use Rattle.std.specs.Prelude.{◌⊎◌, ℕ, List}
use Rattle.hive_model.specs.declared.pieces.GameType.{GameType}
use Rattle.game_text.specs.declared.parsed.Parsed.{Parsed}
use Rattle.command_runs.specs.Answered.{IsUnanswered, TellsNone}
use Rattle.command_runs.specs.GameRun.{about_game}
use Rattle.command_runs.specs.Input.{WhereTold}
use Rattle.command_runs.specs.OneGame.{IsAsked}
use Rattle.command_runs.specs.World.{LeavesEngines, LeavesTimes, World, once_read}
use Rattle.command_runs.specs.declared.no_game.NoGame.{NoGame}
use Rattle.command_runs.specs.declared.status.Status.{Status}
use Rattle.match_core.specs.Setups.{setup_from}
use Rattle.match_core.specs.declared.setup.Setup.{Setup}
use Rattle.match_command.specs.Match.{MatchRun, MatchStarts}

-- this setup, for games of this type
abbrev pub typed : Setup → GameType → Setup
typed setup game_type = record {
  game_type = game_type;
  level = setup.level;
  limit = setup.limit;
  repetition = setup.repetition;
}

-- This game was read, and the match was played from it, with the setup for games of its type. If
-- the input is observable, it is one line, this game, which is not over, and was read to its end.
-- These words name the programs that were started.
pub record BegunFrom (setup : Setup) (white black : List (List ℕ)) (status : Status)
    (before after : World) (game : Parsed) : Type 0 where
  pub asked : WhereTold before.sides.rest (λ input. IsAsked input after.sides.rest game)
  pub played :
      MatchRun (setup_from (typed setup game.game_type) game.moves) status
      (once_read after.sides.rest before) after
  pub started : MatchStarts status white black before.engines after.engines

-- No game was read, for this reason, and nothing was begun: no program was started, and the clock
-- was not read. If the input is at fault, the line that says why was written, or an initial part of
-- it.
pub record NoneRead (status : Status) (before after : World) (none : NoGame) : Type 0 where
  pub shown :
      WhereTold before.sides.rest
      (λ input. IsUnanswered about_game none input after.sides.rest)
  pub told : TellsNone none status before.sides.written after.sides.written
  pub untimed : LeavesTimes before after
  pub unstarted : LeavesEngines before after

-- What was read, written and played if a match that begins with the game of the input ends with
-- this status. The words name its programs.
abbrev pub ReadMatchRun : Setup → List (List ℕ) → List (List ℕ) → Status → World → World → Type 0
ReadMatchRun setup white black status before after =
    ((game : Parsed) × BegunFrom setup white black status before after game)
    ⊎ ((none : NoGame) × NoneRead status before after none)
