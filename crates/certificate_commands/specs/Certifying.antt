-- What is written as the certificate of a game.
use Rattle.std.specs.Prelude.{◌≡◌, ℕ, List, Some}
use Rattle.hive_model.specs.declared.places.Move.{Move}
use Rattle.hive_model.specs.Minimax.{best, value}
use Rattle.strategy_make.specs.Making.{certificate}
use Rattle.game_text.specs.declared.parsed.Parsed.{Parsed}
use Rattle.command_runs.specs.Input.{Sides}
use Rattle.command_runs.specs.OneGame.{last_position}
use Rattle.command_runs.specs.GameRun.{Answers, GameRun}
use Rattle.command_runs.specs.declared.status.Status.{Status}

-- The text is the certificate that this is the game's best move at a depth, with the value of that
-- move.
pub record Certifies (depth : ℕ) (game : Parsed) (text : List ℕ) (m : Move) : Type 0 where
  pub is_best : best (last_position game) depth ≡ Some m
  pub is_text :
      text ≡ certificate game.game_type game.moves depth m (value (last_position game) depth)

-- A game is answered by the certificate of its best move.
abbrev pub certificates_of : ℕ → Answers
certificates_of depth game text = (m : Move) × Certifies depth game text m

-- what was written and read if `certify` with this depth ends with this status
abbrev pub CertifyRun : ℕ → Status → Sides → Sides → Type 0
CertifyRun depth = GameRun (certificates_of depth)
