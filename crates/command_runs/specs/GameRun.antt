-- What a command writes and reads, by the status with which it ends, if its input must be one game
-- that is not over.
use Rattle.std.specs.Prelude.{ℕ, List}
use Rattle.game_text.specs.declared.parsed.Parsed.{Parsed}
use Rattle.command_runs.specs.Answered.{AnsweredRun, Inquiry, InputTexts}
use Rattle.command_runs.specs.OneGame.{FewWereRead, IsAsked, IsBad, IsUndecided}
use Rattle.command_runs.specs.Input.{Sides}
use Rattle.command_runs.specs.declared.status.Status.{Status}

-- The input must ask about one game, in one line.
abbrev pub about_game : Inquiry
about_game = record { bad = IsBad; undecided = IsUndecided; begun = FewWereRead }

-- the texts that answer a game
abbrev pub Answers : Type 1
Answers = Parsed → List ℕ → Type 0

-- The input asks about a game, and this text answers it.
abbrev pub AnswersGame : Answers → InputTexts
AnswersGame answers input rest text =
    (game : Parsed) × IsAsked input rest game × answers game text

-- what was written and read if a command that answers one game ends with this status
abbrev pub GameRun : Answers → Status → Sides → Sides → Type 0
GameRun answers = AnsweredRun about_game (AnswersGame answers)
