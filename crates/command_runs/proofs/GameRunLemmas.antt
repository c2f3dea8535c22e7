-- How a command that answers one game ends.
use Rattle.std.proofs.Common.{◌≡◌, ◌≤◌, ℕ, List, [], ◌∷◌, length, sym, subst, inl, inr, arith}
use Rattle.std.specs.Prelude.{Result, Ok, Err}
use Rattle.hive_model.specs.Histories.{History, position}
use Rattle.io_edge.specs.Lines.{Line, lines}
use Rattle.hive_model.specs.Positions.{opening}
use Rattle.hive_model.specs.Games.{replay}
use Rattle.game_text.specs.declared.parsed.Parsed.{Parsed}
use Rattle.command_runs.specs.Input.{Sides, WhereTold}
use Rattle.command_runs.specs.OneGame.{AsksOne, IsAsked, and_no_more, asked, last_position, game_in}
use Rattle.command_runs.specs.Asking.{IsReplayOf}
use Rattle.command_runs.specs.Answered.{WritesAnswer}
use Rattle.command_runs.specs.GameRun.{Answers, AnswersGame, GameRun, about_game}
use Rattle.command_runs.specs.Served.{RunsAreDone}
use Rattle.command_runs.specs.declared.status.Status.{Status}
use Rattle.command_runs.proofs.AnsweredLemmas.{answered_done, written_run}
use Rattle.command_runs.proofs.OneGameLemmas.{all_were_read}

more_lines : (r : Result Parsed (List ℕ)) (line : Line) (others : List Line) (game : Parsed) → and_no_more r (line ∷ others) ≡ Ok game → ⊥
more_lines (Ok other) line others game e = cc
more_lines (Err why) line others game e = cc

-- a game is asked for by one line
asked_by_one : (ls : List Line) (game : Parsed) → asked ls ≡ Ok game → length ls ≤ 2
asked_by_one [] game e = omega arith
asked_by_one (line ∷ []) game e = omega arith
asked_by_one (line ∷ (other ∷ others)) game e = absurd (more_lines (game_in line) other others game e)

-- the game in progress has reached the end of the one that was read
pub end_is : (c : History) (game : Parsed) → IsReplayOf c game → position c ≡ last_position game
end_is c game end = λ j. replay (opening (end.kind j)) (end.made j)

-- the input was one game, which this text answers
pub game_run : (answers : Answers) (status : Status) (before after : Sides) (c : History) (text : List ℕ)
    → WhereTold before.rest (λ input. (game : Parsed) × IsAsked input after.rest game × IsReplayOf c game)
    → ((game : Parsed) → IsReplayOf c game → answers game text) → WritesAnswer text status before.written after.written → GameRun answers status before after
game_run answers status before after c text given is_answer (inl (e, same)) = subst (λ s. GameRun answers s before after) (sym e) (
  same,
  λ input told. let (game, is, end) = given input told in (lines input, all_were_read is.over, asked_by_one (lines input) game is.asks),
)
game_run answers status before after c text given is_answer (inr wrote) =
    written_run about_game (AnswersGame answers) status before after text
    (λ input told. let (game, is, end) = given input told in (game, is, is_answer game end)) wrote

-- Games that are asked for

asked_once : (r : Result Parsed (List ℕ)) (game : Parsed) (why : List ℕ) → r ≡ Ok game → r ≡ Err why → ⊥
asked_once r game why e f = cc

-- a run that answers the one game of its input is done, unless memory runs out
pub game_run_done : (answers : Answers) → RunsAreDone (GameRun answers) AsksOne
game_run_done answers = answered_done about_game (AnswersGame answers) AsksOne
    (λ input rest why (game, asks) bad. asked_once (asked (lines input)) game why asks bad.asks) (λ input rest bytes left is. is.was_read)
