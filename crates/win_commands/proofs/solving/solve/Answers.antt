-- How an answer ends, by whether the input was one game.
use Rattle.std.proofs.Common.{rules}
use Rattle.command_runs.specs.GameRun.{AnswersGame, about_game}
use Rattle.command_runs.proofs.AnsweredLemmas.{none_run}
use Rattle.command_runs.proofs.GameRunLemmas.{game_run}
use Rattle.win_commands.specs.Text.{solution_of, solution_text}
use Rattle.win_commands.proofs.solving.solve.Goals as goal

pub returns-in-Ok : goal.returns-in-Ok
returns-in-Ok g c =
    let history = g.G.Game.history c.in-Ok.game in record {
      run = game_run (solution_of c.args.plies) c.tell_solution.result _ _ history (solution_text history.game_type history.made c.args.plies) c.in-Ok.ensures.game
          (λ game end i. solution_text (end.kind i) (end.made i) c.args.plies) c.tell_solution.ensures.told;
      reads = search rules;
      writes = search rules;
    }

pub returns-in-Err : goal.returns-in-Err
returns-in-Err g c = record {
  run = none_run about_game (AnswersGame (solution_of c.args.plies)) c.in-Err.none c.tell_none.result _ _ c.in-Err.ensures.none c.tell_none.ensures.told;
  reads = search rules;
  writes = search rules;
}
