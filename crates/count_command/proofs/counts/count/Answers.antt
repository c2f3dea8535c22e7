-- How a count ends, by whether the input was one game.
use Rattle.std.proofs.Common.{rules}
use Rattle.command_runs.specs.GameRun.{AnswersGame, about_game}
use Rattle.command_runs.proofs.AnsweredLemmas.{none_run}
use Rattle.count_command.specs.Count.{counts_of}
use Rattle.count_command.proofs.CountLemmas.{counts_run}
use Rattle.count_command.proofs.counts.count.Goals as goal

pub returns-in-Ok : goal.returns-in-Ok
returns-in-Ok g c = record {
  run = counts_run c.args.plies c.tell_counts.result _ _ (g.G.Game.history c.in-Ok.game) c.in-Ok.ensures.game c.tell_counts.ensures.told;
  reads = search rules;
  writes = search rules;
}

pub returns-in-Err : goal.returns-in-Err
returns-in-Err g c = record {
  run = none_run about_game (AnswersGame (counts_of c.args.plies)) c.in-Err.none c.tell_none.result _ _ c.in-Err.ensures.none c.tell_none.ensures.told;
  reads = search rules;
  writes = search rules;
}
