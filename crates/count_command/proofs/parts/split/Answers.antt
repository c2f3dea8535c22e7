-- How a run that splits a game ends, by whether the input was one game.
use Rattle.std.proofs.Common.{rules}
use Rattle.command_runs.specs.GameRun.{AnswersGame, about_game}
use Rattle.command_runs.proofs.AnsweredLemmas.{none_run}
use Rattle.count_command.specs.Parts.{parts_of}
use Rattle.count_command.proofs.PartLemmas.{parts_run}
use Rattle.count_command.proofs.parts.split.Goals as goal

pub returns-in-Ok : goal.returns-in-Ok
returns-in-Ok g c = record {
  run = parts_run c.tell_parts.result _ _ (g.G.Game.history c.in-Ok.game) c.in-Ok.ensures.game c.tell_parts.ensures.told;
  reads = search rules;
  writes = search rules;
}

pub returns-in-Err : goal.returns-in-Err
returns-in-Err g c = record {
  run = none_run about_game (AnswersGame parts_of) c.in-Err.none c.tell_none.result _ _ c.in-Err.ensures.none c.tell_none.ensures.told;
  reads = search rules;
  writes = search rules;
}
