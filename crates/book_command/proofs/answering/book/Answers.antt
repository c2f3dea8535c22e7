use Rattle.std.proofs.Common.{rules}
use Rattle.command_runs.proofs.AnsweredLemmas.{none_run}
use Rattle.book_command.specs.Runs.{IsAnswer, about_book}
use Rattle.book_command.proofs.answering.book.Goals as goal

pub returns-in-Err : goal.returns-in-Err
returns-in-Err g c = record {
  run = none_run about_book IsAnswer c.in-Err.none c.tell_none.result _ _ c.in-Err.ensures.none c.tell_none.ensures.told;
  reads = search rules;
  writes = search rules;
}
