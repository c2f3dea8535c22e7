use Rattle.std.proofs.Common.{rules}
use Rattle.certificate_commands.proofs.MigrateRuns.{all-run, cut-run, missed-run}
use Rattle.certificate_commands.proofs.migrating.migrate.Goals as goal

pub returns-in-Written : goal.returns-in-Written
returns-in-Written g c = record {
  run = all-run _ _ c.in-Written.ensures.told c.in-Written.ensures.read;
  reads = search rules;
  writes = search rules;
}

pub returns-in-Cut : goal.returns-in-Cut
returns-in-Cut g c = record {
  run = cut-run _ _ c.in-Cut.ensures.told c.in-Cut.ensures.read;
  reads = search rules;
  writes = search rules;
}

pub returns-in-Missed : goal.returns-in-Missed
returns-in-Missed g c = record {
  run = missed-run c.in-Missed.unread c.tell_judged-in-Missed.result _ _ _ c.in-Missed.ensures.late c.in-Missed.ensures.read c.in-Missed.ensures.unread c.tell_judged-in-Missed.ensures.told;
  reads = search rules;
  writes = search rules;
}
