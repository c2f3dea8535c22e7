use Rattle.certificate_commands.proofs.MigrationLaws.{migrations-done}
use Rattle.certificate_commands.proofs.laws.migrations_are_done.Goals as goal

pub returns : goal.returns
returns c = migrations-done
