use Rattle.certificate_commands.proofs.MigrationLaws.{migrated-are-accepted}
use Rattle.certificate_commands.proofs.laws.migrated_texts_are_accepted.Goals as goal

pub returns : goal.returns
returns c = migrated-are-accepted
