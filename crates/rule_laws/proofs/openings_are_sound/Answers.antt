use Rattle.rule_laws.proofs.Openings.{openings}
use Rattle.rule_laws.proofs.openings_are_sound.Goals as goal

pub returns : goal.returns
returns c = openings
