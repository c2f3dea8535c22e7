use Rattle.tournament_core.proofs.Fair.{equally-often}
use Rattle.tournament_core.proofs.laws.equally_often.Goals as goal

pub returns : goal.returns
returns c = equally-often
