use Rattle.rule_laws.proofs.Moves.{moves_keep}
use Rattle.rule_laws.proofs.Games.{listed_keep}
use Rattle.rule_laws.proofs.legal_moves_keep_soundness.Goals as goal

pub returns : goal.returns
returns c = record { legal = moves_keep; listed = listed_keep }
