use Rattle.certificate_verdicts.proofs.JudgeLaws.{accepted-done}
use Rattle.certificate_verdicts.proofs.laws.accepted_texts_are_done.Goals as goal

pub returns : goal.returns
returns c = accepted-done
