use Rattle.certificate_verdicts.proofs.JudgeLaws.{refused-read}
use Rattle.certificate_verdicts.proofs.reasons.IndexReasonsReasons.refused.Goals as goal

pub returns-clause-read : goal.returns-clause-read
returns-clause-read c = λ head lines text rest reader few r stops. refused-read head c.args.place lines c.args.why text rest reader few r stops
