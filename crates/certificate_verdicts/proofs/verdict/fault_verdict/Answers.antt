use Rattle.std.proofs.Common.{subst}
use Rattle.certificate_text.specs.declared.head.HeadFault.{HeadFault}
use Rattle.certificate_text.specs.Heads.{fault_line}
use Rattle.certificate_text.specs.Taken.{HasRead}
use Rattle.certificate_verdicts.proofs.JudgeLaws.{most-read}
use Rattle.certificate_verdicts.proofs.verdict.fault_verdict.Goals as goal

pub returns-in-BadLine-clause-read : goal.returns-in-BadLine-clause-read
returns-in-BadLine-clause-read c = λ head text rest reader r failed full.
    most-read c.in-BadLine.line text rest reader (subst (λ (x : HeadFault). HasRead text rest reader (fault_line head x)) c.in-BadLine.is r)

pub returns-in-BadGame-clause-read : goal.returns-in-BadGame-clause-read
returns-in-BadGame-clause-read c = λ head text rest reader r failed full.
    most-read 2 text rest reader (subst (λ (x : HeadFault). HasRead text rest reader (fault_line head x)) c.in-BadGame.is r)
