use Rattle.std.proofs.Common.{subst, sym}
use Rattle.std.specs.Prelude.{Ok}
use Rattle.certificate_verdicts.specs.declared.verdict.TextVerdict.{TextVerdict}
use Rattle.certificate_verdicts.specs.Reading.{WasReadAs}
use Rattle.certificate_commands.proofs.CitedReads.{fault-read-as}
use Rattle.certificate_commands.proofs.citing.TokenReasonsReasons.refused.Goals as goal

pub returns-clause-read : goal.returns-clause-read
returns-clause-read c = λ head lines text rest reader few r stops.
    subst (λ (v : TextVerdict). WasReadAs head (Ok v) text rest) (sym c.fault_of.ensures)
    (fault-read-as head c.args.place lines c.args.why text rest reader few r stops)
