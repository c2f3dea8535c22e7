use Rattle.std.proofs.Common.{◌≡◌, rules, subst}
use Rattle.certificate_walks.specs.declared.walk_answers.Checked.{Checked}
use Rattle.certificate_walks.specs.declared.walk_answers.Checked.TheVariants.{Halted}
use Rattle.certificate_walks.specs.declared.walk_answers.Halt.TheVariants.{Failed}
use Rattle.certificate_walks.specs.Answers.{CountsRefused, Ended, StopsUnread}
use Rattle.certificate_text.specs.Taken.{StopsAt}
use Rattle.certificate_verdicts.proofs.JudgeLaws.{all-read, bad-read}
use Rattle.certificate_verdicts.proofs.TextLaws.{walk-unread}
use Rattle.certificate_verdicts.proofs.verdict.verdict_of.Goals as goal

pub returns-in-Accepted-clause-read : goal.returns-in-Accepted-clause-read
returns-in-Accepted-clause-read g c = let reasons = g.R.Reasons in λ text rest reader item r few stops.
    all-read text rest reader _ r (subst (λ (x : Checked _). Ended reasons.faults (λ answer. StopsAt item answer reader) x) c.in-Accepted.is stops)

pub returns-in-Refused-clause-read : goal.returns-in-Refused-clause-read
returns-in-Refused-clause-read g c = let reasons = g.R.Reasons in λ text rest reader item r few stops.
    c.refused.ensures.read c.args.head c.args.lines text rest reader (subst (λ (x : Checked _). CountsRefused reasons.faults x c.args.lines) c.in-Refused.is few) r
    (subst (λ (x : Checked _). Ended reasons.faults (λ answer. StopsAt item answer reader) x) c.in-Refused.is stops)

pub returns-in-Halted-Bad-clause-read : goal.returns-in-Halted-Bad-clause-read
returns-in-Halted-Bad-clause-read g c = λ text rest reader item r few stops. bad-read c.args.head c.args.lines _ text rest reader (search rules) r

pub returns-in-Halted-Failed-clause-unread : goal.returns-in-Halted-Failed-clause-unread
returns-in-Halted-Failed-clause-unread g c = let reasons = g.R.Reasons in λ o stops text rest reader r e.
    let failed : c.args.checked ≡ Halted Failed = search rules in
    walk-unread reasons.faults reasons.refusal reasons.decides c.args.head c.args.lines o text rest reader (subst (λ (x : Checked _). StopsUnread reasons.faults o x c.args.lines) failed stops) r
