use Rattle.std.proofs.Common.{◌≡◌, rules, subst}
use Rattle.certificate_citing.specs.declared.migrating.Migrated.{Migrated}
use Rattle.certificate_citing.specs.declared.migrating.Migrated.TheVariants.{Halted}
use Rattle.std.specs.Prelude.{ℕ, IfSome}
use Rattle.line_feed.specs.Feed.{Reading}
use Rattle.certificate_walks.specs.Answers.{CountsRefused, Ended, StopsUnread}
use Rattle.certificate_walks.specs.declared.walk_answers.Halt.TheVariants.{Failed}
use Rattle.strategy_check.specs.Checks.{index_faults}
use Rattle.strategy_check.specs.Trace.{checked}
use Rattle.certificate_citing.specs.Migrating.{answered}
use Rattle.certificate_text.specs.Taken.{StopsAt}
use Rattle.certificate_text.specs.Text.{index_in}
use Rattle.certificate_verdicts.specs.Verdicts.{index_refusal}
use Rattle.certificate_verdicts.proofs.JudgeLaws.{all-read, bad-read, refused-read}
use Rattle.certificate_verdicts.proofs.TextLaws.{walk-unread}
use Rattle.certificate_commands.proofs.migrating.taken_of.Goals as goal

-- few lines were taken
abbrev HasFew : ℕ → Migrated → Type 0
HasFew lines migrated = IfSome (answered migrated) (λ answer. CountsRefused index_faults answer lines)

-- the reading when the indices ended the call
abbrev IsEnded : Reading → Migrated → Type 0
IsEnded reader migrated = IfSome (answered migrated) (λ answer. Ended index_faults (λ stop. StopsAt index_in stop reader) answer)

pub returns-in-Done-clause-read : goal.returns-in-Done-clause-read
returns-in-Done-clause-read c = λ text rest reader r few stops.
    all-read text rest reader _ r (subst (λ (x : Migrated). IsEnded reader x) c.in-Done.is stops)

pub returns-in-WriteFault-clause-read : goal.returns-in-WriteFault-clause-read
returns-in-WriteFault-clause-read c = λ text rest reader r few stops.
    all-read text rest reader _ r (subst (λ (x : Migrated). IsEnded reader x) c.in-WriteFault.is stops)

pub returns-in-Refused-clause-read : goal.returns-in-Refused-clause-read
returns-in-Refused-clause-read c = λ text rest reader r few stops.
    refused-read 5 c.in-Refused.place c.args.lines c.in-Refused.why text rest reader (subst (λ (x : Migrated). HasFew c.args.lines x) c.in-Refused.is few) r
    (subst (λ (x : Migrated). IsEnded reader x) c.in-Refused.is stops)

pub returns-in-Halted-Bad-clause-read : goal.returns-in-Halted-Bad-clause-read
returns-in-Halted-Bad-clause-read c = λ text rest reader r few stops. bad-read 5 c.args.lines _ text rest reader (search rules) r

pub returns-in-Halted-Failed-clause-unread : goal.returns-in-Halted-Failed-clause-unread
returns-in-Halted-Failed-clause-unread c = λ p d m v items stops text rest reader r e.
    let failed : c.args.migrated ≡ Halted Failed = search rules in
    let o = checked p d m v items in
    walk-unread index_faults index_refusal (λ head lines place why few. few) 5 c.args.lines o text rest reader
    (subst (λ (x : Migrated). IfSome (answered x) (λ answer. StopsUnread index_faults o answer c.args.lines)) failed stops) r
