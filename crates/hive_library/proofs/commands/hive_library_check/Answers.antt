-- What follows from a check that ends with 0: the text is accepted.
use Rattle.std.proofs.Common.{rules, ◌≡◌}
use Rattle.io_edge.specs.Lines.{lines}
use Rattle.certificate_verdicts.specs.declared.verdict.TextVerdict.TheVariants.{Accepted}
use Rattle.certificate_commands.specs.Verdicts.{verdict}
use Rattle.certificate_commands.proofs.CheckLaws.{accepted-true}
use Rattle.certificate_commands.proofs.HeldLaws.{accepted-held}
use Rattle.hive_library.proofs.commands.hive_library_check.Goals as goal

pub returns-clause-claim : goal.returns-clause-claim
returns-clause-claim c =
    let accepted : c.give_run.result ≡ 0 → verdict (lines c.args.text.now) ≡ Accepted = search rules in
    λ zero. accepted-true (lines c.args.text.now) (accepted zero)

pub returns-clause-held : goal.returns-clause-held
returns-clause-held c =
    let accepted : c.give_run.result ≡ 0 → verdict (lines c.args.text.now) ≡ Accepted = search rules in
    λ zero. accepted-held (lines c.args.text.now) (accepted zero)
