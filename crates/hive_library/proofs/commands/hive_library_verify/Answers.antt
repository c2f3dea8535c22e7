-- What follows from a check that ends with 0: the text is accepted.
use Rattle.std.proofs.Common.{rules, ◌≡◌}
use Rattle.io_edge.specs.Lines.{lines}
use Rattle.certificate_verdicts.specs.declared.verdict.TextVerdict.TheVariants.{Accepted}
use Rattle.win_commands.specs.Verdicts.{verdict}
use Rattle.win_commands.proofs.VerdictLaws.{accepted-holds, accepted-true}
use Rattle.hive_library.proofs.commands.hive_library_verify.Goals as goal

pub returns-clause-answer : goal.returns-clause-answer
returns-clause-answer c =
    let accepted : c.give_run.result ≡ 0 → verdict (lines c.args.text.now) ≡ Accepted = search rules in
    λ zero. accepted-true (lines c.args.text.now) (accepted zero)

pub returns-clause-held : goal.returns-clause-held
returns-clause-held c =
    let accepted : c.give_run.result ≡ 0 → verdict (lines c.args.text.now) ≡ Accepted = search rules in
    λ zero. accepted-holds (lines c.args.text.now) (accepted zero)
