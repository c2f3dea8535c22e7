use Rattle.io_edge.specs.Lines.{lines}
use Rattle.certificate_verdicts.proofs.JudgeLaws.{done-accepted}
use Rattle.win_commands.proofs.VerdictLaws.{accepted-true}
use Rattle.win_commands.proofs.laws.verified_answers_are_true.Goals as goal

pub returns : goal.returns
returns c = λ before after run input told. accepted-true (lines input) (done-accepted _ (run input told).status_is)
