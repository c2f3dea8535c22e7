use Rattle.certificate_commands.proofs.HeldLaws.{accepted-held, is-held-accepted}
use Rattle.certificate_commands.proofs.laws.certificates_alone_are_accepted.Goals as goal

pub returns : goal.returns
returns c = λ ls. (accepted-held ls, is-held-accepted ls)
