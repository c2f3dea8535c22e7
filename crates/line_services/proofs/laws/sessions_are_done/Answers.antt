use Rattle.line_services.proofs.DoneLaws.{sessions_done}
use Rattle.line_services.proofs.laws.sessions_are_done.Goals as goal

pub returns : goal.returns
returns c = sessions_done
