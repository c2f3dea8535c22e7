use Rattle.line_services.proofs.DoneLaws.{replays_done}
use Rattle.line_services.proofs.laws.replays_are_done.Goals as goal

pub returns : goal.returns
returns c = replays_done
