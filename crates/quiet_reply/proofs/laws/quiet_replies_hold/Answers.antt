use Rattle.quiet_reply.proofs.Quiet.{quiet_replies}
use Rattle.quiet_reply.proofs.laws.quiet_replies_hold.Goals as goal

pub returns : goal.returns
returns c = quiet_replies
