use Rattle.uhp_session.proofs.RefusalLaws.{changes_nothing}
use Rattle.uhp_session.proofs.laws.refusals_change_nothing.Goals as goal

pub returns : goal.returns
returns c = changes_nothing
