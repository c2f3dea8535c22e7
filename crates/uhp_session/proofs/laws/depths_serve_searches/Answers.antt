use Rattle.uhp_session.proofs.DepthLaws.{serves}
use Rattle.uhp_session.proofs.laws.depths_serve_searches.Goals as goal

pub returns : goal.returns
returns c = serves
