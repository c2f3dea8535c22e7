use Rattle.uhp_session.proofs.HeldLaws.{holds_games}
use Rattle.uhp_session.proofs.laws.sessions_hold_games.Goals as goal

pub returns : goal.returns
returns c = holds_games
