use Rattle.tournament_core.proofs.Totals.{order-is-free}
use Rattle.tournament_core.proofs.laws.order_is_free.Goals as goal

pub returns : goal.returns
returns c = order-is-free
