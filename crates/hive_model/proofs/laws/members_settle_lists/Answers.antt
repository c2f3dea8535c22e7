use Rattle.hive_model.proofs.Orders.{same_rising}
use Rattle.hive_model.proofs.PlaceLemmas.{places_total, exact_places}
use Rattle.hive_model.proofs.MoveLaws.{moves_total, exact_moves}
use Rattle.hive_model.proofs.laws.members_settle_lists.Goals as goal

pub returns-clause-places : goal.returns-clause-places
returns-clause-places c = λ xs ys h k same. same_rising places_total exact_places xs ys h k (λ x. (same x).0) (λ x. (same x).1)

pub returns-clause-moves : goal.returns-clause-moves
returns-clause-moves c = λ xs ys h k same. same_rising moves_total exact_moves xs ys h k (λ x. (same x).0) (λ x. (same x).1)
