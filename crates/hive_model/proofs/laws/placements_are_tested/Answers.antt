use Rattle.hive_model.proofs.PlacementLaws.{in_hand_from, from_in_hand, least_in_hand_from, from_least_in_hand, next_of_some, next_of_none, some_next_of, none_next_of, may_place_from, from_may_place, placement_from, from_placement}
use Rattle.hive_model.proofs.laws.placements_are_tested.Goals as goal

pub returns-clause-in_hand : goal.returns-clause-in_hand
returns-clause-in_hand c = λ t b x. (in_hand_from t b x, from_in_hand t b x)

pub returns-clause-least : goal.returns-clause-least
returns-clause-least c = λ t b x small. (least_in_hand_from t b x small, from_least_in_hand t b x)

pub returns-clause-next : goal.returns-clause-next
returns-clause-next c = λ t b c k x. (next_of_some t b c k x, λ h. some_next_of t b c k x h.0 h.1 h.2 h.3)

pub returns-clause-no_next : goal.returns-clause-no_next
returns-clause-no_next c = λ t b c k. (next_of_none t b c k, none_next_of t b c k)

pub returns-clause-place : goal.returns-clause-place
returns-clause-place c = λ b c q. (may_place_from b c q, from_may_place b c q)

pub returns-clause-placement : goal.returns-clause-placement
returns-clause-placement c = λ p x q small. (placement_from p x q small, from_placement p x q)
