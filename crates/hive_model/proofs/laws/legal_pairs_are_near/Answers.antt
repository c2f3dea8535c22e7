use Rattle.hive_model.proofs.LegalLaws.{near_legal, legal_pair_from, from_legal_pair, legal_is_piece}
use Rattle.hive_model.proofs.laws.legal_pairs_are_near.Goals as goal

pub returns-clause-tested : goal.returns-clause-tested
returns-clause-tested c = λ p is x q small. (legal_pair_from p is x small q, from_legal_pair p is x q)

pub returns-clause-near : goal.returns-clause-near
returns-clause-near c = λ p is x q h. (legal_is_piece p is x q h, near_legal p x q is (from_legal_pair p is x q h))
