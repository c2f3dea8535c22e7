use Rattle.std.proofs.Common.{ℕ, ◌≤◌, sym, subst}
use Rattle.hive_eval.proofs.WeightLaws.{weight-by_counts, weight_of_pieces-few}
use Rattle.hive_eval.proofs.weights.weight_of_pieces.Goals as goal

pub returns-clause-weight : goal.returns-clause-weight
returns-clause-weight c = weight-by_counts c.args.pieces

pub returns-clause-few : goal.returns-clause-few
returns-clause-few c = subst (λ (n : ℕ). n ≤ 280) (sym (weight-by_counts c.args.pieces)) (weight_of_pieces-few c.args.pieces)
