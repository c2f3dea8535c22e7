-- What many pieces weigh.
use Rattle.std.specs.Prelude.{ℕ, nat_eq, if◌then◌else◌}
use Rattle.std.specs.Int.{bit_at}
use Rattle.std.specs.List.{sum_by}
use Rattle.hive_model.specs.Pieces.{kind_of, all_pieces}
use Rattle.hive_model.specs.Evaluation.{weight_of}

-- what the pieces weigh together whose bits are set in the number
unfoldable pub weight_of_pieces : ℕ → ℕ
weight_of_pieces n =
    sum_by (λ x. if nat_eq (bit_at n x) 1 then weight_of (kind_of x) else 0) all_pieces
