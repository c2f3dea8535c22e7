-- The opening is sound.
use Rattle.std.proofs.Common.{◌≡◌, ℕ, true, false, List, [], refl}
use Rattle.std.specs.Prelude.{Option, Some, None}
use Rattle.hive_model.specs.Boards.{IsBoard}
use Rattle.rule_laws.specs.Soundness.{OpeningsAreSound}

empty_board : IsBoard []
empty_board = record {
  in_order = refl;
  stacks = λ p e. let wrong : ◌≡◌ {A = Option (List ℕ)} None (Some []) = e in cc;
  pieces = λ p i x h. let wrong : ◌≡◌ {A = Option ℕ} None (Some x) = h in absurd (cc);
  once = λ x p q i j h k. let wrong : ◌≡◌ {A = Option ℕ} None (Some x) = h in absurd (cc);
  within = λ p h. let wrong : false ≡ true = h in absurd (cc);
}

pub openings : OpeningsAreSound
openings t = (
  record {
    board = empty_board;
    of_type = λ x h. let wrong : false ≡ true = h in absurd (cc);
    one_hive = λ p q h k. let wrong : false ≡ true = h in absurd (cc);
    above = λ x q level h high. let wrong : ◌≡◌ {A = Option ℕ} None (Some x) = h in absurd (cc);
    least = λ x y h low k c. let wrong : false ≡ true = h in absurd (cc);
    resting = λ x e. let wrong : ◌≡◌ {A = Option ℕ} None (Some x) = e in absurd (cc);
  },
  λ p h. let wrong : false ≡ true = h in absurd (cc),
)
