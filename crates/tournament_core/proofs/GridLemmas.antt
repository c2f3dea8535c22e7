-- Counts row by row.
use Rattle.std.proofs.Common.{◌≡◌, ◌≢◌, ℕ, ◌+◌, ◌*◌, ◌<◌, true, false, cond, List, length, refl, sym, ap, arith, ◌∙◌, inl, inr, get_or, replicate}
use Rattle.std.specs.Prelude.{nat_eq, ◌&&◌, slice_set}
use Rattle.std.proofs.lemmas.Bool.{cases_eq}
use Rattle.std.proofs.lemmas.Bool.Decides.{nat_tests}
use Rattle.std.proofs.lemmas.List.{get_or-set_same, get_or-set_other, get_or-replicate}
use Rattle.std.proofs.lemmas.Nat.{mul-add-lt, same_from_place}
use Rattle.std.proofs.lemmas.Option.{slice_get_read, get_or_from_slice_get}
use Rattle.tournament_core.specs.Counts.{count_at, one_at}

pub blank-at : (width i j : ℕ) → i < width → j < width → count_at (record { width = width; counts = replicate (width * width) 0 }) i j ≡ 0
unfolding count_at
blank-at width i j row column = get_or-replicate (width * width) (i * width + j) 0 0 (mul-add-lt i width j width row column)

-- one more at one cell
pub counted-at : (counts : List ℕ) (width row column : ℕ) → row < width → column < width → length counts ≡ width * width →
    (i j : ℕ) → i < width → j < width →
    count_at (record { width = width; counts = slice_set counts (row * width + column) (get_or counts (row * width + column) 0 + 1) }) i j
    ≡ count_at (record { width = width; counts = counts }) i j + one_at row column i j
unfolding count_at
counted-at counts width row column low_row low_column whole i j low_i low_j =
    let there : row * width + column < length counts = omega (arith, whole, mul-add-lt row width column width low_row low_column) in
    elim (cases_eq row i) [
      | inl same_row ↦ elim (cases_eq column j) [
        | inl same_column ↦
            let is : nat_eq row i && nat_eq column j ≡ true = grind (arith, nat_tests) in
            let place : row * width + column ≡ i * width + j = ap (λ k. k * width + column) same_row ∙ ap (λ k. i * width + k) same_column in
            ap (λ p. get_or (slice_set counts (row * width + column) (get_or counts (row * width + column) 0 + 1)) p 0) (sym place)
            ∙ get_or-set_same counts (row * width + column) _ 0 there
            ∙ ap (λ p. get_or counts p 0 + 1) place
            ∙ ap (λ t. get_or counts (i * width + j) 0 + cond t 1 0) (sym is)
        | inr other ↦
            let not_ : nat_eq row i && nat_eq column j ≡ false = grind (arith, nat_tests) in
            let apart : i * width + j ≢ row * width + column = λ e. other (sym (same_from_place i j row column width low_j low_column e).1) in
            get_or-set_other counts (row * width + column) (i * width + j) _ 0 apart
            ∙ sym (ap (λ t. get_or counts (i * width + j) 0 + cond t 1 0) not_ ∙ omega arith)
      ]
      | inr other ↦
          let not_ : nat_eq row i && nat_eq column j ≡ false = grind (arith, nat_tests) in
          let apart : i * width + j ≢ row * width + column = λ e. other (sym (same_from_place i j row column width low_j low_column e).0) in
          get_or-set_other counts (row * width + column) (i * width + j) _ 0 apart
          ∙ sym (ap (λ t. get_or counts (i * width + j) 0 + cond t 1 0) not_ ∙ omega arith)
    ]

-- the element at a place does not depend on the default value
pub read-at : (counts : List ℕ) (width row column v : ℕ) → row < width → column < width → length counts ≡ width * width →
    v ≡ get_or counts (row * width + column) v → v ≡ get_or counts (row * width + column) 0
read-at counts width row column v low_row low_column whole is =
    let there : row * width + column < length counts = omega (arith, whole, mul-add-lt row width column width low_row low_column) in
    sym (get_or_from_slice_get counts (row * width + column) v 0 (slice_get_read counts (length counts) (row * width + column) v refl there is))
