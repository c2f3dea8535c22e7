-- The games of a cup, as the loops list them, and how many there are.
use Rattle.std.proofs.Common.{◌≡◌, ℕ, ◌+◌, ◌-◌, ◌≤◌, true, false, cond, List, [], ◌∷◌, ◌++◌, map, refl, sym, ap, arith, ◌∙◌}
use Rattle.std.specs.Prelude.{not, nat_eq}
use Rattle.std.proofs.lemmas.Bool.Decides.{nat_tests}
use Rattle.std.specs.List.{filter, flat_map}
use Rattle.hive_model.specs.Lists.{count_from}
use Rattle.tournament_core.proofs.Numbers.{count-next}
use Rattle.cup.specs.declared.pairing.Pairing.{Pairing}
use Rattle.cup.specs.Cup.{row}

-- the games of white against these
abbrev pub row_of : ℕ → List ℕ → List Pairing
row_of white xs = map (λ j. record { white = white; black = j }) (filter (λ j. not (nat_eq j white)) xs)

-- those that are left
abbrev pub row_left : ℕ → ℕ → ℕ → List Pairing
row_left n white b = row_of white (count_from b (n + 1 - b))

pub row-skip : (n white b : ℕ) (xs ys : List Pairing) → b ≤ n → b ≡ white → xs ++ row_left n white b ≡ ys → xs ++ row_left n white (b + 1) ≡ ys
row-skip n white b xs ys low same so =
    let is : nat_eq b white ≡ true = grind (arith, nat_tests) in
    let e : row_left n white b ≡ row_left n white (b + 1) =
    ap (row_of white) (count-next n b low)
    ∙ ap (λ t. map (λ j. record { white = white; black = j }) (cond (not t) (b ∷ filter (λ j. not (nat_eq j white)) (count_from (b + 1) (n + 1 - (b + 1)))) (filter (λ j. not (nat_eq j white)) (count_from (b + 1) (n + 1 - (b + 1)))))) is in
    ap (λ zs. xs ++ zs) (sym e) ∙ so

append-push : {A : Type 0} (xs : List A) (y : A) (ys : List A) → (xs ++ y ∷ []) ++ ys ≡ xs ++ y ∷ ys
append-push [] y ys = refl
append-push (x ∷ xs) y ys = ap (λ zs. x ∷ zs) (append-push xs y ys)

pub row-push : (n white b : ℕ) (xs ys : List Pairing) → b ≤ n → (b ≡ white → ⊥) → xs ++ row_left n white b ≡ ys →
    (xs ++ record { white = white; black = b } ∷ []) ++ row_left n white (b + 1) ≡ ys
row-push n white b xs ys low other so =
    let is : nat_eq b white ≡ false = grind (arith, nat_tests) in
    let e : row_left n white b ≡ record { white = white; black = b } ∷ row_left n white (b + 1) =
    ap (row_of white) (count-next n b low)
    ∙ ap (λ t. map (λ j. record { white = white; black = j }) (cond (not t) (b ∷ filter (λ j. not (nat_eq j white)) (count_from (b + 1) (n + 1 - (b + 1)))) (filter (λ j. not (nat_eq j white)) (count_from (b + 1) (n + 1 - (b + 1)))))) is in
    append-push xs (record { white = white; black = b }) (row_left n white (b + 1)) ∙ ap (λ zs. xs ++ zs) (sym e) ∙ so

-- ---- all rows

abbrev pub rows_left : ℕ → ℕ → List Pairing
rows_left n w = flat_map (row n) (count_from w (n + 1 - w))

append-three : {A : Type 0} (xs ys zs : List A) → (xs ++ ys) ++ zs ≡ xs ++ (ys ++ zs)
append-three [] ys zs = refl
append-three (x ∷ xs) ys zs = ap (λ ws. x ∷ ws) (append-three xs ys zs)

pub rows-push : (n w : ℕ) (xs ys : List Pairing) → w ≤ n → xs ++ rows_left n w ≡ ys → (xs ++ row n w) ++ rows_left n (w + 1) ≡ ys
rows-push n w xs ys low so =
    append-three xs (row n w) (rows_left n (w + 1)) ∙ ap (λ ks. xs ++ flat_map (row n) ks) (sym (count-next n w low)) ∙ so
