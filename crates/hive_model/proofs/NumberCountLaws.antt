-- The counts of numbers stay true when a key is added at the end, and when the last is dropped.
-- Keys of one board have the same number.
use Rattle.std.proofs.Common.{◌≡◌, ℕ, ◌+◌, ◌-◌, ◌≤◌, ◌<◌, Bool, true, false, cond, Option, None, Result, Ok, Err, OnOk, OnErr, List, [], ◌∷◌, ◌++◌, refl, ap, arith, ◌∙◌, rules}
use Rattle.std.specs.Prelude.{nat_eq, nat_le}
use Rattle.std.specs.List.{count_by}
use Rattle.std.proofs.lemmas.List.Sums.{sum_by-append, sum_by-cons}
use Rattle.indexmap.specs.IndexMap.{IndexMap}
use Rattle.hive_model.specs.Keys.{KeyParts}
use Rattle.hive_model.specs.SpotNumbers.{number_in}
use Rattle.hive_model.specs.KeyNumbers.{number_of}
use Rattle.hive_model.specs.NumberCounts.{or_none, count_of, has_number, AreCounted}
use Rattle.hive_model.specs.Repetition.{same_board, count_same}
use Rattle.hive_model.proofs.SameBoards.{boards_tested}

-- the counts after one of them is set
pub count_set : (b : Bool) (w o : Option ℕ) → or_none (cond b w o) ≡ cond b (or_none w) (or_none o)
count_set true w o = refl
count_set false w o = refl

-- a call that fails only under a condition that does not hold
pub must_do : {X E A P : Type 0} (r : Result X E) → OnErr r A → ¬ A → OnOk r P → P
must_do (Ok x) e n p = p
must_do (Err y) e n p = absurd (n e)

-- a number that is counted has a count
pub stands_counted : (o : Option ℕ) → 1 ≤ or_none o → ¬ (o ≡ None)
stands_counted o some e = let none : or_none o ≡ 0 = ap or_none e in omega (arith, some, none)

count_more : (test : KeyParts → Bool) (ks : List KeyParts) (k : KeyParts) → count_by test (ks ++ k ∷ []) ≡ count_by test ks + cond (test k) 1 0
count_more test ks k = let more = sum_by-append (λ j. cond (test j) 1 0) ks (k ∷ []) in omega (arith, more)

nat_turned : (a b : ℕ) → nat_eq a b ≡ nat_eq b a
nat_turned a b = search rules

-- a key is added at the end, or the last is dropped
module _ {S : Type 0} (ks : List KeyParts) (key : KeyParts) (old new : IndexMap ℕ ℕ S) where
  abbrev pub IsMore : ℕ → Type 0
  IsMore m = (n : ℕ) → count_of new n ≡ cond (nat_eq m n) (count_of old m + 1) (count_of old n)

  abbrev pub IsLess : ℕ → Type 0
  IsLess m = (n : ℕ) → count_of new n ≡ cond (nat_eq m n) (count_of old m - 1) (count_of old n)

  longer : (n : ℕ) (b : Bool) → nat_eq (number_of key) n ≡ b → count_by (has_number n) (ks ++ key ∷ []) ≡ count_by (has_number n) ks + cond b 1 0
  longer n b e = count_more (has_number n) ks key ∙ ap (λ t. count_by (has_number n) ks + cond t 1 0) (nat_turned n (number_of key) ∙ e)

  -- one key counted more
  pub counted_more : AreCounted ks old → IsMore (number_of key) → AreCounted (ks ++ key ∷ []) new
  counted_more counted more n = go (nat_eq (number_of key) n) refl
    where
      go : (b : Bool) → nat_eq (number_of key) n ≡ b → count_of new n ≡ count_by (has_number n) (ks ++ key ∷ [])
      go true e =
          let is : number_of key ≡ n = search rules in
          let here : count_of new n ≡ count_of old (number_of key) + 1 = more n ∙ ap (λ b. cond b (count_of old (number_of key) + 1) (count_of old n)) e in
          let before : count_of old (number_of key) ≡ count_by (has_number n) ks = ap (count_of old) is ∙ counted n in
          let one = longer n true e in
          omega (arith, here, before, one)
      go false e =
          let here : count_of new n ≡ count_of old n = more n ∙ ap (λ b. cond b (count_of old (number_of key) + 1) (count_of old n)) e in
          let before = counted n in
          let one = longer n false e in
          omega (arith, here, before, one)

  -- one key counted less
  pub counted_less : AreCounted (ks ++ key ∷ []) old → IsLess (number_of key) → AreCounted ks new
  counted_less counted less n = go (nat_eq (number_of key) n) refl
    where
      go : (b : Bool) → nat_eq (number_of key) n ≡ b → count_of new n ≡ count_by (has_number n) ks
      go true e =
          let is : number_of key ≡ n = search rules in
          let here : count_of new n ≡ count_of old (number_of key) - 1 = less n ∙ ap (λ b. cond b (count_of old (number_of key) - 1) (count_of old n)) e in
          let before : count_of old (number_of key) ≡ count_by (has_number n) (ks ++ key ∷ []) = ap (count_of old) is ∙ counted n in
          let one = longer n true e in
          omega (arith, here, before, one)
      go false e =
          let here : count_of new n ≡ count_of old n = less n ∙ ap (λ b. cond b (count_of old (number_of key) - 1) (count_of old n)) e in
          let before = counted n in
          let one = longer n false e in
          omega (arith, here, before, one)

  -- the number of the last is counted
  pub last_counted : AreCounted (ks ++ key ∷ []) old → 1 ≤ count_of old (number_of key)
  last_counted counted =
      let itself : nat_eq (number_of key) (number_of key) ≡ true = search rules in
      let one = longer (number_of key) true itself in
      let here = counted (number_of key) in
      omega (arith, here, one)

-- Keys of one board

same_number : (a b : KeyParts) → same_board a b ≡ true → nat_eq (number_of a) (number_of b) ≡ true
same_number a b e = let is : number_of a ≡ number_of b = ap number_in ((boards_tested a b).0 e).spots in search rules

passes_too : (a b : Bool) → (a ≡ true → b ≡ true) → cond a 1 0 ≤ cond b 1 0
passes_too true true so = omega arith
passes_too true false so = absurd (let wrong : false ≡ true = so refl in cc)
passes_too false true so = omega arith
passes_too false false so = omega arith

count_fewer : (p q : KeyParts → Bool) → ((k : KeyParts) → p k ≡ true → q k ≡ true) → (ks : List KeyParts) → count_by p ks ≤ count_by q ks
count_fewer p q so [] = omega arith
count_fewer p q so (k ∷ ks) =
    let first = sum_by-cons (λ j. cond (p j) 1 0) k ks in
    let second = sum_by-cons (λ j. cond (q j) 1 0) k ks in
    let here = passes_too (p k) (q k) (so k) in
    let rest = count_fewer p q so ks in
    omega (arith, first, second, here, rest)

-- at most as many keys have the board of a key as have its number
pub few_alike : {S : Type 0} (ks : List KeyParts) (m : IndexMap ℕ ℕ S) → AreCounted ks m → (k : KeyParts) → count_same k ks ≤ count_of m (number_of k)
few_alike ks m counted k =
    let here = counted (number_of k) in
    let few = count_fewer (same_board k) (has_number (number_of k)) (same_number k) ks in
    omega (arith, here, few)

pub both_few : (a b : ℕ) → a < 3 → b < 3 → nat_le 3 a ≡ nat_le 3 b
both_few a b few less = search rules
