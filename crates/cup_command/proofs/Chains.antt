-- Chains of starts and of closes.
use Rattle.std.proofs.Common.{◌≡◌, inl, inr, ℕ, ◌-◌, ◌+◌, ◌^◌, List, [], ◌∷◌, ◌++◌, length, Some, None, true, false, refl, ap, sym, ◌∙◌, arith, subst, length-append}
use Rattle.std.specs.Prelude.{if◌then◌else◌}
use Rattle.std.proofs.lemmas.Bool.{cases_lt}
use Rattle.std.proofs.lemmas.List.Sums.{sum_by-cons}
use Rattle.io_edge.specs.Outside.{ToldLists, one_more}
use Rattle.io_edge.specs.Starts.{Engines}
use Rattle.match_command.specs.Match.{NoneIsOpen}
use Rattle.match_runner.specs.Wires.{Wire}
use Rattle.cup.specs.Played.{Job}
use Rattle.cup_command.specs.Cup.{RoseBy}
use Rattle.cup_command.specs.Links.{ClosesLinks, StartsAll, all_links, counted, failures, has_failed}

-- One chain after another

pub starts-append : (a b c : ToldLists) (xs ys : List Wire) → StartsAll a b xs → StartsAll b c ys → StartsAll a c (xs ++ ys)
starts-append a b c [] ys e t = subst (λ m. StartsAll m c ys) e t
starts-append a b c (x ∷ xs) ys (m, s, r) t = (m, s, starts-append m b c xs ys r t)

pub closes-append : (a b c : ToldLists) (xs ys : List Wire) → ClosesLinks a b xs → ClosesLinks b c ys → ClosesLinks a c (xs ++ ys)
closes-append a b c [] ys e t = subst (λ m. ClosesLinks m c ys) e t
closes-append a b c (x ∷ xs) ys (m, s, r) t = (m, s, closes-append m b c xs ys r t)

pub counted-append : (xs ys : List Wire) (n : ℕ) → counted (xs ++ ys) n ≡ counted ys (counted xs n)
counted-append [] ys n = refl
counted-append (x ∷ xs) ys n = counted-append xs ys (if has_failed x then one_more n else n)

pub nothing-left : {A : Type 0} (xs : List A) → length xs ≡ 0 → xs ≡ []
nothing-left [] e = refl
nothing-left (x ∷ xs) e = absurd (omega (arith, e))

-- What a close counts

counted-most : (xs : List Wire) → counted xs (2 ^ 64 - 1) ≡ 2 ^ 64 - 1
counted-most [] = refl
counted-most (x ∷ xs) = elim (has_failed x) as (λ t. counted xs (if t then one_more (2 ^ 64 - 1) else 2 ^ 64 - 1) ≡ 2 ^ 64 - 1) [
  | true ↦ counted-most xs
  | false ↦ counted-most xs
]

one-more : (xs : List Wire) → ((m : ℕ) → RoseBy (failures xs) m (counted xs m)) → (n : ℕ) → RoseBy (1 + failures xs) n (counted xs (one_more n))
one-more xs rest n = elim (cases_lt n (2 ^ 64 - 1)) [
  | inl low ↦
      let e : one_more n ≡ n + 1 = omega (arith, low) in
      subst (λ m. RoseBy (1 + failures xs) n (counted xs m)) (sym e) (elim (rest (n + 1)) [ inl more ↦ inl (omega (arith, more)) | inr most ↦ inr most ])
  | inr high ↦
      let e : one_more n ≡ 2 ^ 64 - 1 = omega (arith, high) in
      inr (ap (λ m. counted xs m) e ∙ counted-most xs)
]

-- as many failures are counted as links have failed
pub rises : (xs : List Wire) (n : ℕ) → RoseBy (failures xs) n (counted xs n)
rises [] n = inl (omega arith)
rises (x ∷ xs) n = subst (λ k. RoseBy k n (counted (x ∷ xs) n)) (sym (sum_by-cons (λ link. if has_failed link then 1 else 0) x xs)) (elim (has_failed x) as (λ t. RoseBy ((if t then 1 else 0) + failures xs) n (counted xs (if t then one_more n else n))) [
  | true ↦ one-more xs (λ m. rises xs m) n
  | false ↦ elim (rises xs n) [ inl more ↦ inl (omega (arith, more)) | inr most ↦ inr most ]
])

-- How many were started, and closed

pub two-each : (jobs : List Job) → length (all_links jobs) ≡ length jobs + length jobs
two-each [] = refl
two-each (j ∷ js) = let more = two-each js in omega (arith, more)

pub as-many : (old new : List Job) → length new ≡ length old → length (all_links new) ≡ length (all_links old)
as-many old new e = let one = two-each old in let other = two-each new in omega (arith, e, one, other)

taken : (xs : List Wire) (coming later : List (List ℕ)) → StartsAll (Some coming) (Some later) xs → length coming ≡ length later + length xs
taken [] coming later e = let same : coming ≡ later = cc in ap length same ∙ omega arith
taken (x ∷ xs) coming later (None, s, r) = absurd s
taken (x ∷ xs) coming later (Some mid, (bytes, e, f, g), r) = let more = taken xs mid later r in let one = ap length e in omega (arith, more, one)

untold : (xs : List Wire) (all : List (List ℕ)) → ClosesLinks None (Some all) xs → ⊥
untold [] all e = cc
untold (x ∷ xs) all (None, s, r) = untold xs all r
untold (x ∷ xs) all (Some mid, s, r) = s

closed : (xs : List Wire) (lists all : List (List ℕ)) → ClosesLinks (Some lists) (Some all) xs → length all ≡ length lists + length xs
closed [] lists all e = let same : all ≡ lists = cc in ap length same ∙ omega arith
closed (x ∷ xs) lists all (None, s, r) = absurd (untold xs all r)
closed (x ∷ xs) lists all (Some mid, (bytes, e, f), r) = let more = closed xs mid all r in let one = ap length f ∙ length-append lists (bytes ∷ []) in omega (arith, more, one)

-- if as many links were closed as were started, none is left open
pub none-open : (before after : Engines) (xs ys : List Wire) → StartsAll before.to_come after.to_come xs → ClosesLinks before.sent after.sent ys → length ys ≡ length xs → NoneIsOpen before after
none-open before after xs ys s c same coming later opened shut e f g h =
    let started : StartsAll (Some coming) (Some later) xs = subst (λ a. StartsAll a (Some later) xs) e (subst (λ b. StartsAll before.to_come b xs) f s) in
    let ended : ClosesLinks (Some opened) (Some shut) ys = subst (λ a. ClosesLinks a (Some shut) ys) g (subst (λ b. ClosesLinks before.sent b ys) h c) in
    let one = taken xs coming later started in
    let other = closed ys opened shut ended in
    omega (arith, one, other, same)

-- the links of these games were started, and then those of the same number of games were closed
pub none-kept : (before between after : Engines) (olds shut : List Job) → StartsAll before.to_come between.to_come (all_links olds) → between.sent ≡ before.sent
    → ClosesLinks between.sent after.sent (all_links shut) → after.to_come ≡ between.to_come → length shut ≡ length olds → NoneIsOpen before after
none-kept before between after olds shut starts same closes come long =
    none-open before after (all_links olds) (all_links shut) (subst (λ t. StartsAll before.to_come t (all_links olds)) (sym come) starts) (subst (λ s. ClosesLinks s after.sent (all_links shut)) same closes) (as-many olds shut long)
