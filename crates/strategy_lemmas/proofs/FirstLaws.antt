-- The first lemma that serves, as a search back along the lemmas of its key finds it.
use Rattle.std.proofs.Common.{◌≡◌, ℕ, zero, suc, ◌+◌, ◌<◌, ◌≤◌, Bool, true, false, cond, List, [], ◌∷◌, length, drop, refl, sym, ap, subst, arith, ◌∙◌, ℤ, int_le, Option, Some, None}
use Rattle.std.specs.Prelude.{nat_eq, ◌&&◌}
use Rattle.std.specs.List.{slice_get, position_from}
use Rattle.hive_model.specs.Keys.{KeyParts}
use Rattle.strategy_lemmas.specs.declared.lemmas.Lemma.{Lemma}
use Rattle.strategy_lemmas.specs.SameKeys.{same_key}
use Rattle.strategy_lemmas.specs.Lemmas.{serves, serves_at, server}
use Rattle.strategy_lemmas.specs.Index.{has_key, last_before}
use Rattle.strategy_lemmas.proofs.IndexLaws.{reach, IsOfKey, of-key}

-- the place that was found first, or the other one if there is none
abbrev pub earlier : Option ℕ → Option ℕ → Option ℕ
earlier None b = b
earlier (Some a) b = Some a

earlier-none : (a : Option ℕ) → earlier a None ≡ a
earlier-none None = refl
earlier-none (Some a) = refl

-- a place comes before those that were found later
between : (a : Option ℕ) (b : Bool) (i : ℕ) (r : Option ℕ) → earlier a (cond b (Some i) r) ≡ earlier (earlier a (cond b (Some i) None)) r
between None true i r = refl
between None false i r = refl
between (Some a) b i r = refl

last-false : (a b : Bool) → (a && (b && false)) ≡ false
last-false true true = refl
last-false true false = refl
last-false false b = refl

module _ (k : KeyParts) (e : ℕ) (x : ℤ) where
  -- the first place below n whose lemma serves
  abbrev pub first_before : List Lemma → ℕ → Option ℕ
  first_before ls zero = None
  first_before ls (suc n) = earlier (first_before ls n) (cond (serves_at k e x (slice_get ls n)) (Some n) None)

  turn-at : (ls : List Lemma) (j i : ℕ) → i < length ls →
      position_from (serves k e x) j (drop i ls) ≡ cond (serves_at k e x (slice_get ls i)) (Some j) (position_from (serves k e x) (j + 1) (drop (suc i) ls))
  turn-at [] j i low = absurd (omega (arith, low))
  turn-at (l ∷ ls) j zero low = refl
  turn-at (l ∷ ls) j (suc i) low = turn-at ls j i (omega (arith, low))

  none-left : (ls : List Lemma) (j i : ℕ) → length ls ≤ i → position_from (serves k e x) j (drop i ls) ≡ None
  none-left [] j zero past = refl
  none-left [] j (suc i) past = refl
  none-left (l ∷ ls) j zero past = absurd (omega (arith, past))
  none-left (l ∷ ls) j (suc i) past = none-left ls j i (omega (arith, past))

  from-front : (ls : List Lemma) → server k e x ls ≡ position_from (serves k e x) 0 (drop 0 ls)
  from-front [] = refl
  from-front (l ∷ ls) = refl

  by-steps : (ls : List Lemma) (i : ℕ) → i ≤ length ls → server k e x ls ≡ earlier (first_before ls i) (position_from (serves k e x) i (drop i ls))
  by-steps ls zero low = from-front ls
  by-steps ls (suc i) low =
      let next : i + 1 ≡ suc i = omega arith in
      by-steps ls i (omega (arith, low))
      ∙ ap (earlier (first_before ls i)) (turn-at ls i i (omega (arith, low)))
      ∙ between (first_before ls i) (serves_at k e x (slice_get ls i)) i (position_from (serves k e x) (i + 1) (drop (suc i) ls))
      ∙ ap (λ n. earlier (first_before ls (suc i)) (position_from (serves k e x) n (drop (suc i) ls))) next

  server-is : (ls : List Lemma) → server k e x ls ≡ first_before ls (length ls)
  server-is ls =
      by-steps ls (length ls) (omega arith) ∙ ap (earlier (first_before ls (length ls))) (none-left ls (length ls) (length ls) (omega arith))
      ∙ earlier-none (first_before ls (length ls))

  other-key : (o : Option Lemma) → has_key k o ≡ false → serves_at k e x o ≡ false
  unfolding same_key
  other-key None h = refl
  other-key (Some l) h = ap (λ s. nat_eq l.depth e && (int_le x l.least && s)) h ∙ last-false (nat_eq l.depth e) (int_le x l.least)

  -- no lemma serves after the last one of the key
  none-behind : (ls : List Lemma) (n : ℕ) → first_before ls n ≡ first_before ls (reach (last_before k ls n))
  none-behind ls zero = refl
  none-behind ls (suc n) =
      elim (has_key k (slice_get ls n)) as (λ b. has_key k (slice_get ls n) ≡ b → first_before ls (suc n) ≡ first_before ls (reach (cond b (Some n) (last_before k ls n)))) [
        | true ↦ λ _. refl
        | false ↦ λ h. ap (λ s. earlier (first_before ls n) (cond s (Some n) None)) (other-key (slice_get ls n) h) ∙ earlier-none (first_before ls n) ∙ none-behind ls n
      ] refl

  -- what the search has found so far, if it goes on at this lemma of the key
  pub record IsSoFar (ls : List Lemma) (found at : Option ℕ) : Type 0 where
    pub here : IsOfKey k ls at
    pub so_far : server k e x ls ≡ earlier (first_before ls (reach at)) found

  pub starts : (ls : List Lemma) (at : Option ℕ) → at ≡ last_before k ls (length ls) → IsSoFar ls None at
  starts ls at is =
      subst (IsSoFar ls None) (sym is) (record {
        here = of-key k ls (length ls);
        so_far = server-is ls ∙ none-behind ls (length ls) ∙ sym (earlier-none (first_before ls (reach (last_before k ls (length ls)))));
      })

  pub goes-on : (ls : List Lemma) (found at : Option ℕ) (p : ℕ) → at ≡ last_before k ls p → IsSoFar ls found (Some p) →
      IsSoFar ls (cond (serves_at k e x (slice_get ls p)) (Some p) found) at
  goes-on ls found at p is before =
      subst (IsSoFar ls (cond (serves_at k e x (slice_get ls p)) (Some p) found)) (sym is) (record {
        here = of-key k ls p;
        so_far =
            before.so_far ∙ sym (between (first_before ls p) (serves_at k e x (slice_get ls p)) p found)
            ∙ ap (λ a. earlier a (cond (serves_at k e x (slice_get ls p)) (Some p) found)) (none-behind ls p);
      })

  pub ends : (ls : List Lemma) (found : Option ℕ) → IsSoFar ls found None → found ≡ server k e x ls
  ends ls found at = sym at.so_far
