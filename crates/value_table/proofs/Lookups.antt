-- What look-ups find after an entry was put, or was used and went to the front.
use Rattle.std.proofs.Common.{◌≡◌, ◌≢◌, ℕ, zero, suc, Bool, true, false, cond, List, [], ◌∷◌, length, take, Some, None, ◌⊎◌, inl, inr, refl, sym, ap, arith, ◌∙◌}
use Rattle.std.specs.Option.{option_map, option_map_or}
use Rattle.std.specs.List.{slice_get}
use Rattle.std.specs.Map.{lookup, lookup_entry, remove_entry}
use Rattle.lru.specs.LruCache.{promoted}
use Rattle.lru.proofs.CallerLemmas.{Contains-lookup_entry}
use Rattle.lru.proofs.Pairs.{lookup-lookup_entry}
use Rattle.hive_model.specs.SameSpots.{Decides}

module _ {K : Type 0} (E : K → K → Bool) (decides : Decides E) where
  -- two keys are equal, or the test refuses them
  pub apart : (j k : K) → (j ≡ k) ⊎ ((j ≢ k) × (E j k ≡ false))
  apart j k = elim (E j k) as (λ t. E j k ≡ t → (j ≡ k) ⊎ ((j ≢ k) × (E j k ≡ false))) [
    | true ↦ λ e. inl ((decides j k).0 e)
    | false ↦ λ e. inr (λ same. let wrong : true ≡ false = sym ((decides j k).1 same) ∙ e in cc, e)
  ] refl

  pub refused : (j k : K) → j ≢ k → E j k ≡ false
  refused j k other = elim (apart j k) [ inl same ↦ absurd (other same) | inr r ↦ r.1 ]

module _ {K V : Type 0} (E : K → K → Bool) (decides : Decides E) where
  -- the first entry has another key, or it is found
  pub past : (j : K) (e : K × V) (es : List (K × V)) → j ≢ e.0 → lookup (E j) (e ∷ es) ≡ lookup (E j) es
  past j e es other = ap (λ t. cond t (Some e.1) (lookup (E j) es)) (refused E decides j e.0 other)

  pub at_front : (j : K) (e : K × V) (es : List (K × V)) → j ≡ e.0 → lookup (E j) (e ∷ es) ≡ Some e.1
  at_front j e es same = ap (λ t. cond t (Some e.1) (lookup (E j) es)) ((decides j e.0).1 same)

  pub without_other : (k j : K) → j ≢ k → (es : List (K × V)) → lookup (E j) (remove_entry (E k) es) ≡ lookup (E j) es
  without_other k j other [] = refl
  without_other k j other (e ∷ es) =
      elim (E k e.0) as (λ t. E k e.0 ≡ t → lookup (E j) (cond t es (e ∷ remove_entry (E k) es)) ≡ lookup (E j) (e ∷ es)) [
        | true ↦ λ is. sym (past j e es (λ same. other (same ∙ sym ((decides k e.0).0 is))))
        | false ↦ λ _. ap (cond (E j e.0) (Some e.1)) (without_other k j other es)
      ] refl

  -- what is used is found as before
  pub lookup-promoted : (k j : K) (es : List (K × V)) → lookup (E j) (promoted (E k) es) ≡ lookup (E j) es
  lookup-promoted k j es =
      elim (lookup_entry (E k) es) as (λ o. lookup_entry (E k) es ≡ o → lookup (E j) (option_map_or (λ e. e ∷ remove_entry (E k) es) o es) ≡ lookup (E j) es) [
        | None ↦ λ _. refl
        | Some f ↦ λ is.
            let at : k ≡ f.0 = (decides k f.0).0 (Contains-lookup_entry (E k) es f is).1 in
            let value : lookup (E k) es ≡ Some f.1 = sym (lookup-lookup_entry (E k) es) ∙ ap (option_map (λ e. e.1)) is in
            elim (apart E decides j k) [
              | inl same ↦ at_front j f (remove_entry (E k) es) (same ∙ at) ∙ sym (ap (λ q. lookup (E q) es) same ∙ value)
              | inr other ↦ past j f (remove_entry (E k) es) (λ e. other.0 (e ∙ sym at)) ∙ without_other k j other.0 es
            ]
      ] refl

  -- all but the last entry are found as before
  pub lookup-front : (n : ℕ) (es : List (K × V)) → length es ≡ suc n
      → (last : K) × (option_map (λ f. f.0) (slice_get es n) ≡ Some last) × ((j : K) → (lookup (E j) (take n es) ≡ lookup (E j) es) ⊎ ((lookup (E j) (take n es) ≡ None) × (last ≡ j)))
  lookup-front n [] h = absurd (omega (arith, h))
  lookup-front zero (e ∷ es) h = (
    e.0,
    refl,
    λ j. elim (apart E decides j e.0) [
      | inl same ↦ inr (refl, sym same)
      | inr other ↦ inl (sym (past j e es other.0 ∙ none j es (omega (arith, h))))
    ],
  )
    where
      none : (j : K) (xs : List (K × V)) → length xs ≡ 0 → lookup (E j) xs ≡ None
      none j [] h = refl
      none j (x ∷ xs) h = absurd (omega (arith, h))
  lookup-front (suc n) (e ∷ es) h =
      let rest = lookup-front n es (omega (arith, h)) in (
        rest.0,
        rest.1,
        λ j. elim (apart E decides j e.0) [
          | inl same ↦ inl (at_front j e (take n es) same ∙ sym (at_front j e es same))
          | inr other ↦ elim (rest.2 j) [
            | inl found ↦ inl (past j e (take n es) other.0 ∙ found ∙ sym (past j e es other.0))
            | inr lost ↦ inr (past j e (take n es) other.0 ∙ lost.0, lost.1)
          ]
        ],
      )
