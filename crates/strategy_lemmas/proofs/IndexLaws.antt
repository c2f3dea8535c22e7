-- What the index says of a list, and that this stays true when a lemma is kept.
use Rattle.std.proofs.Common.{◌≡◌, ℕ, zero, suc, ◌+◌, ◌<◌, ◌≤◌, true, false, cond, List, [], ◌∷◌, ◌++◌, length, refl, sym, ap, subst, arith, ◌∙◌, Option, Some, None, ◌⊎◌, inl, inr}
use Rattle.std.specs.List.{slice_get}
use Rattle.std.specs.Prelude.{slice_index_or}
use Rattle.std.proofs.lemmas.Option.{slice_get_within, get_or_from_slice_get}
use Rattle.hive_model.specs.Keys.{KeyParts}
use Rattle.hive_model.specs.SameKeys.{same_key}
use Rattle.hive_model.proofs.SameKeys.{keys}
use Rattle.hive_model.proofs.GetLemmas.{get_last}
use Rattle.indexmap.specs.IndexMap.{IndexMap, get, index_map_len, spare}
use Rattle.strategy_lemmas.specs.declared.lemmas.Lemma.{Lemma}
use Rattle.strategy_lemmas.specs.Index.{has_key, last_before, IsIndexed}

-- how many lemmas there are up to this place
abbrev pub reach : Option ℕ → ℕ
reach None = 0
reach (Some p) = suc p

-- a lemma at this place has the key
abbrev pub IsOfKey : KeyParts → List Lemma → Option ℕ → Type 0
IsOfKey k ls None = Unit {0}
IsOfKey k ls (Some p) = has_key k (slice_get ls p) ≡ true

pub of-key : (k : KeyParts) (ls : List Lemma) (n : ℕ) → IsOfKey k ls (last_before k ls n)
of-key k ls zero = tt
of-key k ls (suc n) =
    elim (has_key k (slice_get ls n)) as (λ b. has_key k (slice_get ls n) ≡ b → IsOfKey k ls (cond b (Some n) (last_before k ls n))) [
      | true ↦ λ h. h
      | false ↦ λ _. of-key k ls n
    ] refl

pub reach-below : (k : KeyParts) (ls : List Lemma) (n : ℕ) → reach (last_before k ls n) ≤ n
reach-below k ls zero = omega arith
reach-below k ls (suc n) =
    elim (has_key k (slice_get ls n)) as (λ b. reach (cond b (Some n) (last_before k ls n)) ≤ suc n) [
      | true ↦ omega arith
      | false ↦ (let before = reach-below k ls n in omega (arith, before))
    ]

-- beside a lemma of the key is the place of the one before it
link-back : {S : Type 0} (k : KeyParts) (ls : List Lemma) (previous : List (Option ℕ)) (last : IndexMap KeyParts ℕ S) → IsIndexed ls previous last → (p : ℕ) →
    has_key k (slice_get ls p) ≡ true → slice_get previous p ≡ Some (last_before k ls p)
link-back k ls previous last indexed p has = go (slice_get ls p) refl has
  where
    go : (o : Option Lemma) → slice_get ls p ≡ o → has_key k o ≡ true → slice_get previous p ≡ Some (last_before k ls p)
    go None is h = cc
    go (Some l) is h = indexed.linked p l is ∙ ap (λ q. Some (last_before q ls p)) ((keys l.key k).0 h)

-- what is beside the lemma that a search has reached
pub goes-back : {S : Type 0} (k : KeyParts) (ls : List Lemma) (previous : List (Option ℕ)) (last : IndexMap KeyParts ℕ S) → IsIndexed ls previous last → (at : Option ℕ) (p : ℕ) →
    at ≡ Some p → IsOfKey k ls at → (now : Option ℕ) → now ≡ slice_index_or previous p now → now ≡ last_before k ls p
goes-back k ls previous last indexed at p is here now read =
    read ∙ get_or_from_slice_get previous p (last_before k ls p) now (link-back k ls previous last indexed p (subst (IsOfKey k ls) is here))

-- it is there
pub is-beside : {S : Type 0} (k : KeyParts) (ls : List Lemma) (previous : List (Option ℕ)) (last : IndexMap KeyParts ℕ S) → IsIndexed ls previous last → (at : Option ℕ) (p : ℕ) →
    at ≡ Some p → IsOfKey k ls at → p < length previous
is-beside k ls previous last indexed at p is here =
    slice_get_within previous p (last_before k ls p) (link-back k ls previous last indexed p (subst (IsOfKey k ls) is here))

-- ---- one lemma more

get-left : {X : Type 0} (xs ys : List X) (i : ℕ) → i < length xs → slice_get (xs ++ ys) i ≡ slice_get xs i
get-left [] ys i low = absurd (omega (arith, low))
get-left (x ∷ xs) ys zero low = refl
get-left (x ∷ xs) ys (suc i) low = get-left xs ys i (omega (arith, low))

one-longer : {X : Type 0} (xs : List X) (y : X) → length (xs ++ y ∷ []) ≡ suc (length xs)
one-longer [] y = refl
one-longer (x ∷ xs) y = ap suc (one-longer xs y)

before-same : (k : KeyParts) (ls : List Lemma) (l : Lemma) (n : ℕ) → n ≤ length ls → last_before k (ls ++ l ∷ []) n ≡ last_before k ls n
before-same k ls l zero low = refl
before-same k ls l (suc n) low =
    λ i. cond (has_key k (get-left ls (l ∷ []) n (omega (arith, low)) i)) (Some n) (before-same k ls l n (omega (arith, low)) i)

low-or-high : (i n : ℕ) → (i < n) ⊎ (n ≤ i)
low-or-high i zero = inr (omega arith)
low-or-high zero (suc n) = inl (omega arith)
low-or-high (suc i) (suc n) = elim (low-or-high i n) [ inl low ↦ inl (omega (arith, low)) | inr high ↦ inr (omega (arith, high)) ]

module _ {S : Type 0} (ls : List Lemma) (previous : List (Option ℕ)) (last now : IndexMap KeyParts ℕ S) (l : Lemma) (indexed : IsIndexed ls previous last)
    (noted : (k : KeyParts) → get same_key now k ≡ cond (same_key l.key k) (Some (length ls)) (get same_key last k)) where
  longer : List Lemma
  longer = ls ++ l ∷ []

  lasts-on : (k : KeyParts) → get same_key now k ≡ last_before k longer (length longer)
  unfolding longer
  lasts-on k =
      noted k
      ∙ (λ i. cond (has_key k (sym (get_last ls l) i)) (Some (length ls)) ((indexed.lasts k ∙ sym (before-same k ls l (length ls) (omega arith))) i))
      ∙ ap (last_before k (ls ++ l ∷ [])) (sym (one-longer ls l))

  linked-on : (i : ℕ) (m : Lemma) → slice_get longer i ≡ Some m → (i < length ls) ⊎ (length ls ≤ i) →
      slice_get (previous ++ last_before l.key ls (length ls) ∷ []) i ≡ Some (last_before m.key longer i)
  unfolding longer
  linked-on i m is (inl low) =
      get-left previous (last_before l.key ls (length ls) ∷ []) i (let same = indexed.beside in omega (arith, same, low))
      ∙ indexed.linked i m (sym (get-left ls (l ∷ []) i low) ∙ is)
      ∙ ap Some (sym (before-same m.key ls l i (omega (arith, low))))
  linked-on i m is (inr high) =
      let within : i < length (ls ++ l ∷ []) = slice_get_within (ls ++ l ∷ []) i m is in
      let more = one-longer ls l in
      let at : i ≡ length ls = omega (arith, within, more, high) in
      let same : m ≡ l = (let both : Some m ≡ Some l = sym is ∙ ap (slice_get (ls ++ l ∷ [])) at ∙ get_last ls l in cc) in
      ap (slice_get (previous ++ last_before l.key ls (length ls) ∷ [])) (at ∙ sym indexed.beside) ∙ get_last previous (last_before l.key ls (length ls))
      ∙ ap Some (sym (before-same l.key ls l (length ls) (omega arith)))
      ∙ (λ j. Some (last_before ((sym same j).key) (ls ++ l ∷ []) (sym at j)))

  -- the index of the list with one lemma more
  pub index-kept : index_map_len now ≤ index_map_len last + 1 → index_map_len last + spare last ≤ index_map_len now + spare now →
      IsIndexed (ls ++ l ∷ []) (previous ++ last_before l.key ls (length ls) ∷ []) now
  unfolding longer
  index-kept more room = record {
    lasts = lasts-on;
    beside = one-longer previous (last_before l.key ls (length ls)) ∙ ap suc indexed.beside ∙ sym (one-longer ls l);
    linked = λ i m is. linked-on i m is (low-or-high i (length ls));
    keys = (let longer_by = one-longer ls l in let few = indexed.keys in omega (arith, longer_by, few, more));
    room = (let before = indexed.room in omega (arith, before, room));
  }
