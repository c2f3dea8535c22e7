-- What a call leaves of a table.
use Rattle.std.proofs.Common.{◌≡◌, ◌≢◌, ℕ, zero, suc, ◌-◌, ◌≤◌, Bool, true, false, cond, List, [], ◌∷◌, length, take, Option, Some, None, ◌⊎◌, inl, inr, refl, sym, ap, subst, arith, ◌∙◌}
use Rattle.std.specs.Prelude.{Result, Ok, Err, OnOk, OnErr, IsOk, IsSome, IfSome, nat_eq}
use Rattle.std.specs.List.{slice_get}
use Rattle.std.specs.Option.{option_map, option_map_or}
use Rattle.std.proofs.lemmas.Bool.{cases_eq, eqb-true}
use Rattle.std.specs.Map.{lookup, lookup_entry, remove_entry}
use Rattle.std.proofs.lemmas.List.{length-take, take_all}
use Rattle.lru.specs.LruCache.{LruCache, lru_cache, promoted, put_entries}
use Rattle.lru.proofs.CallerLemmas.{Contains-lookup_entry}
use Rattle.lru.proofs.Pairs.{lookup-lookup_entry}
use Rattle.hive_model.specs.Keys.{KeyParts}
use Rattle.value_table.specs.Truth.{IsTrueOf}
use Rattle.value_table.specs.Entries.{KnownParts, EntryParts}
use Rattle.hive_model.specs.SameKeys.{same_key}
use Rattle.value_table.specs.Kept.{TableParts, kept, of_depth, used, IsTrueTable, KeepSame, HasPut}
use Rattle.value_table.specs.Tidy.{AreTrue, IsTidy}
use Rattle.hive_model.proofs.SameKeys.{keys}
use Rattle.value_table.proofs.Lookups.{past, at_front, without_other, lookup-promoted, lookup-front}

abbrev Entries : Type 0
Entries = List (KeyParts × KnownParts)

abbrev Cache : Type 0
Cache = LruCache KeyParts KnownParts

-- what contracts see of a cache
abbrev pub shown : Cache → TableParts
shown c = record { entries = c.entries; room = c.cap }

-- What is known is true

abbrev IsTrueOne : KeyParts × KnownParts → Type 0
IsTrueOne f = IsTrueOf f.0 f.1.depth f.1.bound f.1.value

true-remove : (test : KeyParts → Bool) (es : Entries) → AreTrue es → AreTrue (remove_entry test es)
true-remove test [] so = tt
true-remove test (e ∷ es) so = elim (test e.0) as (λ t. AreTrue (cond t es (e ∷ remove_entry test es))) [ true ↦ so.1 | false ↦ (so.0, true-remove test es so.1) ]

true-take : (n : ℕ) (es : Entries) → AreTrue es → AreTrue (take n es)
true-take zero [] so = tt
true-take zero (e ∷ es) so = tt
true-take (suc n) [] so = tt
true-take (suc n) (e ∷ es) so = (so.0, true-take n es so.1)

true-found : (test : KeyParts → Bool) (es : Entries) (f : KeyParts × KnownParts) → AreTrue es → lookup_entry test es ≡ Some f → IsTrueOne f
true-found test [] f so h = let wrong : None ≡ Some f = h in absurd (cc)
true-found test (e ∷ es) f so h =
    elim (test e.0) as (λ t. cond t (Some e) (lookup_entry test es) ≡ Some f → IsTrueOne f) [
      | true ↦ λ k. let same : e ≡ f = (let s : Some e ≡ Some f = k in cc) in subst (λ (g : KeyParts × KnownParts). IsTrueOne g) same so.0
      | false ↦ λ k. true-found test es f so.1 k
    ] h

true-under : (k j : KeyParts) (e : KnownParts) → k ≡ j → IsTrueOf k e.depth e.bound e.value → IsTrueOf j e.depth e.bound e.value
true-under k j e same so = subst (λ (q : KeyParts). IsTrueOf q e.depth e.bound e.value) same so

pub true-kept : (es : Entries) (k : KeyParts) (e : KnownParts) → AreTrue es → lookup (same_key k) es ≡ Some e → IsTrueOf k e.depth e.bound e.value
true-kept [] k e so h = let wrong : None ≡ Some e = h in absurd (cc)
true-kept (f ∷ es) k e so h =
    elim (same_key k f.0) as (λ t. same_key k f.0 ≡ t → cond t (Some f.1) (lookup (same_key k) es) ≡ Some e → IsTrueOf k e.depth e.bound e.value) [
      | true ↦ λ is here.
          let same : f.1 ≡ e = (let s : Some f.1 ≡ Some e = here in cc) in
          subst (λ (g : KnownParts). IsTrueOf k g.depth g.bound g.value) same (true-under f.0 k f.1 (sym ((keys k f.0).0 is)) so.0)
      | false ↦ λ _ later. true-kept es k e so.1 later
    ] refl h

pub true-shown : (c : Cache) (t : TableParts) → IsTidy c → shown c ≡ t → IsTrueTable t
true-shown c t tidy is = subst IsTrueTable is (λ k e h. true-kept c.entries k e tidy.holds h)

length-remove : (test : KeyParts → Bool) (es : Entries) (f : KeyParts × KnownParts) → lookup_entry test es ≡ Some f → suc (length (remove_entry test es)) ≡ length es
length-remove test [] f h = let wrong : None ≡ Some f = h in absurd (cc)
length-remove test (e ∷ es) f h =
    elim (test e.0) as (λ t. cond t (Some e) (lookup_entry test es) ≡ Some f → suc (length (cond t es (e ∷ remove_entry test es))) ≡ suc (length es)) [
      | true ↦ λ k. refl
      | false ↦ λ k. ap suc (length-remove test es f k)
    ] h

-- An entry is used

pub tidy-promoted : (c : Cache) (k : KeyParts) → IsTidy c → IsTidy (lru_cache (promoted (same_key k) c.entries) c.cap)
tidy-promoted c k tidy =
    elim (lookup_entry (same_key k) c.entries) as (λ o. lookup_entry (same_key k) c.entries ≡ o → IsTidy (lru_cache (option_map_or (λ e. e ∷ remove_entry (same_key k) c.entries) o c.entries) c.cap)) [
      | None ↦ λ _. tidy
      | Some f ↦ λ is. record {
        holds = (true-found (same_key k) c.entries f tidy.holds is, true-remove (same_key k) c.entries tidy.holds);
        some = tidy.some;
        within = subst (λ n. n ≤ c.cap) (sym (length-remove (same_key k) c.entries f is)) tidy.within;
      }
    ] refl

pub look-used : (c new : Cache) (k : KeyParts) (t : TableParts) → shown c ≡ t → new ≡ lru_cache (promoted (same_key k) c.entries) c.cap → shown new ≡ used k t
look-used c new k t is moved = ap shown moved ∙ ap (used k) is

pub look-same : (c new : Cache) (k : KeyParts) (t : TableParts) → shown c ≡ t → new ≡ lru_cache (promoted (same_key k) c.entries) c.cap → KeepSame t (shown new)
look-same c new k t is moved = λ j.
    ap (λ (s : TableParts). kept s j) (look-used c new k t is moved)
    ∙ lookup-promoted same_key keys k j t.entries

-- An entry is put

module _ (c : Cache) (tidy : IsTidy c) (k : KeyParts) (v : KnownParts) (e : EntryParts) (at : k ≡ e.key) (as_known : v ≡ e.known) where
  abbrev then : Option (KeyParts × KnownParts) → Entries
  then o = option_map_or (λ f. (f.0, v) ∷ remove_entry (same_key k) c.entries) o ((k, v) ∷ take (c.cap - 1) c.entries)

  abbrev new : Cache
  new = lru_cache (put_entries same_key c k v) c.cap

  new-true : (first : KeyParts) → first ≡ e.key → IsTrueOf first v.depth v.bound v.value
  new-true first same =
      subst (λ (g : KnownParts). IsTrueOf first g.depth g.bound g.value) (sym as_known) (true-under e.key first e.known (sym same) e.holds)

  found-key : (f : KeyParts × KnownParts) → lookup_entry (same_key k) c.entries ≡ Some f → f.0 ≡ e.key
  found-key f is = sym ((keys k f.0).0 (Contains-lookup_entry (same_key k) c.entries f is).1) ∙ at

  pub tidy-put : IsTidy new
  tidy-put =
      elim (lookup_entry (same_key k) c.entries) as (λ o. lookup_entry (same_key k) c.entries ≡ o → IsTidy (lru_cache (then o) c.cap)) [
        | None ↦ λ _. record {
          holds = (new-true k at, true-take (c.cap - 1) c.entries tidy.holds);
          some = tidy.some;
          within = let n = length-take (c.cap - 1) c.entries in omega (arith, n, tidy.some, tidy.within);
        }
        | Some f ↦ λ is. record {
          holds = (new-true f.0 (found-key f is), true-remove (same_key k) c.entries tidy.holds);
          some = tidy.some;
          within = subst (λ n. n ≤ c.cap) (sym (length-remove (same_key k) c.entries f is)) tidy.within;
        }
      ] refl

  none_kept : lookup_entry (same_key k) c.entries ≡ None → kept (shown c) e.key ≡ None
  none_kept is =
      ap (λ j. lookup (same_key j) c.entries) (sym at)
      ∙ sym (lookup-lookup_entry (same_key k) c.entries) ∙ ap (option_map (λ f. f.1)) is

  -- the entry stands in front of these, which were kept before
  module _ (first : KeyParts) (rest : Entries) (key : first ≡ e.key) where
    abbrev after : Cache
    after = lru_cache ((first, v) ∷ rest) c.cap

    in_front : kept (shown after) e.key ≡ Some e.known
    in_front = at_front same_key keys e.key (first, v) rest (sym key) ∙ ap Some as_known

    at_first : slice_get ((first, v) ∷ rest) 0 ≡ Some (e.key, e.known)
    at_first = λ i. Some (key i, as_known i)

    behind : (j : KeyParts) → j ≢ e.key → kept (shown after) j ≡ lookup (same_key j) rest
    behind j other = past same_key keys j (first, v) rest (λ same. other (same ∙ key))

    all_kept : ((j : KeyParts) → j ≢ e.key → lookup (same_key j) rest ≡ lookup (same_key j) c.entries) → HasPut (shown c) (shown after) e
    all_kept same = record {
      here = in_front;
      first = at_first;
      lost = None;
      others = λ j other. inl (behind j other ∙ same j other);
      full = λ none. let wrong : false ≡ true = none in absurd (cc);
      room = refl;
    }

  has-put : (o : Option (KeyParts × KnownParts)) → lookup_entry (same_key k) c.entries ≡ o → HasPut (shown c) (shown (lru_cache (then o) c.cap)) e
  has-put (Some f) is =
      all_kept f.0 (remove_entry (same_key k) c.entries) (found-key f is)
      (λ j other. without_other same_key keys k j (λ e. other (e ∙ at)) c.entries)
  has-put None is = elim (cases_eq (length c.entries) c.cap) [
    | inl all ↦
        let cut = lookup-front same_key keys (c.cap - 1) c.entries (omega (arith, all, tidy.some)) in
        record {
          here = in_front k (take (c.cap - 1) c.entries) at;
          first = at_first k (take (c.cap - 1) c.entries) at;
          lost = Some cut.0;
          others = λ j other. elim (cut.2 j) [
            | inl found ↦ inl (behind k (take (c.cap - 1) c.entries) at j other ∙ found)
            | inr gone ↦ inr (behind k (take (c.cap - 1) c.entries) at j other ∙ gone.0, ap Some gone.1)
          ];
          full = λ _. (none_kept is, all, sym cut.1 ∙ ap (λ n. option_map (λ f. f.0) (slice_get c.entries n)) (omega (arith, all)));
          room = refl;
        }
    | inr less ↦
        let whole : take (c.cap - 1) c.entries ≡ c.entries = take_all (c.cap - 1) c.entries (omega (arith, less, tidy.within)) in
        all_kept k (take (c.cap - 1) c.entries) at (λ j other. ap (lookup (same_key j)) whole)
  ]

  pub put-shown : HasPut (shown c) (shown new) e
  put-shown = has-put (lookup_entry (same_key k) c.entries) refl

-- What `put` answers

module _ {X Y : Type 0} (old new : Cache) (tidy : IsTidy old) (k : KeyParts) (v : KnownParts) (e : EntryParts) (at : k ≡ e.key) (as_known : v ≡ e.known) where
  pub keep-tidy : (r : Result X Y) → OnOk r (new ≡ lru_cache (put_entries same_key old k v) old.cap) → OnErr r (new ≡ old) → IsTidy new
  keep-tidy (Ok x) put err = subst IsTidy (sym put) (tidy-put old tidy k v e at as_known)
  keep-tidy (Err y) put err = subst IsTidy (sym err) tidy

  pub keep-put : (r : Result X Y) (t : TableParts) → shown old ≡ t → OnOk r (new ≡ lru_cache (put_entries same_key old k v) old.cap) → OnErr r (new ≡ old) → HasPut t (shown new) e ⊎ (shown new ≡ t)
  keep-put (Ok x) t is put err = inl (subst (λ s. HasPut s (shown new) e) is (subst (λ (n : Cache). HasPut (shown old) (shown n) e) (sym put) (put-shown old tidy k v e at as_known)))
  keep-put (Err y) t is put err = inr (ap shown err ∙ is)

  pub keep-replaced : (r : Result X Y) (t : TableParts) → shown old ≡ t → OnOk r (new ≡ lru_cache (put_entries same_key old k v) old.cap) → (IsSome (lookup (same_key k) old.entries) → IsOk r) → IsSome (kept t e.key) → HasPut t (shown new) e
  keep-replaced (Ok x) t is put some has = subst (λ s. HasPut s (shown new) e) is (subst (λ (n : Cache). HasPut (shown old) (shown n) e) (sym put) (put-shown old tidy k v e at as_known))
  keep-replaced (Err y) t is put some has = let wrong : false ≡ true = some (subst IsSome (ap (λ (s : TableParts). kept s e.key) (sym is) ∙ ap (λ j. lookup (same_key j) old.entries) (sym at)) has) in absurd (cc)

-- What a look-up answers is of the depth, and true of the key

of_depth-true : (k : KeyParts) (depth : ℕ) (o : Option KnownParts) → ((e : KnownParts) → o ≡ Some e → IsTrueOf k e.depth e.bound e.value) → IfSome (of_depth depth o) (λ e. (e.depth ≡ depth) × IsTrueOf k e.depth e.bound e.value)
of_depth-true k depth None so = tt
of_depth-true k depth (Some e) so =
    elim (nat_eq e.depth depth) as (λ t. nat_eq e.depth depth ≡ t → IfSome (cond t (Some e) None) (λ f. (f.depth ≡ depth) × IsTrueOf k f.depth f.bound f.value)) [
      | true ↦ λ is. (eqb-true e.depth depth is, so e refl)
      | false ↦ λ _. tt
    ] refl

pub look-true : (c : Cache) (t : TableParts) (k : KeyParts) (depth : ℕ) (r : Option KnownParts) → IsTidy c → shown c ≡ t → r ≡ of_depth depth (kept t k) → IfSome r (λ e. (e.depth ≡ depth) × IsTrueOf k e.depth e.bound e.value)
look-true c t k depth r tidy is found =
    subst (λ o. IfSome o (λ e. (e.depth ≡ depth) × IsTrueOf k e.depth e.bound e.value)) (sym found) (of_depth-true k depth (kept t k) (true-shown c t tidy is k))
