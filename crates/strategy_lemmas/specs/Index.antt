-- How lemmas are found by their keys.
use Rattle.std.specs.Prelude.{◌≡◌, ℕ, zero, suc, ◌+◌, ◌≤◌, Bool, false, cond, List, length, slice_get, Option, Some, None}
use Rattle.hive_model.specs.Keys.{KeyParts}
use Rattle.hive_model.specs.SameKeys.{same_key}
use Rattle.indexmap.specs.IndexMap.{IndexMap, get, index_map_len, spare}
use Rattle.strategy_lemmas.specs.declared.lemmas.Lemma.{Lemma}

-- there is a lemma, and it has this key
abbrev pub has_key : KeyParts → Option Lemma → Bool
has_key k None = false
has_key k (Some l) = same_key l.key k

-- the last place below n whose lemma has this key
abbrev pub last_before : KeyParts → List Lemma → ℕ → Option ℕ
last_before k ls zero = None
last_before k ls (suc n) = cond (has_key k (slice_get ls n)) (Some n) (last_before k ls n)

-- The map has the place of the last lemma for each key. Beside each lemma is the place of the one
-- before it with its key. The map has no more keys than there are lemmas, and room for 65,536.
pub record IsIndexed {S : Type 0} (ls : List Lemma) (previous : List (Option ℕ))
    (last : IndexMap KeyParts ℕ S) : Type 0 where
  pub lasts : (k : KeyParts) → get same_key last k ≡ last_before k ls (length ls)
  pub beside : length previous ≡ length ls
  pub linked : (i : ℕ) (l : Lemma) → slice_get ls i ≡ Some l
      → slice_get previous i ≡ Some (last_before l.key ls i)
  pub keys : index_map_len last ≤ length ls
  pub room : 65536 ≤ index_map_len last + spare last
