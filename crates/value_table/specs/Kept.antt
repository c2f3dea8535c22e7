-- What a table keeps.
use Rattle.std.specs.Prelude.{◌≡◌, ◌≢◌, ℕ, nat_eq, List, length, Option, Some, None, IsSome, ◌⊎◌, if◌then◌else◌}
use Rattle.std.specs.Option.{option_map}
use Rattle.std.specs.Map.{lookup}
use Rattle.std.specs.List.{slice_get}
use Rattle.lru.specs.LruCache.{last_entry, promoted}
use Rattle.hive_model.specs.Keys.{KeyParts}
use Rattle.hive_model.specs.SameKeys.{same_key}
use Rattle.value_table.specs.Truth.{IsTrueOf}
use Rattle.value_table.specs.Entries.{KnownParts, EntryParts}

-- what a table keeps for each key, the one that was used last first, and for how many keys at most
pub record TableParts : Type 0 where
  pub entries : List (KeyParts × KnownParts)
  pub room : ℕ

-- what the table keeps for a key
abbrev pub kept : TableParts → KeyParts → Option KnownParts
kept t k = lookup (same_key k) t.entries

-- what is known, where it is of this depth
abbrev pub of_depth : ℕ → Option KnownParts → Option KnownParts
of_depth depth None = None
of_depth depth (Some e) = if nat_eq e.depth depth then Some e else None

-- what the table keeps for a key is true of every sound position with it
abbrev pub IsTrueTable : TableParts → Type 0
IsTrueTable t =
    (k : KeyParts) (e : KnownParts) → kept t k ≡ Some e → IsTrueOf k e.depth e.bound e.value

-- the two tables keep the same for each key
abbrev pub KeepSame : TableParts → TableParts → Type 0
KeepSame old new = (k : KeyParts) → kept new k ≡ kept old k

-- what is kept for the key is the one that was used last; the others follow in their order
abbrev pub used : KeyParts → TableParts → TableParts
used k t = record { entries = promoted (same_key k) t.entries; room = t.room }

-- What is known is kept for its key, in place of what was known before, and is the one that was
-- used last. Of the other keys at most one lost its entry: the one that was used longest ago, and
-- this only where the key is new and the table was full.
pub record HasPut (old new : TableParts) (e : EntryParts) : Type 0 where
  pub here : kept new e.key ≡ Some e.known
  pub first : slice_get new.entries 0 ≡ Some (e.key, e.known)
  pub lost : Option KeyParts
  pub others : (k : KeyParts) → k ≢ e.key
      → (kept new k ≡ kept old k) ⊎ ((kept new k ≡ None) × (lost ≡ Some k))
  pub full : IsSome lost → (kept old e.key ≡ None) × (length old.entries ≡ old.room)
      × (lost ≡ option_map (λ f. f.0) (last_entry old.entries))
  pub room : new.room ≡ old.room
