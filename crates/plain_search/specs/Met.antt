-- The numbers of legal moves in positions that were met.
use Rattle.std.specs.Prelude.{◌≡◌, ℕ, ◌<◌, List, Option, Some, length, slice_get, slice_set}
use Rattle.hive_model.specs.Keys.{KeyParts, key}
use Rattle.hive_model.specs.Legal.{moves}
use Rattle.hive_model.specs.Positions.{Position, IsSound}
use Rattle.plain_search.specs.declared.move_counts.Met.{Met}

-- Each sound position with the key has this number of legal moves.
abbrev pub HasMoves : KeyParts → ℕ → Type 0
HasMoves k n = (p : Position) → IsSound p → key p ≡ k → length (moves p) ≡ n

-- A key by which the legal moves of a position are counted: that of a sound position with the same
-- legal moves.
pub record IsCountKey (p : Position) (k : KeyParts) : Type 0 where
  pub like : Position
  pub sound : IsSound like
  pub of_key : key like ≡ k
  pub same_moves : moves like ≡ moves p

-- The row stores this number of moves for this key, and nothing for any other key.
abbrev pub KeepsAt : List (Option Met) → ℕ → KeyParts → ℕ → Type 0
KeepsAt places i k n = slice_get places i ≡ Some (Some (record { key = k; moves = n }))

-- What each row stores for a key is true.
abbrev pub AreMet : List (Option Met) → Type 0
AreMet places = (i n : ℕ) (k : KeyParts) → KeepsAt places i k n → HasMoves k n

-- What is stored in a row, in place of what was there, is found there.
abbrev pub WhatIsKeptIsFound : Type 0
WhatIsKeptIsFound =
    (places : List (Option Met)) (i n : ℕ) (k : KeyParts) → i < length places
    → KeepsAt (slice_set places i (Some (record { key = k; moves = n }))) i k n
