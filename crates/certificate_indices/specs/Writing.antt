-- What a writer of indices requires and writes, and which move of a list comes first.
use Rattle.std.specs.Prelude.{◌≡◌, ◌<◌, ◌≤◌, ℕ, Bool, true, false, List, length, take, Option}
use Rattle.std.specs.List.{flat_map, position_from}
use Rattle.io_edge.specs.Outside.{Told, behind}
use Rattle.hive_model.specs.declared.places.Move.{Move}
use Rattle.hive_model.specs.Positions.{Position}
use Rattle.hive_model.specs.Games.{after}
use Rattle.hive_model.specs.Minimax.{value}
use Rattle.search_laws.specs.Laws.{IsSmall}
use Rattle.certificate_walks.specs.declared.limit.Limit.{Limit}
use Rattle.certificate_walks.specs.Limits.{is_kept, number}
use Rattle.strategy_check.specs.Least.{least}
use Rattle.certificate_text.specs.Text.{index_line}

-- a judge prepared for this number of plies can tell whether the limit is kept with `depth` plies
-- left
pub record CanTell (depth : ℕ) (limit : Limit) (prepared : ℕ) : Type 0 where
  pub ready : depth ≤ prepared
  pub small : IsSmall 1000090 (number limit)

-- the indices, one a line
abbrev pub index_lines : List ℕ → List ℕ
index_lines indices = flat_map index_line indices

-- these bytes were written; or, if a write failed, their first n and not all
abbrev pub Wrote : Bool → List ℕ → Told → Told → Type 0
Wrote true bytes old new = new ≡ behind old bytes
Wrote false bytes old new = (n : ℕ) × (n < length bytes) × (new ≡ behind old (take n bytes))

-- the lines of the least indices that show a limit after each of the moves
abbrev pub lines_below : Position → ℕ → Limit → List Move → List ℕ
lines_below p e limit ms = index_lines (flat_map (λ m. least (after p m) e limit) ms)

-- whether the limit is kept after a move
abbrev pub keeps_below : Position → ℕ → Limit → Move → Bool
keeps_below p e limit m = is_kept limit (value (after p m) e)

-- the place of the first of the moves after which the limit is kept
abbrev pub first_kept : Position → ℕ → Limit → List Move → Option ℕ
first_kept p e limit ms = position_from (keeps_below p e limit) 0 ms
