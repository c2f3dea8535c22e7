-- What a table keeps of a search.
use Rattle.std.specs.Prelude.{◌≡◌, ℤ, int_le, IsSome, ◌⊎◌, if◌then◌else◌}
use Rattle.hive_model.specs.Keys.{KeyParts}
use Rattle.search_laws.specs.declared.window.Window.{Window}
use Rattle.value_table.specs.declared.entry.Bound.{Bound}
use Rattle.value_table.specs.declared.entry.Bound.TheVariants.{Exact, AtLeast, AtMost}
use Rattle.value_table.specs.Entries.{EntryParts}
use Rattle.value_table.specs.Kept.{TableParts, HasPut, kept}
use Rattle.search_core.specs.declared.entries.Tried.{Tried}
use Rattle.search_core.specs.declared.workspace.Node.{Node}

-- how the value stands to an answer: at or below the lower end of the window the answer is an upper
-- bound, at or above the upper end a lower bound, and strictly inside exact
abbrev pub bound_in : Window → ℤ → Bound
bound_in w answer =
    if int_le answer w.alpha then AtMost else (if int_le w.beta answer then AtLeast else Exact)

-- The entry of an answer tells the depth of the search, how the value stands to the answer, the
-- answer, and the move to try first.
pub record IsEntryOf (key : KeyParts) (node : Node) (found : Tried) (entry : EntryParts)
    : Type 0 where
  pub named : entry.key ≡ key
  pub depth : entry.known.depth ≡ node.depth
  pub bound : entry.known.bound ≡ bound_in node.window found.value
  pub value : entry.known.value ≡ found.value
  pub hint : entry.known.hint ≡ found.first

-- The answer of a search is kept for its key. For a new key there may be no memory: then the table
-- stays as it is.
pub record KeepsFound (key : KeyParts) (node : Node) (found : Tried) (old new : TableParts)
    : Type 0 where
  pub entry : EntryParts
  pub of : IsEntryOf key node found entry
  pub put : HasPut old new entry ⊎ (new ≡ old)
  pub replaced : IsSome (kept old key) → HasPut old new entry
