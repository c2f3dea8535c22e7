-- What a run records of the timed searches that it answered.
use Rattle.std.specs.Prelude.{◌≡◌, ℕ, ◌+◌, ◌≤◌, List, [], ◌∷◌, ◌++◌, map}
use Rattle.hive_model.specs.declared.best.Timed.{Timed}
use Rattle.hive_model.specs.Minimax.{reads}
use Rattle.command_runs.specs.World.{Times}
use Rattle.uhp_session.specs.Searches.{IsToldOf, Search}

-- the depths that the searches of these entries completed
abbrev pub depths : List Timed → List ℕ
depths entries = map (λ entry. entry.depth) entries

-- These entries describe these searches, one for each, in order. The searches were answered one
-- after another: each began when the one before had stopped. All lie between these two readings of
-- the clock.
abbrev pub AreTold : List Search → ℕ → List Timed → ℕ → Type 0
AreTold [] from [] to = from ≤ to
AreTold [] from (entry ∷ entries) to = ⊥
AreTold (asked ∷ others) from [] to = ⊥
AreTold (asked ∷ others) from (entry ∷ entries) to =
    IsToldOf asked entry × (from ≤ entry.started) × AreTold others entry.stopped entries to

-- how often the clock may be read in these searches
abbrev pub reads_of : List Search → List Timed → ℕ
reads_of [] entries = 0
reads_of (asked ∷ others) [] = 0
reads_of (asked ∷ others) (entry ∷ entries) =
    reads asked.position entry.depth + reads_of others entries

-- If this holds, the clock was left as it was, and no entry was appended.
pub record IsStill {C : Type 0} (holds : Type 0) (was is : C)
    (before after : List Timed) : Type 0 where
  pub clock : holds → is ≡ was
  pub timed : holds → after ≡ before

-- These searches were answered, and nothing else that takes time was done.
pub record TellsOf (searches : List Search) (entries : List Timed)
    (before after : Times) : Type 0 where
  pub appended : after.timed ≡ before.timed ++ entries
  pub told : AreTold searches before.last entries after.last
  pub few : after.readings ≤ before.readings + reads_of searches entries
