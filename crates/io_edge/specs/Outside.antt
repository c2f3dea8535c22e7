-- What calls on sources, sinks and links do to the bytes and counts that contracts name.
use Rattle.std.specs.Prelude.{◌≡◌, ◌⊎◌, ℕ, ◌+◌, ◌-◌, ◌^◌, ◌<◌, ◌≤◌, min, List, [], ◌∷◌, ◌++◌, length, take, ⊤, None, Some}
use Rattle.std.specs.Option.{option_map}
use Rattle.std.specs.declared.option.Option.{Option}
use Rattle.io_edge.specs.declared.io_answers.ReadAnswer.{ReadAnswer}
use Rattle.io_edge.specs.declared.io_answers.ReadAnswer.TheVariants.{Got, End, Failed as ReadFailed}
use Rattle.io_edge.specs.declared.io_answers.WriteAnswer.{WriteAnswer}
use Rattle.io_edge.specs.declared.io_answers.WriteAnswer.TheVariants.{Took, Failed as WriteFailed}

-- bytes where they are told, and none where they are not
abbrev pub Told : Type 0
Told = Option (List ℕ)

-- the other side of a link: its bytes, and its count of faults
pub record Aside : Type 0 where
  pub bytes : Told
  pub faults : ℕ

-- the count rose in a call, or stands at its greatest value, that of a u64; it is below 2 ^ 64
pub record Rose (before now : ℕ) : Type 0 where
  pub higher : (before < now) ⊎ (now ≡ 2 ^ 64 - 1)
  pub below : now < 2 ^ 64

-- the told bytes, with these in front
abbrev pub in_front : List ℕ → Told → Told
in_front bytes told = option_map (λ rest. bytes ++ rest) told

-- the told bytes, with these behind
abbrev pub behind : Told → List ℕ → Told
behind told bytes = option_map (λ written. written ++ bytes) told

-- no told byte is left
abbrev pub IsAtEnd : Told → Type 0
IsAtEnd None = ⊤
IsAtEnd (Some bytes) = bytes ≡ []

-- what a read gave, and what it took away; bytes are told after it exactly where they were told
-- before
abbrev pub Reads : ReadAnswer → List ℕ → Told → Told → Type 0
Reads (Got n) buffer old new = (0 < n) × (n ≤ length buffer) × (old ≡ in_front (take n buffer) new)
Reads End buffer old new = (new ≡ old) × IsAtEnd old
Reads ReadFailed buffer old new = new ≡ old

-- what a write took and appended
abbrev pub Writes : WriteAnswer → List ℕ → Told → Told → Type 0
Writes (Took n) bytes old new = (0 < n) × (n ≤ length bytes) × (new ≡ behind old (take n bytes))
Writes WriteFailed bytes old new = new ≡ old

-- a failure has its cause in the count of faults, which never falls: it rose where the call failed,
-- and stands where it did not
pub record HasCause (failed : Type 0) (before now : ℕ) : Type 0 where
  pub later : before ≤ now
  pub rose : failed → Rose before now
  pub same : ¬ failed → now ≡ before

-- what is no link has no other side: it tells no bytes, and counts no faults
abbrev pub no_side : Aside
no_side = record { bytes = None; faults = 0 }

-- lists of the bytes of several engines, where they are told
abbrev pub ToldLists : Type 0
ToldLists = Option (List (List ℕ))

-- the programs that were started, in the order of the starts, each by its words, and each word by
-- its bytes; where they are told
abbrev pub ToldPrograms : Type 0
ToldPrograms = Option (List (List (List ℕ)))

-- the told programs, with one of these words last
abbrev pub with_last : ToldPrograms → List (List ℕ) → ToldPrograms
with_last told words = option_map (λ programs. programs ++ words ∷ []) told

-- a start takes the next of the bytes to come, and its link tells them and has written nothing
abbrev pub Starts : ToldLists → ToldLists → Told → Told → Type 0
Starts None later rest written = later ≡ None
Starts (Some coming) None rest written = ⊥
Starts (Some coming) (Some later) rest written =
    (bytes : List ℕ) × (coming ≡ bytes ∷ later) × (rest ≡ Some bytes) × (written ≡ Some [])

-- a close appends what its link has written, where that is told after it
abbrev pub Collects : ToldLists → ToldLists → Told → Type 0
Collects before None written = ⊤
Collects None (Some all) written = ⊥
Collects (Some lists) (Some all) written =
    (bytes : List ℕ) × (written ≡ Some bytes) × (all ≡ lists ++ bytes ∷ [])

-- a count one greater: a count is a u64, and stands still at its greatest value
abbrev pub one_more : ℕ → ℕ
one_more count = min (count + 1) (2 ^ 64 - 1)

-- a close counts an engine that has failed, and no other
pub record CountsFailed (faults before now : ℕ) : Type 0 where
  pub failed : 0 < faults → now ≡ one_more before
  pub sound : faults ≡ 0 → now ≡ before
