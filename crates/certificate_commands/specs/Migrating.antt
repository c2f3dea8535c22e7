-- What is written if a certificate is made into one that cites.
use Rattle.std.specs.Prelude.{◌≡◌, ◌⊎◌, ℕ, ◌<◌, false, ⊤, List, map, drop, ◌++◌, length, take, ℤ, Option, Some, Result, Ok, Err}
use Rattle.io_edge.specs.Outside.{Aside, HasCause, Told, behind}
use Rattle.hive_model.specs.declared.places.Move.{Move}
use Rattle.hive_model.specs.Positions.{Position}
use Rattle.hive_model.specs.Legal.{is_over}
use Rattle.io_edge.specs.Lines.{Line, lines}
use Rattle.line_feed.specs.Ahead.{ahead_of}
use Rattle.line_feed.specs.Feed.{Reading}
use Rattle.strategy_check.specs.Trace.{Holds}
use Rattle.strategy_lemmas.specs.Short.{short}
use Rattle.certificate_text.specs.declared.head.Head.{Head}
use Rattle.certificate_text.specs.Taken.{HasRead}
use Rattle.certificate_text.specs.Text.{head_of, head_text, index_in}
use Rattle.certificate_citing.specs.TokenText.{token_lines}
use Rattle.certificate_citing.specs.Migrating.{Shortens}
use Rattle.command_runs.specs.Input.{IsAllRead, Sides, WhereTold}
use Rattle.command_runs.specs.declared.status.Status.{Status}
use Rattle.command_runs.specs.declared.status.Status.TheVariants.{Done, Refused, Usage, ReadFault, WriteFault, SpawnFault, BadInput, Memory, InputFull}
use Rattle.certificate_verdicts.specs.declared.verdict.TextVerdict.{TextVerdict}
use Rattle.certificate_verdicts.specs.declared.verdict.TextVerdict.TheVariants.{Accepted, Refused as VerdictRefused, BadCite, BadLine, BadGame, GameOver}
use Rattle.certificate_verdicts.specs.declared.verdict.Unread.{Unread}
use Rattle.certificate_verdicts.specs.declared.verdict.Unread.TheVariants.{ReadFault as UnreadFault}
use Rattle.certificate_verdicts.specs.Judging.{text_verdict}
use Rattle.certificate_verdicts.specs.Reading.{WasReadAs}
use Rattle.certificate_verdicts.specs.Runs.{CutVerdict, IsUndecided, Judgement, VerdictRun}
use Rattle.certificate_commands.specs.declared.migrating.Taken.{Taken}
use Rattle.certificate_commands.specs.declared.migrating.Taken.TheVariants.{Written, Cut, Judged, Missed}
use Rattle.certificate_commands.specs.Verdicts.{claimed_move, end_of, of_claim}

-- the verdict on the lines of a text of the first version
abbrev pub first_verdict : List Line → TextVerdict
first_verdict = text_verdict 5 (head_of 1) of_claim

-- What is written for a head and the lines after it. The game must not be over, and the lines must
-- be indices that hold for the claim. The text is the head of the second version, with the game and
-- the move in their written forms. Then come the tokens, which cite wherever something shown before
-- serves.
pub record MigratesHead (head : Head) (rest : List Line) (text : List ℕ) : Type 0 where
  pub best : Move
  pub indices : List ℕ
  pub open_ : is_over (end_of head) ≡ false
  pub denotes : claimed_move head ≡ Ok best
  pub are_indices : map index_in rest ≡ map (λ i. Some i) indices
  pub hold : Holds (end_of head) head.depth best head.value indices
  pub text_is :
      text ≡ head_text 2 head.game_type head.moves head.depth best head.value
      ++ token_lines (short (end_of head) head.depth best head.value indices)

-- The same for the lines of a text.
pub record MigratesTo (ls : List Line) (text : List ℕ) : Type 0 where
  pub head : Head
  pub has_head : head_of 1 ls ≡ Ok head
  pub migrates : MigratesHead head (drop 5 ls) text

-- What was written, and how it ended. Such a text was written, or, if a write failed, its first n
-- bytes and not all. Otherwise nothing was written: this is the verdict, or the input could not be
-- read.
abbrev pub Writes : TextVerdict → (List ℕ → Type 0) → Taken → Told → Told → Type 0
Writes verdict Is Written before after =
    (text : List ℕ) × Is text × (after ≡ behind before text)
Writes verdict Is Cut before after =
    (text : List ℕ) × Is text
    × (n : ℕ) × (n < length text) × (after ≡ behind before (take n text))
Writes verdict Is (Judged v) before after = verdict ≡ v
Writes verdict Is (Missed unread) before after = ⊤

-- If the result is neither written nor cut off, nothing was written. What was judged was not
-- accepted.
abbrev pub WritesLate : Taken → Told → Told → Type 0
WritesLate Written before after = ⊤
WritesLate Cut before after = ⊤
WritesLate (Judged Accepted) before after = ⊥
WritesLate (Judged (VerdictRefused place why)) before after = after ≡ before
WritesLate (Judged (BadCite place)) before after = after ≡ before
WritesLate (Judged (BadLine n)) before after = after ≡ before
WritesLate (Judged (BadGame fault)) before after = after ≡ before
WritesLate (Judged GameOver) before after = after ≡ before
WritesLate (Missed unread) before after = after ≡ before

-- the result for a text with this judgement before anything is written
abbrev pub taken_as : Result TextVerdict Unread → Taken
taken_as (Ok v) = Judged v
taken_as (Err unread) = Missed unread

-- The text is that of a head and of the tokens of these items.
abbrev pub OfItems : Position → ℕ → Move → ℤ → List (Option ℕ) → List ℕ → List ℕ → Type 0
OfItems p d m v items head text =
    (rest : List ℕ) × Shortens p d m v items rest × (text ≡ head ++ rest)

-- what was judged of a text: if it was written, it was accepted
abbrev pub judged_of : Taken → Result TextVerdict Unread
judged_of Written = Ok Accepted
judged_of Cut = Ok Accepted
judged_of (Judged v) = Ok v
judged_of (Missed unread) = Err unread

-- The result for the lines to come, if at most this number of lines was read. If the lines are
-- known, it says what was written, by the verdict on them and the texts that they make. In all
-- other cases nothing was written. It says why the input could not be read or the text not be
-- written, and what was then read of the input. If a read failed, the lines that were read do not
-- decide.
pub record MigratesAhead (worth : Judgement) (texts : List Line → List ℕ → Type 0) (most : ℕ)
    (taken : Taken) (reader : Reading) (source sink source' sink' : Aside) : Type 0 where
  pub told : (left : List Line) → ahead_of reader source.bytes ≡ Some left
      → Writes (worth left) (texts left) taken sink.bytes sink'.bytes
  pub late : WritesLate taken sink.bytes sink'.bytes
  pub reads : HasCause (taken ≡ Missed UnreadFault) source.faults source'.faults
  pub writes : HasCause (taken ≡ Cut) sink.faults sink'.faults
  pub read : (text : List ℕ) → HasRead text source.bytes reader most
      → WasReadAs 5 (judged_of taken) text source'.bytes
  pub unread : (left : List Line) → ahead_of reader source.bytes ≡ Some left → (text : List ℕ)
      → HasRead text source.bytes reader most → taken ≡ Missed UnreadFault
      → IsUndecided 5 (worth left) text source'.bytes

-- The text that the lines of the input make was written, and the input was read to its end.
pub record WroteMigration (input : List ℕ) (before after : Sides) : Type 0 where
  pub text : List ℕ
  pub is_text : MigratesTo (lines input) text
  pub wrote : after.written ≡ behind before.written text
  pub was_read : IsAllRead input after.rest

-- The first n bytes of this text were written, and not all.
pub record CutMigration (input : List ℕ) (before after : Sides) : Type 0 where
  pub text : List ℕ
  pub is_text : MigratesTo (lines input) text
  pub n : ℕ
  pub cut : n < length text
  pub wrote : after.written ≡ behind before.written (take n text)
  pub was_read : IsAllRead input after.rest

-- What was written and read if `migrate` ends with this status. It is the text that the lines of
-- the input make, or what a check of the first version writes for them. If a read failed, the limit
-- is reached or memory ran out, nothing was written. A read failed only before the lines that
-- decide were read.
abbrev pub MigrateRun : Status → Sides → Sides → Type 0
MigrateRun Done before after = WhereTold before.rest (λ input. WroteMigration input before after)
MigrateRun WriteFault before after =
    WhereTold before.rest (λ input. CutMigration input before after
    ⊎ ((n : ℕ) × CutVerdict 5 (first_verdict (lines input)) input before after n))
MigrateRun Refused before after = VerdictRun 5 first_verdict Refused before after
MigrateRun BadInput before after = VerdictRun 5 first_verdict BadInput before after
MigrateRun ReadFault before after = VerdictRun 5 first_verdict ReadFault before after
MigrateRun InputFull before after = VerdictRun 5 first_verdict InputFull before after
MigrateRun Memory before after = VerdictRun 5 first_verdict Memory before after
MigrateRun Usage before after = ⊥
MigrateRun SpawnFault before after = ⊥
