-- What a command writes and reads, by the status with which it ends, if it reads its input before
-- it writes.
use Rattle.std.specs.Prelude.{◌≡◌, ◌⊎◌, ℕ, ◌<◌, List, length, take}
use Rattle.io_edge.specs.Outside.{Told, behind}
use Rattle.line_feed.specs.Feed.{input_limit}
use Rattle.command_runs.specs.OneGame.{bad_line}
use Rattle.command_runs.specs.Input.{Sides, WhereTold}
use Rattle.command_runs.specs.declared.no_game.NoGame.{NoGame}
use Rattle.command_runs.specs.declared.no_game.NoGame.TheVariants.{Bad, ReadFault as NoRead, InputFull as TooMuch, Memory as NoMemory}
use Rattle.command_runs.specs.declared.status.Status.{Status}
use Rattle.command_runs.specs.declared.status.Status.TheVariants.{Done, Refused, Usage, ReadFault, WriteFault, SpawnFault, BadInput, Memory, InputFull}

-- Writing

-- This text was written and the run ends with this status, or the first n bytes of it were written,
-- but not all.
abbrev pub WritesAs : List ℕ → Status → Status → Told → Told → Type 0
WritesAs text whole status before after =
    ((status ≡ whole) × (after ≡ behind before text))
    ⊎ ((status ≡ WriteFault) × ((n : ℕ) × (n < length text)
    × (after ≡ behind before (take n text))))

-- A text was written as an answer, or a prefix of it. Or memory ran out, and nothing was written.
abbrev pub WritesAnswer : List ℕ → Status → Told → Told → Type 0
WritesAnswer text status before after =
    ((status ≡ Memory) × (after ≡ before)) ⊎ WritesAs text Done status before after

-- If the input has no answer, the line was written that says why it is bad, or nothing.
abbrev pub TellsNone : NoGame → Status → Told → Told → Type 0
TellsNone (Bad line) status before after = WritesAs line BadInput status before after
TellsNone NoRead status before after = (status ≡ ReadFault) × (after ≡ before)
TellsNone TooMuch status before after = (status ≡ InputFull) × (after ≡ before)
TellsNone NoMemory status before after = (status ≡ Memory) × (after ≡ before)

-- Inputs that have no answer

-- What a command requires of its input. `bad` gives the reasons for which the input is bad.
-- `undecided` holds of bytes that, with the given ones left after them, do not yet determine what
-- is to be written. `begun` is what was read if memory runs out.
pub record Inquiry : Type 1 where
  pub bad : List ℕ → Told → List ℕ → Type 0
  pub undecided : List ℕ → Told → List ℕ → List ℕ → Type 0
  pub begun : List ℕ → Told → Type 0

-- Bytes of such a number were read, and they do not yet determine what is to be written.
abbrev pub ReadsWhile : Inquiry → (ℕ → Type 0) → List ℕ → Told → Type 0
ReadsWhile inquiry many input rest =
    (bytes : List ℕ) × (left : List ℕ) × many (length bytes)
    × inquiry.undecided input rest bytes left

-- why the input has no answer, and what was read to find that out
abbrev pub IsUnanswered : Inquiry → NoGame → List ℕ → Told → Type 0
IsUnanswered inquiry (Bad text) input rest =
    (why : List ℕ) × inquiry.bad input rest why × (text ≡ bad_line why)
IsUnanswered inquiry NoRead input rest = ReadsWhile inquiry (λ many. many < input_limit) input rest
IsUnanswered inquiry TooMuch input rest = ReadsWhile inquiry (λ many. many ≡ input_limit) input rest
IsUnanswered inquiry NoMemory input rest = inquiry.begun input rest

-- Runs

-- the texts that answer an input, when this is left unread
abbrev pub InputTexts : Type 1
InputTexts = List ℕ → Told → List ℕ → Type 0

-- The text to be written: the line that says why the input is bad, or an answer.
abbrev pub IsText : Inquiry → InputTexts → List ℕ → Told → List ℕ → Type 0
IsText inquiry texts input rest text =
    ((why : List ℕ) × inquiry.bad input rest why × (text ≡ bad_line why)) ⊎ texts input rest text

-- The input is bad, and the line that says why was written.
pub record WroteBad (inquiry : Inquiry) (input : List ℕ) (before after : Sides) (why : List ℕ)
    : Type 0 where
  pub bad : inquiry.bad input after.rest why
  pub wrote : after.written ≡ behind before.written (bad_line why)

-- This text, which answers the input, was written.
pub record WroteAnswer (texts : InputTexts) (input : List ℕ) (before after : Sides) (text : List ℕ)
    : Type 0 where
  pub answer : texts input after.rest text
  pub wrote : after.written ≡ behind before.written text

-- The first n bytes of the text to be written were written, but not all.
pub record WroteCut (inquiry : Inquiry) (texts : InputTexts) (input : List ℕ) (before after : Sides)
    (text : List ℕ) (n : ℕ) : Type 0 where
  pub is_text : IsText inquiry texts input after.rest text
  pub cut : n < length text
  pub wrote : after.written ≡ behind before.written (take n text)

-- What was written and read if a command that answers its input ends with this status. It never
-- ends with one of the last three. If a read failed, the limit was reached or memory ran out,
-- nothing was written.
abbrev pub AnsweredRun : Inquiry → InputTexts → Status → Sides → Sides → Type 0
AnsweredRun inquiry texts Done before after =
    WhereTold before.rest (λ input. (text : List ℕ) × WroteAnswer texts input before after text)
AnsweredRun inquiry texts BadInput before after =
    WhereTold before.rest (λ input. (why : List ℕ) × WroteBad inquiry input before after why)
AnsweredRun inquiry texts ReadFault before after =
    (after.written ≡ before.written)
    × WhereTold before.rest (λ input. IsUnanswered inquiry NoRead input after.rest)
AnsweredRun inquiry texts InputFull before after =
    (after.written ≡ before.written)
    × WhereTold before.rest (λ input. IsUnanswered inquiry TooMuch input after.rest)
AnsweredRun inquiry texts WriteFault before after =
    WhereTold before.rest (λ input. (text : List ℕ) × (n : ℕ)
    × WroteCut inquiry texts input before after text n)
AnsweredRun inquiry texts Memory before after =
    (after.written ≡ before.written)
    × WhereTold before.rest (λ input. IsUnanswered inquiry NoMemory input after.rest)
AnsweredRun inquiry texts Refused before after = ⊥
AnsweredRun inquiry texts Usage before after = ⊥
AnsweredRun inquiry texts SpawnFault before after = ⊥
