-- What a check judges of a text: its head, and the lines after it.
use Rattle.std.specs.Prelude.{◌≡◌, ℕ, List, drop, Result, Ok, Err, Some}
use Rattle.io_edge.specs.Outside.{Aside, HasCause}
use Rattle.io_edge.specs.Lines.{Line, lines}
use Rattle.line_feed.specs.Ahead.{ahead_of}
use Rattle.line_feed.specs.Feed.{Reading}
use Rattle.certificate_text.specs.declared.head.HeadFault.{HeadFault}
use Rattle.certificate_text.specs.declared.head.HeadFault.TheVariants.{BadLine as LineFault, BadGame as NoGame, ReadFault as NoRead, InputFull as IsFull, Memory as NoMemory}
use Rattle.certificate_text.specs.Heads.{BreaksOff, Reads, TakesLines}
use Rattle.certificate_text.specs.Taken.{HasRead}
use Rattle.command_runs.specs.Input.{WhereTold}
use Rattle.certificate_verdicts.specs.declared.verdict.TextVerdict.{TextVerdict}
use Rattle.certificate_verdicts.specs.declared.verdict.TextVerdict.TheVariants.{BadLine, BadGame}
use Rattle.certificate_verdicts.specs.declared.verdict.Unread.{Unread}
use Rattle.certificate_verdicts.specs.declared.verdict.Unread.TheVariants.{ReadFault}
use Rattle.certificate_verdicts.specs.Reading.{Judges, WasReadAs}
use Rattle.certificate_verdicts.specs.Runs.{IsUndecided, Judgement}

-- The verdict on a head and the lines after it, or on the fault of a head. The last three faults
-- are not faults of lines.
abbrev pub of_head : {H : Type 0} → (H → Judgement) → Result H HeadFault → Judgement
of_head worth (Ok head) rest = worth head rest
of_head worth (Err (LineFault n)) rest = BadLine n
of_head worth (Err (NoGame fault)) rest = BadGame fault
of_head worth (Err NoRead) rest = BadLine 0
of_head worth (Err IsFull) rest = BadLine 0
of_head worth (Err NoMemory) rest = BadLine 0

-- the verdict on the lines of a text whose head has n lines
unfoldable pub text_verdict : {H : Type 0} → ℕ → (List Line → Result H HeadFault) → (H → Judgement)
    → Judgement
text_verdict n head_of worth ls = of_head worth (head_of ls) (drop n ls)

-- What the reading of a head of n lines answers, and what it leaves behind. If the lines to come
-- are observable, it answers their head or first fault. If a read failed, the lines that were read
-- have no fault.
pub record TakesHead {H : Type 0} (n : ℕ) (head_of : List Line → Result H HeadFault)
    (result : Result H HeadFault) (reader reader' : Reading) (source source' : Aside) : Type 0 where
  pub told : (ls : List Line) → ahead_of reader source.bytes ≡ Some ls
      → Reads n result (head_of ls) ls (ahead_of reader' source'.bytes)
  pub taken : TakesLines n n result reader reader' source.bytes source'.bytes source.faults
      source'.faults
  pub unread : (ls : List Line) → ahead_of reader source.bytes ≡ Some ls → (text : List ℕ)
      → HasRead text source.bytes reader 0 → result ≡ Err NoRead
      → BreaksOff n (head_of ls) text source'.bytes reader'

-- What is judged of the lines to come, if a head has this number of lines and at most `most` lines
-- were read. If the lines are observable, the answer is their verdict, unless the input could not
-- be read. The record also says why it could not be read and how far it was read. If a read failed,
-- the lines that were read do not decide the verdict.
pub record JudgesAhead
    (head : ℕ) (worth : Judgement) (most : ℕ) (result : Result TextVerdict Unread)
    (reader : Reading) (source source' : Aside) : Type 0 where
  pub judged : (left : List Line) → ahead_of reader source.bytes ≡ Some left
      → Judges result (worth left)
  pub cause : HasCause (result ≡ Err ReadFault) source.faults source'.faults
  pub read : (text : List ℕ) → HasRead text source.bytes reader most
      → WasReadAs head result text source'.bytes
  pub unread : (left : List Line) → ahead_of reader source.bytes ≡ Some left → (text : List ℕ)
      → HasRead text source.bytes reader most → result ≡ Err ReadFault
      → IsUndecided head (worth left) text source'.bytes

-- The same for a whole input.
pub record JudgesInput (head : ℕ) (worth : Judgement) (result : Result TextVerdict Unread)
    (source source' : Aside) : Type 0 where
  pub judged : WhereTold source.bytes (λ text. Judges result (worth (lines text)))
  pub cause : HasCause (result ≡ Err ReadFault) source.faults source'.faults
  pub read : WhereTold source.bytes (λ text. WasReadAs head result text source'.bytes)
  pub unread : WhereTold source.bytes (λ text. result ≡ Err ReadFault
      → IsUndecided head (worth (lines text)) text source'.bytes)
