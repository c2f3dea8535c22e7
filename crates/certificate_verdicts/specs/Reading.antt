-- What the parts of a check answer.
use Rattle.std.specs.Prelude.{◌≡◌, ℕ, ⊤, ◌⊎◌, List, Result, Ok, Err}
use Rattle.io_edge.specs.Outside.{Told}
use Rattle.certificate_text.specs.declared.head.HeadFault.{HeadFault}
use Rattle.certificate_text.specs.declared.head.HeadFault.TheVariants.{BadLine as LineFault, BadGame as NoGame, ReadFault as NoRead, InputFull as IsFull, Memory as NoMemory}
use Rattle.command_runs.specs.Answered.{WritesAs}
use Rattle.command_runs.specs.declared.status.Status.{Status}
use Rattle.command_runs.specs.declared.status.Status.TheVariants.{Memory, ReadFault as ReadFailed, InputFull as InputIsFull}
use Rattle.certificate_verdicts.specs.declared.verdict.TextVerdict.{TextVerdict}
use Rattle.certificate_verdicts.specs.declared.verdict.TextVerdict.TheVariants.{BadLine, BadGame}
use Rattle.certificate_verdicts.specs.declared.verdict.Unread.{Unread}
use Rattle.certificate_verdicts.specs.declared.verdict.Unread.TheVariants.{ReadFault, InputFull, Memory as WantsMemory}
use Rattle.certificate_verdicts.specs.Verdicts.{verdict_line, status_of}
use Rattle.certificate_verdicts.specs.Runs.{TookLess, TookLimit, WasReadToJudge}

-- the verdict if there is no head, unless the text could not be read
abbrev pub of_fault : HeadFault → Result TextVerdict Unread
of_fault (LineFault n) = Ok (BadLine n)
of_fault (NoGame fault) = Ok (BadGame fault)
of_fault NoRead = Err ReadFault
of_fault IsFull = Err InputFull
of_fault NoMemory = Err WantsMemory

-- the answer is this verdict, unless the text could not be read
abbrev pub Judges : Result TextVerdict Unread → TextVerdict → Type 0
Judges (Ok v) verdict = verdict ≡ v
Judges (Err ReadFault) verdict = ⊤
Judges (Err InputFull) verdict = ⊤
Judges (Err WantsMemory) verdict = ⊤

-- the line of a verdict was written, or an initial part of it; or memory ran out and nothing was
-- written
abbrev pub TellsVerdict : TextVerdict → Status → Told → Told → Type 0
TellsVerdict v status before after =
    ((status ≡ Memory) × (after ≡ before))
    ⊎ WritesAs (verdict_line v) (status_of v) status before after

-- the same for an answer; if the text could not be read, nothing was written
abbrev pub TellsJudged : Result TextVerdict Unread → Status → Told → Told → Type 0
TellsJudged (Ok v) status before after = TellsVerdict v status before after
TellsJudged (Err ReadFault) status before after = (status ≡ ReadFailed) × (after ≡ before)
TellsJudged (Err InputFull) status before after = (status ≡ InputIsFull) × (after ≡ before)
TellsJudged (Err WantsMemory) status before after = (status ≡ Memory) × (after ≡ before)

-- What was read of an input, by the answer, if a head has this number of lines: what the verdict
-- needed; or a read failed below the limit; or the limit is reached.
abbrev pub WasReadAs : ℕ → Result TextVerdict Unread → List ℕ → Told → Type 0
WasReadAs head (Ok v) input rest = WasReadToJudge head v input rest
WasReadAs head (Err ReadFault) input rest = TookLess input rest
WasReadAs head (Err InputFull) input rest = TookLimit input rest
WasReadAs head (Err WantsMemory) input rest = ⊤
