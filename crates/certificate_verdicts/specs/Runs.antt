-- What a command that checks a text writes and reads, by the status with which it ends.
use Rattle.std.proofs.Common.{arith}
use Rattle.std.specs.Prelude.{◌≡◌, ℕ, ◌+◌, ◌<◌, ◌≤◌, ◌^◌, ⊤, List, length, take}
use Rattle.io_edge.specs.Outside.{Told, behind}
use Rattle.io_edge.specs.Lines.{Line, lines}
use Rattle.line_feed.specs.Feed.{input_limit}
use Rattle.line_feed.specs.SoFar.{WasRead}
use Rattle.certificate_walks.specs.Walks.{WalkEnd, Left, Fault, Halt}
use Rattle.certificate_walks.specs.Follows.{held}
use Rattle.strategy_check.specs.Checks.{looked_for}
use Rattle.strategy_check.specs.declared.why.Why.{Why}
use Rattle.strategy_check.specs.declared.why.Why.TheVariants.{NoSuchMove, BadIndex, LeafFails, TooShort, Rest}
use Rattle.command_runs.specs.Input.{IsAllRead, Sides, WereRead, WhereTold}
use Rattle.command_runs.specs.declared.status.Status.{Status}
use Rattle.command_runs.specs.declared.status.Status.TheVariants.{Done, Refused as IsRefused, Usage, ReadFault, WriteFault, SpawnFault, BadInput, Memory, InputFull}
use Rattle.certificate_verdicts.specs.declared.verdict.TextVerdict.{TextVerdict}
use Rattle.certificate_verdicts.specs.declared.verdict.TextVerdict.TheVariants.{Accepted, Refused, BadCite, BadLine, BadGame, GameOver}
use Rattle.certificate_verdicts.specs.Verdicts.{verdict_line, status_of, walk_verdict}

-- the verdict on the lines of a text
abbrev pub Judgement : Type 0
Judgement = List Line → TextVerdict

-- Reading

-- at most this number of first lines of the input were read, and at most a piece beyond them,
-- within the limit
abbrev pub AtMostWereRead : ℕ → List ℕ → Told → Type 0
AtMostWereRead most input rest =
    (read : List Line) × WereRead input rest read × (length read ≤ most)

-- What was read if this is the first fault and `most` lines of the head and of items came before
-- it. It is these lines, and the one that is left over. If an index is missing, it is the whole
-- input.
abbrev pub WasReadToRefuse : ℕ → Why → List ℕ → Told → Type 0
WasReadToRefuse most NoSuchMove input rest = AtMostWereRead most input rest
WasReadToRefuse most BadIndex input rest = AtMostWereRead most input rest
WasReadToRefuse most LeafFails input rest = AtMostWereRead most input rest
WasReadToRefuse most TooShort input rest = IsAllRead input rest
WasReadToRefuse most Rest input rest = AtMostWereRead (most + 1) input rest

-- What was read if this is the verdict and a head has this number of lines. An accepted input was
-- read to its end, since nothing may be left over. Otherwise no line was read after the one that
-- decides. That is the last one taken before a fault, the bad line, or the line of the game. If its
-- game is over, it is the last line of the head.
abbrev pub WasReadToJudge : ℕ → TextVerdict → List ℕ → Told → Type 0
WasReadToJudge head Accepted input rest = IsAllRead input rest
WasReadToJudge head (Refused place why) input rest = WasReadToRefuse (head + place) why input rest
WasReadToJudge head (BadCite place) input rest = AtMostWereRead (head + place) input rest
WasReadToJudge head (BadLine n) input rest = AtMostWereRead n input rest
WasReadToJudge head (BadGame fault) input rest = AtMostWereRead 2 input rest
WasReadToJudge head GameOver input rest = AtMostWereRead head input rest

-- the run took fewer bytes from the input than it may read
abbrev pub TookLess : List ℕ → Told → Type 0
TookLess input rest =
    (bytes : List ℕ) × (left : List ℕ) × WasRead input rest bytes left
    × (length bytes < input_limit)

-- the run took as many bytes from the input as it may read
abbrev pub TookLimit : List ℕ → Told → Type 0
TookLimit input rest =
    (bytes : List ℕ) × (left : List ℕ) × WasRead input rest bytes left
    × (length bytes ≡ input_limit)

-- More than n lines decide this verdict, if a head has this number of lines. If an index is
-- missing, the line after those taken is one of them, and so it is if something is left over. Only
-- the end of the input decides that a text is accepted. A bad line is itself one of the deciding
-- lines, and a bad game is on the second line.
abbrev pub IsDecidedBehind : ℕ → TextVerdict → ℕ → Type 0
IsDecidedBehind head Accepted n = ⊤
IsDecidedBehind head (Refused place why) n = n < head + place + looked_for why
IsDecidedBehind head (BadCite place) n = n < head + place
IsDecidedBehind head (BadLine k) n = n < k
IsDecidedBehind head (BadGame fault) n = n < 2
IsDecidedBehind head GameOver n = n < head

-- If the verdicts for refusals of a walk are not decided by n lines, fewer than the head has,
-- neither is any verdict on the walk of the items after the head.
pub not-yet : {S W : Type 0} (refusal : ℕ → W → TextVerdict) (head n : ℕ) (o : WalkEnd S W)
    → ((place : ℕ) (why : W) → IsDecidedBehind head (refusal place why) n) → n < head
    → head < 2 ^ 64 → IsDecidedBehind head (walk_verdict refusal head o) n
not-yet refusal head n (Left s) refused less few = tt
not-yet refusal head n (Fault why k) refused less few = refused (held k) why
not-yet refusal head n (Halt k) refused less few = omega (arith, less, few)

-- These first lines of the input were read, and at most a piece beyond them, and they do not decide
-- the verdict.
abbrev pub IsUndecided : ℕ → TextVerdict → List ℕ → Told → Type 0
IsUndecided head worth input rest =
    (read : List Line) × WereRead input rest read × IsDecidedBehind head worth (length read)

-- After a failed read: the run took fewer bytes from the input than it may read, and the lines that
-- were read do not decide the verdict.
pub record WasUnread (head : ℕ) (worth : TextVerdict) (input : List ℕ) (rest : Told) : Type 0 where
  pub took : TookLess input rest
  pub undecided : IsUndecided head worth input rest

-- Writing

-- the line of this verdict on the input was written, and the status is that of the verdict
pub record WroteVerdict (head : ℕ) (worth : TextVerdict) (status : Status) (input : List ℕ)
    (before after : Sides) : Type 0 where
  pub status_is : status_of worth ≡ status
  pub wrote : after.written ≡ behind before.written (verdict_line worth)
  pub was_read : WasReadToJudge head worth input after.rest

-- the first n bytes of the line of this verdict were written, and not all
pub record CutVerdict (head : ℕ) (worth : TextVerdict) (input : List ℕ) (before after : Sides)
    (n : ℕ) : Type 0 where
  pub cut : n < length (verdict_line worth)
  pub wrote : after.written ≡ behind before.written (take n (verdict_line worth))
  pub was_read : WasReadToJudge head worth input after.rest

-- A check of texts whose head has this number of lines writes the line of the verdict on the lines
-- of the input. If a read failed, the limit was reached or memory ran out, nothing was written. A
-- read failed only before the lines that decide the verdict were read.
abbrev pub VerdictRun : ℕ → Judgement → Status → Sides → Sides → Type 0
VerdictRun head verdict Done before after =
    WhereTold before.rest
    (λ input. WroteVerdict head (verdict (lines input)) Done input before after)
VerdictRun head verdict IsRefused before after =
    WhereTold before.rest
    (λ input. WroteVerdict head (verdict (lines input)) IsRefused input before after)
VerdictRun head verdict BadInput before after =
    WhereTold before.rest
    (λ input. WroteVerdict head (verdict (lines input)) BadInput input before after)
VerdictRun head verdict WriteFault before after =
    WhereTold before.rest
    (λ input. (n : ℕ) × CutVerdict head (verdict (lines input)) input before after n)
VerdictRun head verdict ReadFault before after =
    (after.written ≡ before.written) × WhereTold before.rest
    (λ input. WasUnread head (verdict (lines input)) input after.rest)
VerdictRun head verdict InputFull before after =
    (after.written ≡ before.written) × WhereTold before.rest (λ input. TookLimit input after.rest)
VerdictRun head verdict Memory before after = after.written ≡ before.written
VerdictRun head verdict Usage before after = ⊥
VerdictRun head verdict SpawnFault before after = ⊥
