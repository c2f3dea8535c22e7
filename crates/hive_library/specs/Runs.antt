-- What a call leaves that runs a command over a text.
use Rattle.std.specs.Prelude.{◌≡◌, ◌⊎◌, ℕ, ◌<◌, ◌≤◌, List, length, Result, Ok, Err}
use Rattle.line_feed.specs.Feed.{input_limit}
use Rattle.game_text.specs.declared.parsed.Parsed.{Parsed}
use Rattle.command_runs.specs.OneGame.{bad_line}
use Rattle.command_runs.specs.GameRun.{Answers as GameAnswers}
use Rattle.command_runs.specs.Statuses.{number}
use Rattle.command_runs.specs.declared.status.Status.{Status}
use Rattle.command_runs.specs.declared.status.Status.TheVariants.{Done, Refused, Usage, ReadFault, WriteFault, SpawnFault, BadInput, Memory, InputFull}
use Rattle.certificate_verdicts.specs.declared.verdict.TextVerdict.{TextVerdict}
use Rattle.certificate_verdicts.specs.Verdicts.{status_of, verdict_line}
use Rattle.hive_library.specs.Rooms.{Ends, PutsAs}

-- what a call may leave: its status, the room before and after, and the length that it stored
abbrev pub Leaving : Type 1
Leaving = ℕ → List ℕ → List ℕ → ℕ → Type 0

-- the call gives what a run over memory wrote that ended with this status
abbrev pub GivesRun : Status → List ℕ → Leaving
GivesRun Done written status before now told = PutsAs 0 written status before now told
GivesRun Refused written status before now told = PutsAs 1 written status before now told
GivesRun BadInput written status before now told = PutsAs 6 written status before now told
GivesRun Usage written status before now told = Ends 7 status before now told
GivesRun ReadFault written status before now told = Ends 7 status before now told
GivesRun WriteFault written status before now told = Ends 7 status before now told
GivesRun SpawnFault written status before now told = Ends 7 status before now told
GivesRun Memory written status before now told = Ends 7 status before now told
GivesRun InputFull written status before now told = Ends 7 status before now told

-- Which texts a command gives

-- texts, each with the status by which it is given
abbrev pub Texts : Type 1
Texts = ℕ → List ℕ → Type 0

-- A check gives the line of its verdict: with 0 if it accepts, with 1 if it refuses, and with 6 if
-- the text is malformed.
abbrev pub OfVerdict : TextVerdict → Texts
OfVerdict verdict code text = (code ≡ number (status_of verdict)) × (text ≡ verdict_line verdict)

-- A command about one game gives its answer to the game with 0. Otherwise it gives the line that
-- says why there is no such game with 6.
abbrev pub OfAsked : GameAnswers → Result Parsed (List ℕ) → Texts
OfAsked answers (Ok game) code text = (code ≡ 0) × answers game text
OfAsked answers (Err why) code text = (code ≡ 6) × (text ≡ bad_line why)

-- What a call leaves

-- such a text is given with its status; or memory ran out: nothing says when that happens
abbrev pub GivesOne : Texts → Leaving
GivesOne texts status before now told =
    Ends 7 status before now told
    ⊎ ((code : ℕ) × (text : List ℕ) × texts code text × PutsAs code text status before now told)

-- the same for an input that a command can read; one that is too long for it ends the call with 8
abbrev pub OfInput : List ℕ → Texts → Leaving
OfInput input texts status before now told =
    ((input_limit ≤ length input) × Ends 8 status before now told)
    ⊎ ((length input < input_limit) × GivesOne texts status before now told)

-- the same for a number in this range; one outside it ends the call with 2
abbrev pub InRange : ℕ → ℕ → ℕ → Leaving → Leaving
InRange least most number leaves status before now told =
    (((number < least) ⊎ (most < number)) × Ends 2 status before now told)
    ⊎ ((least ≤ number) × (number ≤ most) × leaves status before now told)
