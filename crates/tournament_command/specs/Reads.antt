-- What a tournament reads, writes and plays, by the status with which it ends.
use Rattle.std.specs.Prelude.{◌≡◌, ◌⊎◌, ℕ, ◌≤◌, List, [], ◌∷◌, ◌++◌, codes, decimal, length, Ok, Err}
use Rattle.io_edge.specs.Outside.{Told}
use Rattle.io_edge.specs.Lines.{Line, lines, whole_lines}
use Rattle.line_feed.specs.SoFar.{WasRead}
use Rattle.command_runs.specs.Answered.{Inquiry, IsUnanswered, TellsNone}
use Rattle.command_runs.specs.Input.{IsAllRead, WereRead, WhereTold}
use Rattle.command_runs.specs.World.{LeavesEngines, World, once_read}
use Rattle.command_runs.specs.declared.no_game.NoGame.{NoGame}
use Rattle.command_runs.specs.declared.status.Status.{Status}
use Rattle.cup.specs.Engines.{Engine}
use Rattle.tournament_games.specs.Waves.{TournamentRun}
use Rattle.tournament_record.specs.Heads.{topic_word}
use Rattle.tournament_command.specs.declared.format.Format.{Format}
use Rattle.tournament_command.specs.declared.refused.LineFault.{LineFault}
use Rattle.tournament_command.specs.declared.refused.LineFault.TheVariants.{Bad, Other}
use Rattle.tournament_command.specs.Formats.{terms_of}
use Rattle.tournament_command.specs.Intakes.{Intake, intake, take_line}

-- Input that tells no tournament

-- why a line is refused: its number, and of another head the word of the first that differs
abbrev pub refusal : LineFault → List ℕ
refusal (Bad number) = codes "line " ++ decimal number
refusal (Other number topic) =
    codes "line " ++ (decimal number ++ (codes " other " ++ topic_word topic))

-- These lines were read. Those before the last one tell this; the last one shows this fault.
pub record IsRefused
    (engines : List Engine) (f : Format) (input : List ℕ) (rest : Told) (front : List Line)
    (last : Line) (i : Intake) (fault : LineFault) : Type 0 where
  pub were_read : WereRead input rest (front ++ last ∷ [])
  pub good : intake engines f front ≡ Ok i
  pub refused : take_line engines f i last ≡ Err fault

-- the input is bad, for this reason
abbrev pub IsBad : List Engine → Format → List ℕ → Told → List ℕ → Type 0
IsBad engines f input rest why =
    (front : List Line) × (last : Line) × (i : Intake) × (fault : LineFault)
    × IsRefused engines f input rest front last i fault
    × (why ≡ refusal fault)

-- the bytes that have left the source are these, and none of their lines that end in LF is refused
abbrev pub IsUndecided : List Engine → Format → List ℕ → Told → List ℕ → List ℕ → Type 0
IsUndecided engines f input rest bytes left =
    (i : Intake)
    × WasRead input rest bytes left
    × (intake engines f (whole_lines bytes) ≡ Ok i)

-- of the lines that were read none before the last one is refused
abbrev pub ReadsGood : List Engine → Format → List ℕ → Told → Type 0
ReadsGood engines f input rest =
    (front last : List Line) × (i : Intake)
    × WereRead input rest (front ++ last)
    × (intake engines f front ≡ Ok i)
    × (length last ≤ 1)

-- the lines of the input are to tell a tournament of these engines
abbrev pub about_tournament : List Engine → Format → Inquiry
about_tournament engines f = record {
  bad = IsBad engines f;
  undecided = IsUndecided engines f;
  begun = ReadsGood engines f;
}

-- The run

-- the lines of the input tell this, and it was read to its end
pub record IsTold (engines : List Engine) (f : Format) (input : List ℕ) (rest : Told) (i : Intake)
    : Type 0 where
  pub tells : intake engines f (lines input) ≡ Ok i
  pub over : IsAllRead input rest

-- This was read, and the tournament was played from these openings, behind the games that were
-- played before.
pub record PlayedFrom
    (engines : List Engine) (f : Format) (status : Status) (before after : World) (i : Intake)
    : Type 0 where
  pub told :
      WhereTold before.sides.rest
      (λ input. IsTold engines f input after.sides.rest i)
  pub played :
      TournamentRun (terms_of engines f i.openings) i.ends status
      (once_read after.sides.rest before) after

-- The input tells no tournament, for this reason, and nothing was begun: no program was started.
-- Where the input is at fault, the line that says why was written, or a part of it.
pub record NoneRead
    (engines : List Engine) (f : Format) (status : Status) (before after : World) (none : NoGame)
    : Type 0 where
  pub shown :
      WhereTold before.sides.rest
      (λ input. IsUnanswered (about_tournament engines f) none input after.sides.rest)
  pub told : TellsNone none status before.sides.written after.sides.written
  pub unstarted : LeavesEngines before after

-- what was read, written and played where a tournament of these engines ends with this status
abbrev pub ReadTournamentRun : List Engine → Format → Status → World → World → Type 0
ReadTournamentRun engines f status before after =
    ((i : Intake) × PlayedFrom engines f status before after i)
    ⊎ ((none : NoGame) × NoneRead engines f status before after none)
