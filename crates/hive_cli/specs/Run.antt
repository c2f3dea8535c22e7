-- What a run does, by what its words ask for and by the status with which it ends. A new command
-- has a case here and in `Words`.
use Rattle.std.specs.Prelude.{◌≡◌, ℕ, Bool, true, false, List}
use Rattle.std.specs.declared.string.String.{String}
use Rattle.std.specs.declared.alloc.Global.{Global}
use Rattle.audit_core.specs.declared.plan.AuditPlan.{AuditPlan}
use Rattle.audit_command.specs.Audit.{AuditRun, AuditStarts, NoProgramIsOpen}
use Rattle.book_command.specs.Runs.{BookRun}
use Rattle.certificate_commands.specs.Certifying.{CertifyRun}
use Rattle.certificate_commands.specs.Verdicts.{CheckRun}
use Rattle.certificate_commands.specs.Migrating.{MigrateRun}
use Rattle.command_runs.specs.Input.{Sides}
use Rattle.command_runs.specs.World.{LeavesEngines, LeavesInput, LeavesTimes, World}
use Rattle.command_runs.specs.declared.status.Status.{Status}
use Rattle.command_words.specs.Words.{Words}
use Rattle.command_words.specs.Audits.{AskForAudited}
use Rattle.command_words.specs.Cups.{AskForEngines}
use Rattle.command_words.specs.Matches.{AskForPrograms}
use Rattle.command_words.specs.Tournaments.{AskForTournamentEngines}
use Rattle.command_words.specs.declared.audits.AuditAsked.{AuditAsked}
use Rattle.command_words.specs.declared.asked.Asked.{Asked}
use Rattle.command_words.specs.declared.asked.Asked.TheVariants.{Session, Replay, Count, Grow, Certify, Check, Solve, Verify, Match, Cup, Book, Migrate, Audit, Tournament}
use Rattle.cup_command.specs.Cup.{CupRun}
use Rattle.cup.specs.Engines.{Engine}
use Rattle.grow_command.specs.Runs.{GrowRun}
use Rattle.win_commands.specs.Runs.{SolveRun, VerifyRun}
use Rattle.io_edge.specs.Starts.{Engines}
use Rattle.match_command.specs.Match.{MatchRun, MatchStarts, NoneIsOpen}
use Rattle.match_command.specs.Reads.{ReadMatchRun}
use Rattle.match_core.specs.declared.setup.Setup.{Setup}
use Rattle.match_core.specs.Setups.{setup_plain}
use Rattle.line_services.specs.Session.{SessionRun}
use Rattle.line_services.specs.Replay.{ReplayRun}
use Rattle.count_command.specs.Count.{CountRun}
use Rattle.count_command.specs.Parts.{PartRun}
use Rattle.tournament_command.specs.declared.format.Format.{Format}
use Rattle.tournament_command.specs.Reads.{ReadTournamentRun}

-- Nothing but the two sides was changed.
abbrev pub LeavesAllElse : World → World → Type 0
LeavesAllElse before after = LeavesTimes before after × LeavesEngines before after

-- A game was made, and the input was not read.
pub record MadeGame (seed plies : ℕ) (status : Status) (before after : Sides) : Type 0 where
  pub made : GrowRun seed plies status before.written after.written
  pub unread : after.rest ≡ before.rest

-- The programs of the match that the words ask for were started, white's and then black's, each
-- with its words.
abbrev pub StartsPrograms : List (String Global) → Status → Engines → Engines → Type 0
StartsPrograms words status before after =
    (white : List (List ℕ)) × (black : List (List ℕ)) × AskForPrograms words white black
    × MatchStarts status white black before after

-- A match was played from the opening, was reported and ended with this status. The input was not
-- read.
pub record PlaysPlain (words : List (String Global)) (setup : Setup) (status : Status)
    (before after : World) : Type 0 where
  pub played : MatchRun (setup_plain setup) status before after
  pub programs : StartsPrograms words status before.engines after.engines
  pub unread : LeavesInput before after

-- A match of the programs that the words ask for was played from the game of the input, or there
-- was none. It ended with this status.
abbrev pub PlaysRead : List (String Global) → Setup → Status → World → World → Type 0
PlaysRead words setup status before after =
    (white : List (List ℕ)) × (black : List (List ℕ)) × AskForPrograms words white black
    × ReadMatchRun setup white black status before after

-- the match that the words ask for, by whether it begins with a given game
abbrev pub PlaysMatch : List (String Global) → Setup → Bool → Status → World → World → Type 0
PlaysMatch words setup false status before after = PlaysPlain words setup status before after
PlaysMatch words setup true status before after = PlaysRead words setup status before after

-- A match was played, was reported and ended with this status. No search was answered.
pub record PlayedMatch (words : List (String Global)) (setup : Setup) (from : Bool)
    (status : Status) (before after : World) : Type 0 where
  pub played : PlaysMatch words setup from status before after
  pub closed : NoneIsOpen before.engines after.engines
  pub timed : after.times.timed ≡ before.times.timed

-- A cup of the engines that the words ask for was played, was reported and ended with this status.
abbrev pub PlaysEngines : List (String Global) → Setup → Status → World → World → Type 0
PlaysEngines words setup status before after =
    (engines : List Engine) × AskForEngines words engines
    × CupRun engines setup status before after

-- The cup that the words ask for was played. The input was not read, and no search was answered.
pub record PlayedCup (words : List (String Global)) (setup : Setup) (status : Status)
    (before after : World) : Type 0 where
  pub played : PlaysEngines words setup status before after
  pub closed : NoneIsOpen before.engines after.engines
  pub unread : LeavesInput before after
  pub untimed : LeavesTimes before after

-- the format of the tournament that is asked for
abbrev pub format_of : Setup → ℕ → Bool → ℕ → Bool → Format
format_of setup rounds gauntlet at_once resume = record {
  setup = setup;
  rounds = rounds;
  gauntlet = gauntlet;
  at_once = at_once;
  resume = resume;
}

-- A tournament of the engines that the words ask for was read and played, or there was none. It
-- ended with this status.
abbrev pub PlaysTournament : List (String Global) → Format → Status → World → World → Type 0
PlaysTournament words format status before after =
    (engines : List Engine) × AskForTournamentEngines words engines
    × ReadTournamentRun engines format status before after

-- The tournament that the words ask for was played. No search was answered, and the clock of the
-- run was not read: each game has its own.
pub record PlayedTournament (words : List (String Global)) (format : Format) (status : Status)
    (before after : World) : Type 0 where
  pub played : PlaysTournament words format status before after
  pub closed : NoneIsOpen before.engines after.engines
  pub untimed : LeavesTimes before after

-- the plan of the audit that is asked for
abbrev pub plan_of : AuditAsked → AuditPlan
plan_of audit = record {
  games = audit.games;
  first = audit.first;
  seed = audit.seed;
  plies = audit.plies;
  game_type = audit.game_type;
  most = audit.most;
  patient = audit.patient;
}

-- The program of the audit that the words ask for was started, with its words.
abbrev pub StartsAudited : List (String Global) → Status → Engines → Engines → Type 0
StartsAudited words status before after =
    (program : List (List ℕ)) × AskForAudited words program
    × AuditStarts status program before after

-- The program that the words name was audited. The audit was reported and ended with this status.
-- The input was not read, and no search was answered.
pub record MadeAudit (words : List (String Global)) (plan : AuditPlan) (status : Status)
    (before after : World) : Type 0 where
  pub audited : AuditRun plan status before after
  pub program : StartsAudited words status before.engines after.engines
  pub closed : NoProgramIsOpen before.engines after.engines
  pub unread : LeavesInput before after
  pub untimed : LeavesTimes before after

-- a game was counted, or its parts were written
abbrev pub CountsOrSplits : Bool → ℕ → Status → Sides → Sides → Type 0
CountsOrSplits false plies status before after = CountRun plies status before after
CountsOrSplits true plies status before after = PartRun status before after

-- what a run does if its words ask for this and it ends with this status
abbrev pub RunOf : List (String Global) → Asked → Status → World → World → Type 0
RunOf words Session status before after =
    SessionRun status before after × LeavesEngines before after
RunOf words (Replay repetition) status before after =
    ReplayRun repetition status before after × LeavesAllElse before after
RunOf words (Count plies workers split) status before after =
    CountsOrSplits split plies status before.sides after.sides × LeavesAllElse before after
RunOf words (Grow seed plies) status before after =
    MadeGame seed plies status before.sides after.sides × LeavesAllElse before after
RunOf words (Certify depth) status before after =
    CertifyRun depth status before.sides after.sides × LeavesAllElse before after
RunOf words Check status before after =
    CheckRun status before.sides after.sides × LeavesAllElse before after
RunOf words (Solve plies) status before after =
    SolveRun plies status before.sides after.sides × LeavesAllElse before after
RunOf words Verify status before after =
    VerifyRun status before.sides after.sides × LeavesAllElse before after
RunOf words (Match setup from) status before after =
    PlayedMatch words setup from status before after
RunOf words (Cup setup) status before after = PlayedCup words setup status before after
RunOf words Book status before after =
    BookRun status before.sides after.sides × LeavesAllElse before after
RunOf words Migrate status before after =
    MigrateRun status before.sides after.sides × LeavesAllElse before after
RunOf words (Audit audit) status before after = MadeAudit words (plan_of audit) status before after
RunOf words (Tournament setup rounds gauntlet at_once resume) status before after =
    PlayedTournament words (format_of setup rounds gauntlet at_once resume) status before after

-- A run that is asked for this may read the clock: a session, for its searches, and a match.
abbrev pub UsesClock : Asked → Type 0
UsesClock Session = Unit {0}
UsesClock (Match setup from) = Unit {0}
UsesClock _ = ⊥

-- A run that is asked for this may start programs: a match, a cup, a tournament, and an audit.
abbrev pub UsesSpawner : Asked → Type 0
UsesSpawner (Match setup from) = Unit {0}
UsesSpawner (Cup setup) = Unit {0}
UsesSpawner (Audit audit) = Unit {0}
UsesSpawner (Tournament setup rounds gauntlet at_once resume) = Unit {0}
UsesSpawner _ = ⊥

-- A run that is asked for this goes on if a program cannot be started. It is a tournament, in which
-- that program forfeits its game.
abbrev pub GoesOnUnstarted : Asked → Type 0
GoesOnUnstarted (Tournament setup rounds gauntlet at_once resume) = Unit {0}
GoesOnUnstarted _ = ⊥

-- Whatever the words ask for, this does not hold of it.
abbrev pub Never : List (String Global) → (Asked → Type 0) → Type 0
Never words Uses = (asked : Asked) → Words words asked → ¬ Uses asked
