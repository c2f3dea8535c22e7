-- How a run ends, by what is asked for.
use Rattle.std.proofs.Common.{◌≡◌, ℕ, List, [], length, map, sym, refl, subst, arith, Some, inl, inr, String, Global, Bool, true, false}
use Rattle.io_edge.specs.Outside.{HasCause, Told}
use Rattle.io_edge.specs.Starts.{Engines}
use Rattle.hive_model.specs.declared.best.Timed.{Timed}
use Rattle.command_runs.specs.Input.{Sides}
use Rattle.command_runs.specs.World.{LeavesInput, TakesNoTime, Times, World, once_read, times, world}
use Rattle.line_services.specs.ServiceRun.{EndsAs}
use Rattle.line_services.specs.Session.{session}
use Rattle.line_services.specs.Replay.{replays}
use Rattle.count_command.specs.Count.{CountRun}
use Rattle.count_command.specs.Parts.{PartRun}
use Rattle.hive_cli.specs.Run.{LeavesAllElse, RunOf, PlaysMatch, PlaysTournament, StartsAudited, UsesSpawner, format_of, plan_of}
use Rattle.command_words.specs.Audits.{AreAuditWords}
use Rattle.command_words.specs.Cups.{AreCupWords, AskForEngines, engine_of, program_texts}
use Rattle.command_words.specs.Matches.{AreMatchWords, AskForPrograms, IsLevelOf, between_spaces}
use Rattle.command_words.specs.Tournaments.{AreTournamentWords, AskForTournamentEngines}
use Rattle.cup.specs.Engines.{Engine}
use Rattle.cup.specs.Played.{IsDepth}
use Rattle.match_core.specs.declared.setup.Level.{Level}
use Rattle.std.specs.Prelude.{Option, None}
use Rattle.std.proofs.lemmas.Option.{same_Some}
use Rattle.command_words.specs.Words.{Words}
use Rattle.cup_command.proofs.Early.{early-none}
use Rattle.cup_command.specs.Cup.{CupRun}
use Rattle.match_command.specs.Match.{MatchRun, MatchStarts}
use Rattle.match_command.specs.Reads.{ReadMatchRun, typed}
use Rattle.match_command.proofs.Reading.{none_left}
use Rattle.match_core.specs.declared.setup.Setup.{Setup}
use Rattle.match_core.specs.Setups.{FullSetup, setup_from, setup_plain}
use Rattle.command_runs.specs.Answered.{TellsNone}
use Rattle.command_runs.specs.declared.no_game.NoGame.{NoGame}
use Rattle.command_runs.specs.declared.no_game.NoGame.TheVariants.{Bad, ReadFault as NoRead, InputFull as TooMuch, Memory as NoMemory}
use Rattle.command_runs.proofs.WrittenLemmas.{ends_so}
use Rattle.command_runs.specs.declared.status.Status.{Status}
use Rattle.command_runs.specs.declared.status.Status.TheVariants.{Usage, ReadFault, SpawnFault, BadInput, Memory}
use Rattle.command_words.specs.declared.asked.Asked.{Asked}
use Rattle.command_words.specs.declared.audits.AuditAsked.{AuditAsked}
use Rattle.command_words.specs.declared.asked.Asked.TheVariants.{Session, Replay, Count, Grow, Certify, Check, Solve, Verify, Match, Cup, Book, Migrate, Audit, Tournament}
use Rattle.audit_command.specs.Audit.{AuditRun}
use Rattle.audit_command.proofs.Closing.{none_taken}
use Rattle.book_command.specs.Runs.{BookRun}
use Rattle.certificate_commands.specs.Certifying.{CertifyRun}
use Rattle.certificate_commands.specs.Verdicts.{CheckRun}
use Rattle.certificate_commands.specs.Migrating.{MigrateRun}
use Rattle.grow_command.specs.Runs.{GrowRun}
use Rattle.win_commands.specs.Runs.{SolveRun, VerifyRun}
use Rattle.tournament_command.specs.declared.format.Format.{Format}
use Rattle.tournament_command.specs.Formats.{terms_of}
use Rattle.tournament_command.specs.Intakes.{Intake, nothing_read}
use Rattle.tournament_command.specs.Reads.{ReadTournamentRun}
use Rattle.tournament_command.proofs.Gathering.{nothing_tells}
use Rattle.command_runs.proofs.ReadLemmas.{none_were_read}
use Rattle.tournament_games.specs.Tournaments.{Terms}
use Rattle.tournament_games.specs.Waves.{TournamentRun}
use Rattle.book_command.proofs.StartLaws.{unread}
use Rattle.command_runs.proofs.OneGameLemmas.{none_read}
use Rattle.line_services.proofs.Progress.{no_memory}

-- a run that reports that no game was read does not end with `Usage`
none_usage : (none : NoGame) (status : Status) (w0 w : Told) → TellsNone none status w0 w → status ≡ Usage → ⊥
none_usage (Bad text) status w0 w told e = ends_so text BadInput Usage status w0 w told (λ d. cc) (λ d. cc) e
none_usage NoRead status w0 w (is, same) e = cc
none_usage TooMuch status w0 w (is, same) e = cc
none_usage NoMemory status w0 w (is, same) e = cc

read_usage : (setup : Setup) (white black : List (List ℕ)) (status : Status) (before after : World) → ReadMatchRun setup white black status before after → status ≡ Usage → ⊥
read_usage setup white black status before after (inl (game, begun)) e =
    subst (λ s. MatchRun (setup_from (typed setup game.game_type) game.moves) s (once_read after.sides.rest before) after) e begun.played
read_usage setup white black status before after (inr (none, read)) e = none_usage none status before.sides.written after.sides.written read.told e

headed_usage : (t : Terms) (i : Intake) (before after : World) → TournamentRun t i.ends Usage before after → ⊥
headed_usage t i before after (inl run) = run
headed_usage t i before after (inr run) = run

tournament_usage : (engines : List Engine) (format : Format) (status : Status) (before after : World) → ReadTournamentRun engines format status before after → status ≡ Usage → ⊥
tournament_usage engines format status before after (inl (i, begun)) e =
    headed_usage (terms_of engines format i.openings) i (once_read after.sides.rest before) after
    (subst (λ s. TournamentRun (terms_of engines format i.openings) i.ends s (once_read after.sides.rest before) after) e begun.played)
tournament_usage engines format status before after (inr (none, read)) e = none_usage none status before.sides.written after.sides.written read.told e

-- a run that is asked for does not end with `Usage`
pub never_usage : (words : List (String Global)) (asked : Asked) (status : Status) (before after : World) → RunOf words asked status before after → status ≡ Usage → ⊥
never_usage words Session status before after (run, none) e = subst (λ s. EndsAs session s before after) e run.ends
never_usage words (Replay r) status before after (run, others) e = subst (λ s. EndsAs (replays r) s before after) e run.ends
never_usage words (Count plies workers false) status before after (run, others) e = subst (λ s. CountRun plies s before.sides after.sides) e run
never_usage words (Count plies workers true) status before after (run, others) e = subst (λ s. PartRun s before.sides after.sides) e run
never_usage words (Grow seed plies) status before after (run, others) e = subst (λ s. GrowRun seed plies s before.sides.written after.sides.written) e run.made
never_usage words (Certify depth) status before after (run, others) e = subst (λ s. CertifyRun depth s before.sides after.sides) e run
never_usage words Check status before after (run, others) e = subst (λ s. CheckRun s before.sides after.sides) e run
never_usage words (Solve plies) status before after (run, others) e = subst (λ s. SolveRun plies s before.sides after.sides) e run
never_usage words Verify status before after (run, others) e = subst (λ s. VerifyRun s before.sides after.sides) e run
never_usage words Book status before after (run, others) e = subst (λ s. BookRun s before.sides after.sides) e run
never_usage words Migrate status before after (run, others) e = subst (λ s. MigrateRun s before.sides after.sides) e run
never_usage words (Match setup false) status before after run e =
    subst (λ s. MatchRun (setup_plain setup) s before after) e run.played.played
never_usage words (Match setup true) status before after run e = let (white, black, asked, read) = run.played in
    read_usage setup white black status before after read e
never_usage words (Cup setup) status before after run e = let (engines, asked, played) = run.played in
    subst (λ s. CupRun engines setup s before after) e played
never_usage words (Audit audit) status before after run e =
    subst (λ s. AuditRun (plan_of audit) s before after) e run.audited
never_usage words (Tournament setup rounds gauntlet at_once resume) status before after run e = let (engines, asked, played) = run.played in
    tournament_usage engines (format_of setup rounds gauntlet at_once resume) status before after played e

-- no run except a match, a cup, a tournament and an audit starts a program
pub never_spawns : (words : List (String Global)) (asked : Asked) (status : Status) (before after : World) → ¬ UsesSpawner asked → RunOf words asked status before after → status ≡ SpawnFault → ⊥
never_spawns words Session status before after alone (run, none) e = subst (λ s. EndsAs session s before after) e run.ends
never_spawns words (Replay r) status before after alone (run, others) e = subst (λ s. EndsAs (replays r) s before after) e run.ends
never_spawns words (Count plies workers false) status before after alone (run, others) e = subst (λ s. CountRun plies s before.sides after.sides) e run
never_spawns words (Count plies workers true) status before after alone (run, others) e = subst (λ s. PartRun s before.sides after.sides) e run
never_spawns words (Grow seed plies) status before after alone (run, others) e = subst (λ s. GrowRun seed plies s before.sides.written after.sides.written) e run.made
never_spawns words (Certify depth) status before after alone (run, others) e = subst (λ s. CertifyRun depth s before.sides after.sides) e run
never_spawns words Check status before after alone (run, others) e = subst (λ s. CheckRun s before.sides after.sides) e run
never_spawns words (Solve plies) status before after alone (run, others) e = subst (λ s. SolveRun plies s before.sides after.sides) e run
never_spawns words Verify status before after alone (run, others) e = subst (λ s. VerifyRun s before.sides after.sides) e run
never_spawns words Book status before after alone (run, others) e = subst (λ s. BookRun s before.sides after.sides) e run
never_spawns words Migrate status before after alone (run, others) e = subst (λ s. MigrateRun s before.sides after.sides) e run
never_spawns words (Match setup from) status before after alone run e = absurd (alone tt)
never_spawns words (Cup setup) status before after alone run e = absurd (alone tt)
never_spawns words (Audit audit) status before after alone run e = absurd (alone tt)
never_spawns words (Tournament setup rounds gauntlet at_once resume) status before after alone run e = absurd (alone tt)

-- a cup reads nothing
pub cups_read_nothing : (engines : List Engine) (setup : Setup) (status : Status) (before after : World) → CupRun engines setup status before after → status ≡ ReadFault → ⊥
cups_read_nothing engines setup status before after run e = subst (λ s. CupRun engines setup s before after) e run

no_time : (t : Times) → TakesNoTime t t
no_time t = record { last = refl; readings = refl; timed = refl }

no_more : (w : World) → LeavesAllElse w w
no_more w = (no_time w.times, refl)

-- the words of a match ask for the programs that its options give
pub asks_programs : (words : List (String Global)) (setup : Setup) (from : Bool) → AreMatchWords words setup from → (white : List (List ℕ)) × (black : List (List ℕ)) × AskForPrograms words white black
asks_programs words setup from h = (
  between_spaces h.white,
  between_spaces h.black,
  record {
    white_text = h.white;
    black_text = h.black;
    choices = h.choices;
    from_text = h.from_text;
    give = h.give;
    white_is = refl;
    black_is = refl;
  },
)

-- the same programs are asked for
named : (words : List (String Global)) (white black ws bs : List (List ℕ)) → AskForPrograms words ws bs → white ≡ ws → black ≡ bs → AskForPrograms words white black
named words white black ws bs asks w b = subst (λ x. AskForPrograms words x black) (sym w) (subst (λ x. AskForPrograms words ws x) (sym b) asks)

-- a match for which memory ran out before the input was read and before a program was started
pub starved_plays : (words : List (String Global)) (setup : Setup) (from : Bool) (w : World) → AreMatchWords words setup from → PlaysMatch words setup from Memory w w
starved_plays words setup false w h = let (white, black, asked) = asks_programs words setup false h in record {
  played = refl;
  programs = (white, black, asked, inr (inl refl));
  unread = refl;
}
starved_plays words setup true w h = let (white, black, asked) = asks_programs words setup true h in (
  white,
  black,
  asked,
  inr (NoMemory, record { shown = λ input told. none_read input w.sides.rest told; told = (refl, refl); untimed = no_time w.times; unstarted = refl }),
)

-- a match from the opening does not end because a read failed
pub plain_reads : (setup : FullSetup) (status : Status) (before after : World) (n : ℕ) → MatchRun setup status before after → HasCause (status ≡ ReadFault) n n
plain_reads setup status before after n run = record {
  later = omega arith;
  rose = λ e. absurd (subst (λ s. MatchRun setup s before after) e run);
  same = λ no. refl;
}

-- the match that was played is the one that the words ask for
pub plays_read : (words : List (String Global)) (setup : Setup) (from : Bool) (white black ws bs : List (List ℕ)) (status : Status) (before after : World) → from ≡ true → AskForPrograms words ws bs → white ≡ ws → black ≡ bs
    → ReadMatchRun setup white black status before after → PlaysMatch words setup from status before after
plays_read words setup from white black ws bs status before after is asks w b run = subst (λ f. PlaysMatch words setup f status before after) (sym is) (white, black, named words white black ws bs asks w b, run)

pub plays_plain : (words : List (String Global)) (setup : Setup) (from : Bool) (white black ws bs : List (List ℕ)) (status : Status) (before after : World) → from ≡ false → AskForPrograms words ws bs → white ≡ ws → black ≡ bs
    → MatchRun (setup_plain setup) status before after → MatchStarts status white black before.engines after.engines → LeavesInput before after → PlaysMatch words setup from status before after
plays_plain words setup from white black ws bs status before after is asks w b run starts unread = subst (λ f. PlaysMatch words setup f status before after) (sym is) (record {
  played = run;
  programs = (white, black, named words white black ws bs asks w b, starts);
  unread = unread;
})

-- the words of a cup ask for the engines that its option gives
pub asks_engines : (words : List (String Global)) (setup : Setup) → AreCupWords words setup → (engines : List Engine) × AskForEngines words engines
asks_engines words setup h = (
  map engine_of (program_texts h.options.engines),
  record { options = h.options; engines_are = refl },
)

level_is_depth : (o : Option (List ℕ)) (margin : ℕ) (level : Level) → IsLevelOf o None margin level → IsDepth level
level_is_depth None margin level (n, is, e) = subst IsDepth (sym e) tt
level_is_depth (Some text) margin level (n, is, e) = subst IsDepth (sym e) tt

-- a cup is played to a depth
pub cup_depth : (words : List (String Global)) (setup : Setup) → AreCupWords words setup → IsDepth setup.level
cup_depth words setup h = level_is_depth h.options.depth h.setup_is.margin setup.level h.setup_is.level

-- a match for which memory ran out before anything was done
starved_match : (words : List (String Global)) (setup : Setup) (from : Bool) (w : World) → AreMatchWords words setup from → RunOf words (Match setup from) Memory w w
starved_match words setup from w asked = record {
  played = starved_plays words setup from w asked;
  closed = none_left w.engines;
  timed = refl;
}

-- a cup for which memory ran out before a program was started
starved_cup : (words : List (String Global)) (setup : Setup) (w : World) → AreCupWords words setup → RunOf words (Cup setup) Memory w w
starved_cup words setup w asked = let (engines, asks) = asks_engines words setup asked in record {
  played = (engines, asks, record { written = refl; starts = early-none engines w.engines });
  closed = none_left w.engines;
  unread = refl;
  untimed = no_time w.times;
}

-- the words of a tournament ask for the engines that its option gives
asks_tournament_engines : (words : List (String Global)) (setup : Setup) (rounds : ℕ) (gauntlet : Bool) (at_once : ℕ) (resume : Bool) → AreTournamentWords words setup rounds gauntlet at_once resume → (engines : List Engine) × AskForTournamentEngines words engines
asks_tournament_engines words setup rounds gauntlet at_once resume h = (
  map engine_of (program_texts h.options.engines),
  record { options = h.options; engines_are = refl },
)

-- a tournament for which memory ran out before the input was read
pub starved_tournament : (words : List (String Global)) (setup : Setup) (rounds : ℕ) (gauntlet : Bool) (at_once : ℕ) (resume : Bool) (w : World) → AreTournamentWords words setup rounds gauntlet at_once resume
    → PlaysTournament words (format_of setup rounds gauntlet at_once resume) Memory w w
starved_tournament words setup rounds gauntlet at_once resume w h = let (engines, asks) = asks_tournament_engines words setup rounds gauntlet at_once resume h in (
  engines,
  asks,
  inr (NoMemory, record { shown = λ input told. ([], [], nothing_read, none_were_read input w.sides.rest told, nothing_tells engines (format_of setup rounds gauntlet at_once resume), omega arith); told = (refl, refl); unstarted = refl }),
)

-- a tournament for which memory ran out before anything was done
starved_contest : (words : List (String Global)) (setup : Setup) (rounds : ℕ) (gauntlet : Bool) (at_once : ℕ) (resume : Bool) (w : World) → AreTournamentWords words setup rounds gauntlet at_once resume
    → RunOf words (Tournament setup rounds gauntlet at_once resume) Memory w w
starved_contest words setup rounds gauntlet at_once resume w h = record {
  played = starved_tournament words setup rounds gauntlet at_once resume w h;
  closed = none_left w.engines;
  untimed = no_time w.times;
}

-- if memory ran out before the program of an audit was started, it was not started
pub starved_audited : (words : List (String Global)) (audit : AuditAsked) (engines : Engines) → AreAuditWords words audit → StartsAudited words Memory engines engines
starved_audited words audit engines h = (between_spaces h.options.engine, (h.options, h.give, refl), inr refl)

-- an audit for which memory ran out before its program was started
starved_audit : (words : List (String Global)) (audit : AuditAsked) (w : World) → AreAuditWords words audit → RunOf words (Audit audit) Memory w w
starved_audit words audit w asked = record {
  audited = refl;
  program = starved_audited words audit w.engines asked;
  closed = none_taken w.engines w.engines refl refl;
  unread = refl;
  untimed = no_time w.times;
}

starved_here : (words : List (String Global)) (asked : Asked) (w : World) → Words words asked → RunOf words asked Memory w w
starved_here words Session w h = (no_memory session w w refl (no_time w.times), refl)
starved_here words (Replay r) w h = (no_memory (replays r) w w refl (no_time w.times), no_more w)
starved_here words (Count plies workers false) w h = ((refl, λ input told. none_read input w.sides.rest told), no_more w)
starved_here words (Count plies workers true) w h = ((refl, λ input told. none_read input w.sides.rest told), no_more w)
starved_here words (Grow seed plies) w h = (record { made = refl; unread = refl }, no_more w)
starved_here words (Certify depth) w h = ((refl, λ input told. none_read input w.sides.rest told), no_more w)
starved_here words Check w h = (refl, no_more w)
starved_here words (Solve plies) w h = ((refl, λ input told. none_read input w.sides.rest told), no_more w)
starved_here words Verify w h = (refl, no_more w)
starved_here words Book w h = ((refl, unread w.sides.rest), no_more w)
starved_here words Migrate w h = (refl, no_more w)
starved_here words (Match setup from) w h = starved_match words setup from w h
starved_here words (Cup setup) w h = starved_cup words setup w h
starved_here words (Audit audit) w h = starved_audit words audit w h
starved_here words (Tournament setup rounds gauntlet at_once resume) w h = starved_contest words setup rounds gauntlet at_once resume w h

-- memory ran out before anything was done
pub starved : (words : List (String Global)) (asked : Asked) (w : World) (timed : List Timed) → Words words asked → timed ≡ w.times.timed
    → RunOf words asked Memory w (world w.sides (times w.times.last w.times.readings timed) w.engines)
starved words asked w timed h same = subst (λ (t : List Timed). RunOf words asked Memory w (world w.sides (times w.times.last w.times.readings t) w.engines)) (sym same) (starved_here words asked w h)

-- the list had no entry when the run began
pub with_none : (words : List (String Global)) (asked : Asked) (status : Status) (s : Sides) (last readings : ℕ) (timed : List Timed) (e : Engines) (after : World) → RunOf words asked status (world s (times last readings timed) e) after → timed ≡ []
    → RunOf words asked status (world s (times last readings []) e) after
with_none words asked status s last readings timed e after run none = subst (λ (t : List Timed). RunOf words asked status (world s (times last readings t) e) after) none run

-- what was done is what the words ask for
pub run_of : (words : List (String Global)) (did asked : Asked) (status : Status) (before after : World) → RunOf words did status before after → Some did ≡ Some asked → RunOf words asked status before after
run_of words did asked status before after run e = subst (λ a. RunOf words a status before after) (same_Some _ _ e) run

-- what is not a match, cup, tournament or audit starts no program
pub is_alone : (asked : Asked) → ((setup : Setup) (from : Bool) → asked ≡ Match setup from → ⊥) → ((setup : Setup) → asked ≡ Cup setup → ⊥)
    → ((audit : AuditAsked) → asked ≡ Audit audit → ⊥) → ((setup : Setup) (rounds : ℕ) (gauntlet : Bool) (at_once : ℕ) (resume : Bool) → asked ≡ Tournament setup rounds gauntlet at_once resume → ⊥) → ¬ UsesSpawner asked
is_alone (Match setup from) no_match no_cup no_audit no_tournament uses = no_match setup from refl
is_alone (Cup setup) no_match no_cup no_audit no_tournament uses = no_cup setup refl
is_alone Session no_match no_cup no_audit no_tournament uses = uses
is_alone (Replay r) no_match no_cup no_audit no_tournament uses = uses
is_alone (Count plies workers split) no_match no_cup no_audit no_tournament uses = uses
is_alone (Grow seed plies) no_match no_cup no_audit no_tournament uses = uses
is_alone (Certify depth) no_match no_cup no_audit no_tournament uses = uses
is_alone Check no_match no_cup no_audit no_tournament uses = uses
is_alone (Solve plies) no_match no_cup no_audit no_tournament uses = uses
is_alone Verify no_match no_cup no_audit no_tournament uses = uses
is_alone Book no_match no_cup no_audit no_tournament uses = uses
is_alone Migrate no_match no_cup no_audit no_tournament uses = uses
is_alone (Audit audit) no_match no_cup no_audit no_tournament uses = no_audit audit refl
is_alone (Tournament setup rounds gauntlet at_once resume) no_match no_cup no_audit no_tournament uses = no_tournament setup rounds gauntlet at_once resume refl
