-- The match that begins with the game of the input, and the end if there is none.
use Rattle.std.proofs.Common.{◌≡◌, ℕ, ◌+◌, List, length, Some, Err, refl, ap, sym, ◌∙◌, subst, inl, arith}
use Rattle.std.specs.Prelude.{Result}
use Rattle.std.proofs.lemmas.Option.{same_Some}
use Rattle.io_edge.specs.Outside.{HasCause, Told, ToldLists}
use Rattle.io_edge.specs.Starts.{Engines}
use Rattle.hive_model.specs.Histories.{History}
use Rattle.game_text.specs.declared.parsed.Parsed.{Parsed}
use Rattle.command_runs.specs.Answered.{TellsNone}
use Rattle.command_runs.specs.Asking.{IsReplayOf}
use Rattle.command_runs.specs.Input.{WhereTold}
use Rattle.command_runs.specs.OneGame.{IsAsked}
use Rattle.command_runs.specs.World.{World, once_read}
use Rattle.command_runs.specs.declared.no_game.NoGame.{NoGame}
use Rattle.command_runs.specs.declared.no_game.NoGame.TheVariants.{Bad, ReadFault as NoRead, InputFull as TooMuch, Memory as NoMemory}
use Rattle.command_runs.specs.declared.status.Status.{Status}
use Rattle.command_runs.specs.declared.status.Status.TheVariants.{ReadFault, SpawnFault, BadInput}
use Rattle.command_runs.proofs.WrittenLemmas.{ends_so}
use Rattle.match_core.specs.Setups.{FullSetup, setup_from}
use Rattle.match_core.specs.declared.setup.Setup.{Setup}
use Rattle.match_command.specs.Match.{MatchRun, MatchStarts, NoneIsOpen}
use Rattle.match_command.specs.Reads.{ReadMatchRun, typed}

-- A game was read

-- the game that was read has the type and the moves of the game under way
same_game : (c : History) (game : Parsed) → IsReplayOf c game → game ≡ record { game_type = c.game_type; moves = c.made }
same_game c game end = λ j. record { game_type = sym end.kind j; moves = sym end.made j }

-- the match was played from the game under way
pub begun_from : (setup used : Setup) (white black : List (List ℕ)) (status : Status) (c : History) (before after : World) → used ≡ typed setup c.game_type
    → WhereTold before.sides.rest (λ input. (game : Parsed) × IsAsked input after.sides.rest game × IsReplayOf c game) → MatchRun (setup_from used c.made) status (once_read after.sides.rest before) after
    → MatchStarts status white black before.engines after.engines → ReadMatchRun setup white black status before after
begun_from setup used white black status c before after same given played started = inl (
  record { game_type = c.game_type; moves = c.made },
  record {
    asked = λ input told. let (game, is, end) = given input told in subst (λ g. IsAsked input after.sides.rest g) (same_game c game end) is;
    played = subst (λ s. MatchRun (setup_from s c.made) status (once_read after.sides.rest before) after) same played;
    started = started;
  },
)

-- a match does not end by a failed read
no_read : (setup : FullSetup) (status : Status) (before after : World) → MatchRun setup status before after → status ≡ ReadFault → ⊥
no_read setup status before after run e = subst (λ s. MatchRun setup s before after) e run

-- if no read failed before it, the count is unchanged
pub read_well : {X : Type 0} (setup : FullSetup) (status : Status) (before after : World) (a b : ℕ) → MatchRun setup status before after → HasCause X a b → ¬ X → HasCause (status ≡ ReadFault) a b
read_well setup status before after a b run cause well = record {
  later = cause.later;
  rose = λ e. absurd (no_read setup status before after run e);
  same = λ n. cause.same well;
}

-- No game was read

same_told : {a b : List (List ℕ)} (t : ToldLists) → t ≡ Some a → t ≡ Some b → a ≡ b
same_told t e f = same_Some _ _ (sym e ∙ f)

-- if no program was started or closed, none is left open
pub none_left : (e : Engines) → NoneIsOpen e e
none_left e coming later opened closed a b c d = λ j. length (same_told e.to_come a b j) + length (same_told e.sent c d j)

-- such a run ends by a failed read only if this is the reason
read_failed : (none : NoGame) (status : Status) (w0 w : Told) → TellsNone none status w0 w → status ≡ ReadFault → none ≡ NoRead
read_failed (Bad text) status w0 w told e = absurd (ends_so text BadInput ReadFault status w0 w told (λ d. cc) (λ d. cc) e)
read_failed NoRead status w0 w told e = refl
read_failed TooMuch status w0 w (is, same) e = absurd (cc)
read_failed NoMemory status w0 w (is, same) e = absurd (cc)

failed_read : (none : NoGame) (status : Status) (w0 w : Told) → TellsNone none status w0 w → none ≡ NoRead → status ≡ ReadFault
failed_read (Bad text) status w0 w told e = absurd (cc)
failed_read NoRead status w0 w (is, same) e = is
failed_read TooMuch status w0 w told e = absurd (cc)
failed_read NoMemory status w0 w told e = absurd (cc)

-- the answer that there is none
abbrev no_game : (G : Type 0) → NoGame → Result G NoGame
no_game G none = Err none

same_none : {G : Type 0} (a b : NoGame) → no_game G a ≡ no_game G b → a ≡ b
same_none a b e = cc

-- so the count of reads shows it
pub none_reads : {G : Type 0} (none : NoGame) (status : Status) (w0 w : Told) (a b : ℕ) → TellsNone none status w0 w → HasCause (no_game G none ≡ no_game G NoRead) a b → HasCause (status ≡ ReadFault) a b
none_reads {G} none status w0 w a b told cause = record {
  later = cause.later;
  rose = λ e. cause.rose (ap (no_game G) (read_failed none status w0 w told e));
  same = λ n. cause.same (λ e. n (failed_read none status w0 w told (same_none {G = G} none NoRead e)));
}

-- no program has failed to start
no_start : (none : NoGame) (status : Status) (w0 w : Told) → TellsNone none status w0 w → status ≡ SpawnFault → ⊥
no_start (Bad text) status w0 w told e = ends_so text BadInput SpawnFault status w0 w told (λ d. cc) (λ d. cc) e
no_start NoRead status w0 w (is, same) e = cc
no_start TooMuch status w0 w (is, same) e = cc
no_start NoMemory status w0 w (is, same) e = cc

pub none_starts : (none : NoGame) (status : Status) (w0 w : Told) (a : ℕ) → TellsNone none status w0 w → HasCause (status ≡ SpawnFault) a a
none_starts none status w0 w a told = record {
  later = omega arith;
  rose = λ e. absurd (no_start none status w0 w told e);
  same = λ n. refl;
}
