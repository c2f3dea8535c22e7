-- The tournament that the input tells is played; or memory was wanting before it began.
use Rattle.std.proofs.Common.{◌≡◌, ◌≢◌, List, [], refl, sym, subst, inl, inr, arith}
use Rattle.std.proofs.lemmas.List.{append-nil}
use Rattle.io_edge.specs.Lines.{lines}
use Rattle.command_runs.specs.Input.{WereRead, WhereTold}
use Rattle.command_runs.specs.World.{World, once_read}
use Rattle.command_runs.specs.declared.no_game.NoGame.TheVariants.{Memory as NoMemory}
use Rattle.command_runs.specs.declared.no_game.NoGame.{NoGame}
use Rattle.command_runs.specs.declared.status.Status.{Status}
use Rattle.command_runs.specs.declared.status.Status.TheVariants.{Memory, ReadFault}
use Rattle.command_runs.proofs.OneGameLemmas.{all_were_read}
use Rattle.cup.specs.Engines.{Engine}
use Rattle.tournament_core.specs.declared.fixtures.GameEnd.{GameEnd}
use Rattle.tournament_games.specs.Tournaments.{Terms}
use Rattle.tournament_games.specs.Waves.{TournamentRun}
use Rattle.tournament_command.specs.declared.format.Format.{Format}
use Rattle.tournament_command.specs.Formats.{terms_of}
use Rattle.tournament_command.specs.Intakes.{Intake}
use Rattle.tournament_command.specs.Reads.{IsTold, NoneRead, ReadTournamentRun}

-- the tournament that was read was played
pub begun_run : (engines others : List Engine) (f : Format) (status : Status) (before after : World) (i : Intake) (t : Terms) (ends : List GameEnd) → others ≡ engines
    → WhereTold before.sides.rest (λ input. IsTold others f input after.sides.rest i) → t ≡ terms_of engines f i.openings → ends ≡ i.ends → TournamentRun t ends status (once_read after.sides.rest before) after → ReadTournamentRun engines f status before after
begun_run engines others f status before after i t ends same told is_terms is_ends run = inl (
  i,
  record {
    told = subst (λ es. WhereTold before.sides.rest (λ input. IsTold es f input after.sides.rest i)) same told;
    played =
        subst (λ (u : Terms). TournamentRun u i.ends status (once_read after.sides.rest before) after) is_terms
        (subst (λ (es : List GameEnd). TournamentRun t es status (once_read after.sides.rest before) after) is_ends run);
  },
)

-- the input was read to its end, and memory was wanting: nothing was begun
pub none_begun : (engines others : List Engine) (f : Format) (before after : World) (i : Intake) → others ≡ engines → WhereTold before.sides.rest (λ input. IsTold others f input after.sides.rest i) → after.sides.written ≡ before.sides.written → after.engines ≡ before.engines
    → ReadTournamentRun engines f Memory before after
none_begun engines others f before after i same told unwritten unstarted = inr (
  NoMemory,
  record {
    shown = λ input is.
        let all = subst (λ es. WhereTold before.sides.rest (λ bytes. IsTold es f bytes after.sides.rest i)) same told input is in (
          lines input,
          [],
          i,
          subst (λ ls. WereRead input after.sides.rest ls) (sym (append-nil (lines input))) (all_were_read all.over),
          all.tells,
          omega arith,
        );
    told = (refl, unwritten);
    unstarted = unstarted;
  },
)

-- the input tells none
pub none_read : (engines others : List Engine) (f : Format) (status : Status) (before after : World) (none : NoGame) → others ≡ engines → NoneRead others f status before after none → ReadTournamentRun engines f status before after
none_read engines others f status before after none same is = inr (none, subst (λ es. NoneRead es f status before after none) same is)

-- a tournament that is played reads nothing
never_headed : (t : Terms) (ends : List GameEnd) (before after : World) → TournamentRun t ends ReadFault before after → ⊥
never_headed t ends before after (inl run) = run
never_headed t ends before after (inr run) = run

pub never_reads : (t : Terms) (ends : List GameEnd) (status : Status) (before after : World) → TournamentRun t ends status before after → status ≢ ReadFault
never_reads t ends status before after run e = never_headed t ends before after (subst (λ s. TournamentRun t ends s before after) e run)
