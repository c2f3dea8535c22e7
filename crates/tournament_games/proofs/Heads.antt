-- The head of a tournament, written before anything else.
use Rattle.std.proofs.Common.{◌≡◌, ◌≢◌, ◌<◌, ℕ, List, length, take, refl, ap, sym, ◌∙◌, subst, inl, inr}
use Rattle.io_edge.specs.Outside.{Told, behind}
use Rattle.io_edge.specs.Starts.{Engines}
use Rattle.command_runs.specs.Answered.{WritesAs}
use Rattle.command_runs.specs.World.{Times, World, sides, world}
use Rattle.command_runs.specs.declared.status.Status.{Status}
use Rattle.command_runs.specs.declared.status.Status.TheVariants.{Done, WriteFault}
use Rattle.tournament_core.specs.declared.fixtures.GameEnd.{GameEnd}
use Rattle.tournament_games.specs.Tournaments.{Terms, head_line}
use Rattle.tournament_games.specs.Waves.{HeadedRun, TournamentRun}

-- the head was written, and the games were played after it
pub headed : (t : Terms) (ends : List GameEnd) (status : Status) (rest : Told) (times : Times) (engines : Engines) (w0 w : Told) (text : List ℕ) (after : World) → text ≡ head_line t → WritesAs text Done Done w0 w → HeadedRun t ends status (world (sides rest w) times engines) after
    → TournamentRun t ends status (world (sides rest w0) times engines) after
headed t ends status rest times engines w0 w text after is (inl (done, wrote)) run =
    inl (subst (λ (told : Told). HeadedRun t ends status (world (sides rest told) times engines) after) (wrote ∙ ap (behind w0) is) run)
headed t ends status rest times engines w0 w text after is (inr (fault, cut)) run = absurd (cc)

-- it was not written whole
pub headless : (t : Terms) (ends : List GameEnd) (status : Status) (rest : Told) (times : Times) (engines : Engines) (w0 w : Told) (text : List ℕ) → text ≡ head_line t → status ≢ Done → WritesAs text Done status w0 w
    → TournamentRun t ends status (world (sides rest w0) times engines) (world (sides rest w) times engines)
headless t ends status rest times engines w0 w text is other (inl (done, wrote)) = absurd (other done)
headless t ends status rest times engines w0 w text is other (inr (fault, (n, part, wrote))) =
    subst (λ s. TournamentRun t ends s (world (sides rest w0) times engines) (world (sides rest w) times engines)) (sym fault)
    (subst (λ (bytes : List ℕ). (n < length bytes) → (w ≡ behind w0 (take n bytes)) → TournamentRun t ends WriteFault (world (sides rest w0) times engines) (world (sides rest w) times engines)) (sym is)
    (λ part2 wrote2. inr (n, record { part = part2; wrote = wrote2; unstarted = refl })) part wrote)
