-- If nothing fails, a run is done.
use Rattle.std.proofs.Common.{◌≡◌, ◌⊎◌, ℕ, Bool, true, false, ◌||◌, List, [], ◌∷◌, map, refl, ap, sym, ◌∙◌, inl, inr}
use Rattle.std.specs.List.{list_any}
use Rattle.io_edge.specs.Lines.{Line, lines}
use Rattle.line_services.specs.Times.{depths}
use Rattle.line_services.specs.Service.{HasExit, Service, joined, last_of, replies, searches}
use Rattle.line_services.specs.ServiceRun.{EndsAs}
use Rattle.line_services.specs.Session.{session}
use Rattle.line_services.specs.Replay.{refuses, replay_answer, replays}
use Rattle.line_services.specs.Laws.{Replays, ReplaysAreDone, SessionsAreDone}
use Rattle.command_runs.specs.Served.{Served}
use Rattle.command_runs.specs.World.{World}
use Rattle.command_runs.proofs.ServedLemmas.{no_failure, not_full}
use Rattle.command_runs.specs.declared.status.Status.{Status}
use Rattle.command_runs.specs.declared.status.Status.TheVariants.{Done, Refused, Usage, ReadFault, WriteFault, SpawnFault, BadInput, Memory, InputFull}

-- Services

both : (b : Bool) → b ≡ true → b ≡ false → ⊥
both b e f = cc

-- the run of a service that refuses no line of its input
ends_done : {S : Type 0} (v : Service S) (status : Status) (before after : World) → EndsAs v status before after
    → (input : List ℕ) → Served status before.sides input
    → ((left : List ℕ) → v.has_refused (last_of v v.begins left (lines input)) ≡ false)
    → (status ≡ Done) ⊎ (status ≡ Memory)
ends_done v Done before after run input served none = inl refl
ends_done v Memory before after run input served none = inr refl
ends_done v Refused before after (last, refused, ends) input served none =
    let (entries, wrote) = ends input served.told in
    absurd (both (v.has_refused last) refused (ap v.has_refused (sym wrote.stands) ∙ none (depths entries)))
ends_done v ReadFault before after run input served none = absurd (no_failure served.reads refl)
ends_done v WriteFault before after run input served none = absurd (no_failure served.writes refl)
ends_done v InputFull before after run input served none =
    let (entries, bytes, left, full, wrote) = run input served.told in
    absurd (not_full input bytes left after.sides.rest wrote.was_read full served.below)
ends_done v Usage before after run input served none = absurd run
ends_done v SpawnFault before after run input served none = absurd run
ends_done v BadInput before after run input served none = absurd run

pub sessions_done : SessionsAreDone
sessions_done = λ status before after run input served. ends_done session status before after run.ends input served (λ left. refl)

-- Replays

-- the replies to lines are their answers
replay_replies : (r b : Bool) (left : List ℕ) (ls : List Line) → replies (replays r) b left ls ≡ map (replay_answer r) ls
replay_replies r b left [] = refl
replay_replies r b left (line ∷ ls) = ap (λ ts. replay_answer r line ∷ ts) (replay_replies r (b || refuses r line) left ls)

or_false : (b : Bool) → b ≡ (b || false)
or_false true = refl
or_false false = refl

or_or : (a b c : Bool) → ((a || b) || c) ≡ (a || (b || c))
or_or true b c = refl
or_or false b c = refl

-- a line was refused before, or is refused among these
replay_last : (r b : Bool) (left : List ℕ) (ls : List Line) → last_of (replays r) b left ls ≡ (b || list_any (refuses r) ls)
replay_last r b left [] = or_false b
replay_last r b left (line ∷ ls) = replay_last r (b || refuses r line) left ls ∙ or_or b (refuses r line) (list_any (refuses r) ls)

-- no line ends a replay
replay_open : (r b : Bool) (left : List ℕ) (ls : List Line) → ¬ HasExit (replays r) b left ls
replay_open r b left [] = λ h. h
replay_open r b left (line ∷ ls) = replay_open r (b || refuses r line) left ls

-- no line asks for a search
replay_asks : (r b : Bool) (left : List ℕ) (ls : List Line) → searches (replays r) b left ls ≡ []
replay_asks r b left [] = refl
replay_asks r b left (line ∷ ls) = replay_asks r (b || refuses r line) left ls

pub replay_of_lines : (r : Bool) (left : List ℕ) (ls : List Line) → Replays r left ls
replay_of_lines r left ls = record {
  writes = ap joined (replay_replies r false left ls);
  refuses = replay_last r false left ls;
  goes_on = replay_open r false left ls;
  asks = replay_asks r false left ls;
}

pub replays_done : ReplaysAreDone
replays_done = λ r status before after run input served none.
    ends_done (replays r) status before after run.ends input served (λ left. (replay_of_lines r left (lines input)).refuses ∙ none)
