-- If engines are asked to a depth, no answer is late.
use Rattle.std.specs.Prelude.{nat_le}
use Rattle.std.proofs.Common.{ℕ, cond, List, [], ◌∷◌, length, subst, sym, Result, Ok, Err, Some}
use Rattle.std.specs.Bool.{⊤}
use Rattle.hive_model.specs.declared.pieces.Colour.{Colour}
use Rattle.hive_model.specs.declared.pieces.Colour.TheVariants.{White, Black}
use Rattle.hive_model.specs.declared.places.Move.{Move}
use Rattle.hive_model.specs.Legal.{is_over_state}
use Rattle.hive_model.specs.Histories.{is_listed}
use Rattle.move_text.specs.declared.faults.MoveFault.{MoveFault}
use Rattle.match_core.specs.Setups.{FullSetup}
use Rattle.match_core.specs.declared.setup.Level.{Level}
use Rattle.match_core.specs.declared.setup.Level.TheVariants.{Depth, Time}
use Rattle.match_core.specs.declared.stage.Task.{Task}
use Rattle.match_core.specs.declared.stage.Task.TheVariants.{Greet, Begin, Ask, Tell}
use Rattle.match_core.specs.declared.stage.Stage.{Stage}
use Rattle.match_core.specs.declared.stage.Stage.TheVariants.{Send, Read, Before, After, Finished}
use Rattle.match_core.specs.declared.verdict.Cause.TheVariants.{NotAMove, Illegal, ErrLine, Flood, LongLine, Ended as EndedCause, Broke as BrokeCause}
use Rattle.match_core.specs.declared.verdict.Verdict.{Verdict}
use Rattle.match_core.specs.declared.verdict.Verdict.TheVariants.{Rules, Limit, Forfeit}
use Rattle.match_core.specs.Replies.{is_ok, is_error}
use Rattle.match_core.specs.Texts.{read_of}
use Rattle.match_core.specs.MatchState.{MatchState, Happening, Sent, Line, TooLong, Ended, Broke, Reading, start, next, after_all, position_now, go, finish, ask, judge, judge_read, decide, accept, first_line, at_stage, keep, reply_ends, hear, question, forfeit, answered, outcome_of}
use Rattle.match_core.proofs.Fair.{either}
use Rattle.match_runner.specs.Wires.{Watch}
use Rattle.match_runner.specs.Turns.{Side}
use Rattle.match_runner.proofs.Endings.{by_end}
use Rattle.match_runner.specs.Runs.{Ran, Run, Cut, IsLate}
use Rattle.cup.specs.Played.{IsDepth}

-- a stage at which the clock is not read
abbrev IsTimeless : Stage → Type 0
IsTimeless (Send job side) = ⊤
IsTimeless (Read job side) = ⊤
IsTimeless Before = ⊥
IsTimeless After = ⊥
IsTimeless Finished = ⊤

record InTime (s : MatchState) : Type 0 where
  pub depth : IsDepth s.setup.level
  pub place : IsTimeless s.stage
  pub verdict : IsLate s.verdict → ⊥

finishes : (s : MatchState) (v : Verdict) → (IsLate (Some v) → ⊥) → InTime s → InTime (finish s v)
finishes s v late t = record { depth = t.depth; place = tt; verdict = late }

asks_at : (s : MatchState) (level : Level) (side : Colour) → IsDepth level → InTime s → InTime (go s (question level side))
asks_at s (Depth depth) side d t = record { depth = t.depth; place = tt; verdict = t.verdict }
asks_at s (Time budget margin) side d t = absurd d

asks : (s : MatchState) → InTime s → InTime (ask s)
unfolding ask
asks s t = asks_at s s.setup.level (position_now s).side t.depth t

decides : (s : MatchState) → InTime s → InTime (decide s)
unfolding decide
decides s t =
    either InTime (is_over_state (outcome_of s)) (finish s (Rules (outcome_of s))) (cond (nat_le s.setup.limit (length s.moves)) (finish s Limit) (ask s))
    (λ e. finishes s (Rules (outcome_of s)) (λ x. x) t)
    (λ e. either InTime (nat_le s.setup.limit (length s.moves)) (finish s Limit) (ask s) (λ f. finishes s Limit (λ x. x) t) (λ f. asks s t))

judges_as : (s : MatchState) (line : List ℕ) (o : Result Move MoveFault) → InTime s → InTime (judge_read s line o)
judges_as s line (Err fault) t = finishes s (Forfeit (position_now s).side (NotAMove line)) (λ x. x) t
judges_as s line (Ok m) t =
    either InTime (is_listed (position_now s) m) (accept s m) (forfeit s (position_now s).side (Illegal line))
    (λ e. record { depth = t.depth; place = tt; verdict = t.verdict })
    (λ e. finishes s (Forfeit (position_now s).side (Illegal line)) (λ x. x) t)

judges : (s : MatchState) → InTime s → InTime (judge s)
unfolding judge
judges s t = judges_as s (first_line s) (read_of s.setup.game_type (position_now s).board (first_line s)) t

answers_as : (s : MatchState) (level : Level) → IsDepth level → InTime s → InTime (answered s level)
answers_as s (Depth depth) d t = judges s t
answers_as s (Time budget margin) d t = absurd d

ends_reply : (s : MatchState) (job : Task) (side : Colour) → InTime s → InTime (reply_ends s job side)
ends_reply s Greet White t = record { depth = t.depth; place = tt; verdict = t.verdict }
ends_reply s Greet Black t = record { depth = t.depth; place = tt; verdict = t.verdict }
ends_reply s Begin White t = record { depth = t.depth; place = tt; verdict = t.verdict }
ends_reply s Begin Black t = decides s t
ends_reply s Ask side t = answers_as s s.setup.level t.depth t
ends_reply s (Tell m) White t = record { depth = t.depth; place = tt; verdict = t.verdict }
ends_reply s (Tell m) Black t = decides s t

hears : (s : MatchState) (job : Task) (side : Colour) (line : List ℕ) → InTime s → InTime (hear s job side line)
hears s job side line t =
    either InTime (is_ok line) (reply_ends s job side) (cond (is_error line) (forfeit s side (ErrLine line)) (cond (nat_le 1000 s.count) (forfeit s side (Flood 1001)) (keep s (Read job side) line)))
    (λ e. ends_reply s job side t)
    (λ e. either InTime (is_error line) (forfeit s side (ErrLine line)) (cond (nat_le 1000 s.count) (forfeit s side (Flood 1001)) (keep s (Read job side) line))
    (λ g. finishes s (Forfeit side (ErrLine line)) (λ x. x) t)
    (λ g. either InTime (nat_le 1000 s.count) (forfeit s side (Flood 1001)) (keep s (Read job side) line)
    (λ k. finishes s (Forfeit side (Flood 1001)) (λ x. x) t)
    (λ k. record { depth = t.depth; place = tt; verdict = t.verdict })))

stays_at : (stage : Stage) (s : MatchState) (h : Happening) → IsTimeless stage → InTime s → InTime (at_stage s stage h)
stays_at (Send job side) s Sent p t = record { depth = t.depth; place = tt; verdict = t.verdict }
stays_at (Send job side) s Broke p t = finishes s (Forfeit side BrokeCause) (λ x. x) t
stays_at (Send job side) s (Line bytes) p t = t
stays_at (Send job side) s TooLong p t = t
stays_at (Send job side) s Ended p t = t
stays_at (Send job side) s (Reading at) p t = t
stays_at (Read job side) s (Line bytes) p t = hears s job side bytes t
stays_at (Read job side) s TooLong p t = finishes s (Forfeit side LongLine) (λ x. x) t
stays_at (Read job side) s Ended p t = finishes s (Forfeit side EndedCause) (λ x. x) t
stays_at (Read job side) s Broke p t = finishes s (Forfeit side BrokeCause) (λ x. x) t
stays_at (Read job side) s Sent p t = t
stays_at (Read job side) s (Reading at) p t = t
stays_at Before s h p t = absurd p
stays_at After s h p t = absurd p
stays_at Finished s h p t = t

stays : (s : MatchState) (h : Happening) → InTime s → InTime (next s h)
unfolding next
stays s h t = stays_at s.stage s h t.place t

stays_on : (hs : List Happening) (s : MatchState) → InTime s → InTime (after_all s hs)
stays_on [] s t = t
stays_on (h ∷ hs) s t = stays_on hs (next s h) (stays s h t)

starts : (setup : FullSetup) → IsDepth setup.level → InTime (start setup)
starts setup d = record { depth = d; place = tt; verdict = λ x. x }

comes : (setup : FullSetup) (s : MatchState) (w0 w b0 b : Side) (r0 r : Watch) → IsDepth setup.level → Run setup s w0 w b0 b r0 r → InTime s
comes setup s w0 w b0 b r0 r d run = subst InTime (sym run.1.here) (stays_on run.0 (start setup) (starts setup d))

breaks : (side : Colour) (setup : FullSetup) (t : MatchState) (w0 w b0 b : Side) (r0 r : Watch) → IsDepth setup.level → Cut side setup t w0 w b0 b r0 r → InTime t
breaks side setup t w0 w b0 b r0 r d cut = subst InTime (sym cut.4.next_is) (stays cut.0 Broke (comes setup cut.0 w0 cut.1 b0 cut.2 r0 r d cut.3))

-- a match to a depth that was run never ends by a late answer
pub never-late : (setup : FullSetup) (t : MatchState) (w0 w b0 b : Side) (r0 r : Watch) (white black : Type 0) → IsDepth setup.level → Ran setup t w0 w b0 b r0 r white black → IsLate t.verdict → ⊥
never-late setup t w0 w b0 b r0 r white black d ran =
    (by_end setup t w0 w b0 b r0 r (InTime t) ran (λ whole. comes setup t w0 w b0 b r0 r d whole.0) (λ side cut. breaks side setup t w0 w b0 b r0 r d cut)).verdict
