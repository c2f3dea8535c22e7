use Rattle.std.specs.declared.option.Option.{Option}
use Rattle.std.specs.Prelude.{nat_le}
use Rattle.hive_model.specs.declared.pieces.Colour.{Colour}
use Rattle.hive_model.specs.declared.pieces.Colour.TheVariants.{White, Black}
use Rattle.hive_model.specs.declared.places.Move.{Move}
use Rattle.hive_model.specs.Legal.{is_over_state}
use Rattle.hive_model.specs.Histories.{is_listed}
use Rattle.move_text.specs.declared.faults.MoveFault.{MoveFault}
use Rattle.match_core.specs.Setups.{FullSetup}
use Rattle.match_core.specs.declared.setup.Level.{Level}
use Rattle.match_core.specs.declared.setup.Level.TheVariants.{Depth, Time}
use Rattle.match_core.specs.declared.stage.Task.{Task}
use Rattle.match_core.specs.declared.stage.Task.TheVariants.{Greet, Begin, Ask, Tell}
use Rattle.match_core.specs.declared.stage.Stage.{Stage}
use Rattle.match_core.specs.declared.stage.Stage.TheVariants.{Send, Read, Before, After, Finished}
use Rattle.match_core.specs.declared.verdict.Cause.TheVariants.{Illegal, ErrLine, Flood, Broke as BrokeCause, Late}
use Rattle.match_core.specs.declared.verdict.Verdict.{Verdict}
use Rattle.match_core.specs.declared.verdict.Verdict.TheVariants.{Rules, Limit, Forfeit}
use Rattle.match_core.specs.Replies.{is_ok, is_error}
use Rattle.match_core.specs.MatchState.{MatchState, Happening, Sent, Line, TooLong, Ended, Broke, Reading, start, next, after_all, act_at, answers, position_now, go, finish, ask, judge, judge_read, decide, accept, first_line, at_stage, is_late, keep, reply_ends, hear, question, forfeit, answered, outcome_of}
use Rattle.match_core.specs.Texts.{read_of}
use Rattle.match_core.specs.Keeps.{IsFullSetup}
use Rattle.match_core.specs.Fairness.{Answering}
use Rattle.std.proofs.Common.{◌≡◌, ◌≤◌, ℕ, false, cond, List, [], ◌∷◌, length, refl, sym, ◌∙◌, None, Some, IsTrue, arith, subst, Ok, Err}
use Rattle.std.specs.declared.result.Result.{Result}
use Rattle.match_core.proofs.Fair.{either}
use Rattle.match_core.proofs.Follows.{next_is, open_at, bounded_start}
use Rattle.match_runner.specs.Wires.{Watch, Wire}
use Rattle.match_runner.proofs.Endings.{by_end}
use Rattle.match_runner.specs.Turns.{Side, KeepsAt}
use Rattle.match_runner.specs.Runs.{FinalRun, Run, KeepTime, LateIn}
use Rattle.match_core.specs.Plays.{has_verdict, IsBounded}
use Rattle.match_core.proofs.Falls.{matches_near_their_end}
use Rattle.match_runner.proofs.Causes.{cut_verdict}

abbrev InIt : ℕ → ℕ → ℕ → Type 0
InIt asked c0 c = (c0 ≤ asked) × (asked ≤ c)

abbrev IfTimed : Level → Type 0 → Type 0
IfTimed (Depth depth) P = Unit {0}
IfTimed (Time budget margin) P = P

abbrev AskedJob : Task → Level → ℕ → ℕ → ℕ → Type 0
AskedJob Greet level asked c0 c = Unit {0}
AskedJob Begin level asked c0 c = Unit {0}
AskedJob Ask level asked c0 c = IfTimed level (InIt asked c0 c)
AskedJob (Tell m) level asked c0 c = Unit {0}

abbrev AskedIn : Stage → Level → ℕ → ℕ → ℕ → Type 0
AskedIn (Send job side) level asked c0 c = AskedJob job level asked c0 c
AskedIn (Read job side) level asked c0 c = AskedJob job level asked c0 c
AskedIn Before level asked c0 c = Unit {0}
AskedIn After level asked c0 c = InIt asked c0 c
AskedIn Finished level asked c0 c = Unit {0}

-- the readings of a match, if the clock's last reading was c0 at the start and is c now
record Fine (t : MatchState) (c0 c : ℕ) : Type 0 where
  late : LateIn t.verdict c0 c
  asked : AskedIn t.stage t.setup.level t.asked c0 c

no_late : (v : Option Verdict) (c0 c : ℕ) → false ≡ has_verdict v → LateIn v c0 c
no_late None c0 c e = tt
no_late (Some v) c0 c e = absurd (cc)

if_timed : (level : Level) (P : Type 0) → P → IfTimed level P
if_timed (Depth depth) P p = tt
if_timed (Time budget margin) P p = p

asks_at : (s : MatchState) (level : Level) (side : Colour) (c0 c : ℕ) → s.setup.level ≡ level → false ≡ has_verdict s.verdict → Fine (go s (question level side)) c0 c
asks_at s (Depth depth) side c0 c e v = record { late = no_late s.verdict c0 c v; asked = rw e tt }
asks_at s (Time budget margin) side c0 c e v = record { late = no_late s.verdict c0 c v; asked = tt }

asks : (s : MatchState) (c0 c : ℕ) → false ≡ has_verdict s.verdict → Fine (ask s) c0 c
unfolding ask
asks s c0 c v = asks_at s s.setup.level (position_now s).side c0 c refl v

decides : (s : MatchState) (c0 c : ℕ) → false ≡ has_verdict s.verdict → Fine (decide s) c0 c
unfolding decide
decides s c0 c v =
    let P : MatchState → Type 0 = λ t. Fine t c0 c in
    either P (is_over_state (outcome_of s)) (finish s (Rules (outcome_of s))) (cond (nat_le s.setup.limit (length s.moves)) (finish s Limit) (ask s)) (λ e. record { late = tt; asked = tt })
    (λ e. either P (nat_le s.setup.limit (length s.moves)) (finish s Limit) (ask s) (λ f. record { late = tt; asked = tt }) (λ f. asks s c0 c v))

judges_as : (s : MatchState) (line : List ℕ) (o : Result Move MoveFault) (c0 c : ℕ) → false ≡ has_verdict s.verdict → Fine (judge_read s line o) c0 c
judges_as s line (Err fault) c0 c v = record { late = tt; asked = tt }
judges_as s line (Ok m) c0 c v =
    let P : MatchState → Type 0 = λ t. Fine t c0 c in
    either P (is_listed (position_now s) m) (accept s m) (forfeit s (position_now s).side (Illegal line)) (λ e. record { late = no_late s.verdict c0 c v; asked = tt }) (λ e. record { late = tt; asked = tt })

judges : (s : MatchState) (c0 c : ℕ) → false ≡ has_verdict s.verdict → Fine (judge s) c0 c
unfolding judge
judges s c0 c v = judges_as s (first_line s) (read_of s.setup.game_type (position_now s).board (first_line s)) c0 c v

answers_as : (s : MatchState) (level : Level) (c0 c : ℕ) → IfTimed level (InIt s.asked c0 c) → false ≡ has_verdict s.verdict → Fine (answered s level) c0 c
answers_as s (Depth depth) c0 c q v = judges s c0 c v
answers_as s (Time budget margin) c0 c q v = record { late = no_late s.verdict c0 c v; asked = q }

ends_reply : (s : MatchState) (job : Task) (side : Colour) (c0 c : ℕ) → AskedJob job s.setup.level s.asked c0 c → false ≡ has_verdict s.verdict → Fine (reply_ends s job side) c0 c
ends_reply s Greet White c0 c q v = record { late = no_late s.verdict c0 c v; asked = tt }
ends_reply s Greet Black c0 c q v = record { late = no_late s.verdict c0 c v; asked = tt }
ends_reply s Begin White c0 c q v = record { late = no_late s.verdict c0 c v; asked = tt }
ends_reply s Begin Black c0 c q v = decides s c0 c v
ends_reply s Ask side c0 c q v = answers_as s s.setup.level c0 c q v
ends_reply s (Tell m) White c0 c q v = record { late = no_late s.verdict c0 c v; asked = tt }
ends_reply s (Tell m) Black c0 c q v = decides s c0 c v

hears : (s : MatchState) (job : Task) (side : Colour) (line : List ℕ) (c0 c : ℕ) → AskedJob job s.setup.level s.asked c0 c → false ≡ has_verdict s.verdict → Fine (hear s job side line) c0 c
hears s job side line c0 c q v =
    let P : MatchState → Type 0 = λ t. Fine t c0 c in
    either P (is_ok line) (reply_ends s job side) (cond (is_error line) (forfeit s side (ErrLine line)) (cond (nat_le 1000 s.count) (forfeit s side (Flood 1001)) (keep s (Read job side) line)))
    (λ e. ends_reply s job side c0 c q v)
    (λ e. either P (is_error line) (forfeit s side (ErrLine line)) (cond (nat_le 1000 s.count) (forfeit s side (Flood 1001)) (keep s (Read job side) line)) (λ f. record { late = tt; asked = tt })
    (λ f. either P (nat_le 1000 s.count) (forfeit s side (Flood 1001)) (keep s (Read job side) line) (λ k. record { late = tt; asked = tt }) (λ k. record { late = no_late s.verdict c0 c v; asked = q })))

goes_at : (stage : Stage) (s : MatchState) (h : Happening) (c0 c mid : ℕ) → c0 ≤ c → AskedIn stage s.setup.level s.asked c0 c → false ≡ has_verdict s.verdict → KeepsAt h c mid → IsTrue (answers (act_at stage) h) → Fine (at_stage s stage h) c0 mid
goes_at (Send job side) s Sent c0 c mid l q v k w = rw k (record { late = no_late s.verdict c0 c v; asked = q })
goes_at (Send job side) s Broke c0 c mid l q v k w = record { late = tt; asked = tt }
goes_at (Send job side) s (Line bytes) c0 c mid l q v k w = absurd (cc)
goes_at (Send job side) s TooLong c0 c mid l q v k w = absurd (cc)
goes_at (Send job side) s Ended c0 c mid l q v k w = absurd (cc)
goes_at (Send job side) s (Reading at) c0 c mid l q v k w = absurd (cc)
goes_at (Read job side) s (Line bytes) c0 c mid l q v k w = rw k (hears s job side bytes c0 c q v)
goes_at (Read job side) s TooLong c0 c mid l q v k w = record { late = tt; asked = tt }
goes_at (Read job side) s Ended c0 c mid l q v k w = record { late = tt; asked = tt }
goes_at (Read job side) s Broke c0 c mid l q v k w = record { late = tt; asked = tt }
goes_at (Read job side) s Sent c0 c mid l q v k w = absurd (cc)
goes_at (Read job side) s (Reading at) c0 c mid l q v k w = absurd (cc)
goes_at Before s (Reading at) c0 c mid l q v (later, k) w = rw k (record { late = no_late s.verdict c0 at v; asked = if_timed s.setup.level (InIt at c0 at) (omega (arith, l, later), omega arith) })
goes_at Before s Sent c0 c mid l q v k w = absurd (cc)
goes_at Before s Broke c0 c mid l q v k w = absurd (cc)
goes_at Before s (Line bytes) c0 c mid l q v k w = absurd (cc)
goes_at Before s TooLong c0 c mid l q v k w = absurd (cc)
goes_at Before s Ended c0 c mid l q v k w = absurd (cc)
goes_at After s (Reading at) c0 c mid l q v (later, k) w =
    let P : MatchState → Type 0 = λ t. Fine t c0 mid in
    let under : s.asked ≤ at = let x = q.1 in omega (arith, x, later) in
    either P (is_late s at) (forfeit s (position_now s).side (Late s.asked at)) (judge s) (λ e. record { late = (q.0, under, sym k); asked = tt }) (λ e. judges s c0 mid v)
goes_at After s Sent c0 c mid l q v k w = absurd (cc)
goes_at After s Broke c0 c mid l q v k w = absurd (cc)
goes_at After s (Line bytes) c0 c mid l q v k w = absurd (cc)
goes_at After s TooLong c0 c mid l q v k w = absurd (cc)
goes_at After s Ended c0 c mid l q v k w = absurd (cc)
goes_at Finished s h c0 c mid l q v k w = absurd (cc)

keeps_later : (h : Happening) (c mid : ℕ) → KeepsAt h c mid → c ≤ mid
keeps_later Sent c mid k = omega (arith, k)
keeps_later (Line bytes) c mid k = omega (arith, k)
keeps_later TooLong c mid k = omega (arith, k)
keeps_later Ended c mid k = omega (arith, k)
keeps_later Broke c mid k = omega (arith, k)
keeps_later (Reading at) c mid (l, k) = omega (arith, l, k)

along : (hs : List Happening) (s : MatchState) (c0 c now : ℕ) → IsBounded s → c0 ≤ c → Fine s c0 c → Answering s hs → KeepTime c hs now → LateIn (after_all s hs).verdict c0 now
along [] s c0 c now b l f a e = rw e f.late
along (h ∷ hs) s c0 c now b l f (t, a) (mid, k, g) =
    let v : false ≡ has_verdict s.verdict = sym (open_at s.stage h t) ∙ b.judged in
    let n : Fine (next s h) c0 mid = subst (λ x. Fine x c0 mid) (sym (next_is s h)) (goes_at s.stage s h c0 c mid l f.asked v k t) in
    let later : c0 ≤ mid = let x = keeps_later h c mid k in omega (arith, l, x) in
    along hs (next s h) c0 mid now (matches_near_their_end s h b t).0 later n a g

late_run : (setup : FullSetup) (t : MatchState) (w0 w b0 b : Side) (r0 r : Watch) → IsFullSetup setup → Run setup t w0 w b0 b r0 r → LateIn t.verdict r0.last r.last
late_run setup t w0 w b0 b r0 r is (hs, run) =
    rw run.here (along hs (start setup) r0.last r0.last r.last (bounded_start setup is) (omega arith) (record { late = tt; asked = tt }) run.fits run.time)

late_broke : (v : Option Verdict) (side : Colour) (c0 c : ℕ) → v ≡ Some (Forfeit side BrokeCause) → LateIn v c0 c
late_broke v side c0 c e = rw e tt

pub late_final : (setup : FullSetup) (t : MatchState) (w0 w b0 b : Wire) (r0 r : Watch) → IsFullSetup setup → FinalRun setup t w0 w b0 b r0 r → LateIn t.verdict r0.last r.last
late_final setup t w0 w b0 b r0 r is final =
    by_end setup t _ _ _ _ r0 r (LateIn t.verdict r0.last r.last) final.ran (λ whole. late_run setup t _ _ _ _ r0 r is whole.0)
    (λ side cut. late_broke t.verdict side r0.last r.last (cut_verdict side setup t _ _ _ _ _ _ cut))
