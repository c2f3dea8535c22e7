-- A side forfeits for a late answer only if its answer was late.
use Rattle.std.specs.declared.option.Option.{Option}
use Rattle.std.specs.declared.result.Result.{Result}
use Rattle.std.specs.Prelude.{nat_le, nat_lt}
use Rattle.std.proofs.Common.{◌≡◌, ◌⊎◌, inl, inr, ℕ, ◌+◌, ◌<◌, true, false, cond, List, [], ◌∷◌, ◌++◌, length, refl, ap, sym, ◌∙◌, Some, IsTrue, subst, arith, Ok, Err}
use Rattle.std.proofs.lemmas.Bool.Decides.{nat_tests}
use Rattle.std.proofs.lemmas.Option.{same_Some}
use Rattle.hive_model.specs.declared.pieces.Colour.{Colour}
use Rattle.hive_model.specs.declared.pieces.Colour.TheVariants.{White, Black}
use Rattle.hive_model.specs.declared.places.Move.{Move}
use Rattle.hive_model.specs.Legal.{is_over_state}
use Rattle.hive_model.specs.Histories.{is_listed}
use Rattle.move_text.specs.declared.faults.MoveFault.{MoveFault}
use Rattle.match_core.specs.Setups.{FullSetup}
use Rattle.match_core.specs.declared.setup.Level.{Level}
use Rattle.match_core.specs.declared.setup.Level.TheVariants.{Depth, Time}
use Rattle.match_core.specs.declared.stage.Task.{Task}
use Rattle.match_core.specs.declared.stage.Task.TheVariants.{Greet, Begin, Ask, Tell}
use Rattle.match_core.specs.declared.stage.Stage.{Stage}
use Rattle.match_core.specs.declared.stage.Stage.TheVariants.{Send, Read, Before, After, Finished}
use Rattle.match_core.specs.declared.stage.Act.TheVariants.{Finish}
use Rattle.match_core.specs.declared.verdict.Cause.TheVariants.{NotAMove, Illegal, ErrLine, Flood, LongLine, Ended as EndedCause, Broke as BrokeCause, Late}
use Rattle.match_core.specs.declared.verdict.Verdict.{Verdict}
use Rattle.match_core.specs.declared.verdict.Verdict.TheVariants.{Rules, Limit, Forfeit}
use Rattle.match_core.specs.Replies.{is_ok, is_error}
use Rattle.match_core.specs.Texts.{read_of}
use Rattle.match_core.specs.Fairness.{Answering}
use Rattle.match_core.specs.Lates.{IsLateBy, MatchesTellLates}
use Rattle.match_core.specs.MatchState.{MatchState, Happening, Sent, Line, TooLong, Ended, Broke, Reading, start, match_after, next, after_all, act_at, answers, position_now, go, finish, ask, judge, judge_read, decide, accept, first_line, at_stage, is_late, latest, keep, reply_ends, hear, question, forfeit, answered, outcome_of}
use Rattle.match_core.proofs.Fair.{either}
use Rattle.match_core.proofs.Follows.{next_is}

-- no side forfeits for a late answer
abbrev pub IsQuiet : Option Verdict → Type 0
IsQuiet v = (side : Colour) (asked answered : ℕ) → v ≡ Some (Forfeit side (Late asked answered)) → ⊥

-- sides are asked with a time
abbrev pub IsTimed : Level → Type 0
IsTimed level = (budget : ℕ) × (margin : ℕ) × (level ≡ Time budget margin)

-- if the clock is read after a reply, sides are asked with a time
abbrev pub TimedAt : Stage → Level → Type 0
TimedAt (Send job side) level = Unit {0}
TimedAt (Read job side) level = Unit {0}
TimedAt Before level = Unit {0}
TimedAt After level = IsTimed level
TimedAt Finished level = Unit {0}

-- no answer was late so far
pub record Calm (t : MatchState) : Type 0 where
  pub quiet : IsQuiet t.verdict
  pub timed : TimedAt t.stage t.setup.level

finishes : (s : MatchState) (v : Verdict) → ((side : Colour) (asked answered : ℕ) → v ≡ Forfeit side (Late asked answered) → ⊥) → Calm (finish s v)
finishes s v f = record { quiet = λ side asked answered e. f side asked answered (same_Some _ _ e); timed = tt }

asks_at : (s : MatchState) (level : Level) (side : Colour) → IsQuiet s.verdict → Calm (go s (question level side))
asks_at s (Depth depth) side q = record { quiet = q; timed = tt }
asks_at s (Time budget margin) side q = record { quiet = q; timed = tt }

asks : (s : MatchState) → IsQuiet s.verdict → Calm (ask s)
unfolding ask
asks s q = asks_at s s.setup.level (position_now s).side q

decides : (s : MatchState) → IsQuiet s.verdict → Calm (decide s)
unfolding decide
decides s q =
    either Calm (is_over_state (outcome_of s)) (finish s (Rules (outcome_of s))) (cond (nat_le s.setup.limit (length s.moves)) (finish s Limit) (ask s)) (λ e. finishes s (Rules (outcome_of s)) (λ side m n f. cc))
    (λ e. either Calm (nat_le s.setup.limit (length s.moves)) (finish s Limit) (ask s) (λ f. finishes s Limit (λ side m n g. cc)) (λ f. asks s q))

judges_as : (s : MatchState) (line : List ℕ) (o : Result Move MoveFault) → IsQuiet s.verdict → Calm (judge_read s line o)
judges_as s line (Err fault) q = finishes s (Forfeit (position_now s).side (NotAMove line)) (λ side m n f. cc)
judges_as s line (Ok m) q =
    either Calm (is_listed (position_now s) m) (accept s m) (forfeit s (position_now s).side (Illegal line)) (λ e. record { quiet = q; timed = tt }) (λ e. finishes s (Forfeit (position_now s).side (Illegal line)) (λ side m n f. cc))

judges : (s : MatchState) → IsQuiet s.verdict → Calm (judge s)
unfolding judge
judges s q = judges_as s (first_line s) (read_of s.setup.game_type (position_now s).board (first_line s)) q

answers_as : (s : MatchState) (level : Level) → s.setup.level ≡ level → IsQuiet s.verdict → Calm (answered s level)
answers_as s (Depth depth) e q = judges s q
answers_as s (Time budget margin) e q = record { quiet = q; timed = (budget, margin, e) }

ends_reply : (s : MatchState) (job : Task) (side : Colour) → IsQuiet s.verdict → Calm (reply_ends s job side)
ends_reply s Greet White q = record { quiet = q; timed = tt }
ends_reply s Greet Black q = record { quiet = q; timed = tt }
ends_reply s Begin White q = record { quiet = q; timed = tt }
ends_reply s Begin Black q = decides s q
ends_reply s Ask side q = answers_as s s.setup.level refl q
ends_reply s (Tell m) White q = record { quiet = q; timed = tt }
ends_reply s (Tell m) Black q = decides s q

hears : (s : MatchState) (job : Task) (side : Colour) (line : List ℕ) → IsQuiet s.verdict → Calm (hear s job side line)
hears s job side line q =
    either Calm (is_ok line) (reply_ends s job side) (cond (is_error line) (forfeit s side (ErrLine line)) (cond (nat_le 1000 s.count) (forfeit s side (Flood 1001)) (keep s (Read job side) line)))
    (λ e. ends_reply s job side q)
    (λ e. either Calm (is_error line) (forfeit s side (ErrLine line)) (cond (nat_le 1000 s.count) (forfeit s side (Flood 1001)) (keep s (Read job side) line)) (λ f. finishes s (Forfeit side (ErrLine line)) (λ at m n g. cc))
    (λ f. either Calm (nat_le 1000 s.count) (forfeit s side (Flood 1001)) (keep s (Read job side) line) (λ k. finishes s (Forfeit side (Flood 1001)) (λ at m n g. cc)) (λ k. record { quiet = q; timed = tt })))

-- the clock is read after a reply, and its answer is late
abbrev IsPast : Stage → MatchState → Happening → Type 0
IsPast After s (Reading at) = is_late s at ≡ true
IsPast After s Sent = ⊥
IsPast After s (Line bytes) = ⊥
IsPast After s TooLong = ⊥
IsPast After s Ended = ⊥
IsPast After s Broke = ⊥
IsPast (Send job side) s h = ⊥
IsPast (Read job side) s h = ⊥
IsPast Before s h = ⊥
IsPast Finished s h = ⊥

goes_at : (stage : Stage) (s : MatchState) (h : Happening) → IsTrue (answers (act_at stage) h) → IsQuiet s.verdict → IsPast stage s h ⊎ Calm (at_stage s stage h)
goes_at (Send job side) s Sent w q = inr (record { quiet = q; timed = tt })
goes_at (Send job side) s Broke w q = inr (finishes s (Forfeit side BrokeCause) (λ at m n g. cc))
goes_at (Send job side) s (Line bytes) w q = absurd (cc)
goes_at (Send job side) s TooLong w q = absurd (cc)
goes_at (Send job side) s Ended w q = absurd (cc)
goes_at (Send job side) s (Reading at) w q = absurd (cc)
goes_at (Read job side) s (Line bytes) w q = inr (hears s job side bytes q)
goes_at (Read job side) s TooLong w q = inr (finishes s (Forfeit side LongLine) (λ at m n g. cc))
goes_at (Read job side) s Ended w q = inr (finishes s (Forfeit side EndedCause) (λ at m n g. cc))
goes_at (Read job side) s Broke w q = inr (finishes s (Forfeit side BrokeCause) (λ at m n g. cc))
goes_at (Read job side) s Sent w q = absurd (cc)
goes_at (Read job side) s (Reading at) w q = absurd (cc)
goes_at Before s (Reading at) w q = inr (record { quiet = q; timed = tt })
goes_at Before s Sent w q = absurd (cc)
goes_at Before s Broke w q = absurd (cc)
goes_at Before s (Line bytes) w q = absurd (cc)
goes_at Before s TooLong w q = absurd (cc)
goes_at Before s Ended w q = absurd (cc)
goes_at After s (Reading at) w q =
    elim (is_late s at) as (λ b. is_late s at ≡ b → IsPast After s (Reading at) ⊎ Calm (at_stage s After (Reading at))) [
      | true ↦ λ l. inl l
      | false ↦ λ l. inr (rw l (judges s q))
    ] refl
goes_at After s Sent w q = absurd (cc)
goes_at After s Broke w q = absurd (cc)
goes_at After s (Line bytes) w q = absurd (cc)
goes_at After s TooLong w q = absurd (cc)
goes_at After s Ended w q = absurd (cc)
goes_at Finished s h w q = absurd (cc)

-- all events but the last were in time, and the last is the reading by which an answer was late
pub record LateCut (s : MatchState) (hs : List Happening) : Type 0 where
  pub fs : List Happening
  pub at : ℕ
  pub split : hs ≡ fs ++ Reading at ∷ []
  pub fits : Answering s fs
  pub calm : Calm (after_all s fs)
  pub replied : (after_all s fs).stage ≡ After
  pub late : is_late (after_all s fs) at ≡ true

nothing_behind : (s x : MatchState) (side : Colour) (m n : ℕ) (hs : List Happening) → x ≡ forfeit s side (Late m n) → Answering x hs → hs ≡ []
nothing_behind s x side m n [] e a = refl
nothing_behind s x side m n (k ∷ hs) e (t, u) = let w : IsTrue (answers Finish k) = subst (λ (y : MatchState). IsTrue (answers (act_at y.stage) k)) e t in absurd (cc)

cut_here : (stage : Stage) (s : MatchState) (h : Happening) (hs : List Happening) → s.stage ≡ stage → IsPast stage s h → Calm s → Answering (next s h) hs → LateCut s (h ∷ hs)
cut_here After s (Reading at) hs e l c a =
    let now : next s (Reading at) ≡ forfeit s (position_now s).side (Late s.asked at) = next_is s (Reading at) ∙ (ap (λ x. at_stage s x (Reading at)) e ∙ rw l refl) in
    record {
      fs = [];
      at = at;
      split = ap (λ (z : List Happening). Reading at ∷ z) (nothing_behind s (next s (Reading at)) (position_now s).side s.asked at hs now a);
      fits = tt;
      calm = c;
      replied = e;
      late = l;
    }
cut_here After s Sent hs e l c a = absurd l
cut_here After s (Line bytes) hs e l c a = absurd l
cut_here After s TooLong hs e l c a = absurd l
cut_here After s Ended hs e l c a = absurd l
cut_here After s Broke hs e l c a = absurd l
cut_here (Send job side) s h hs e l c a = absurd l
cut_here (Read job side) s h hs e l c a = absurd l
cut_here Before s h hs e l c a = absurd l
cut_here Finished s h hs e l c a = absurd l

-- no answer was late, or the last event is that one was
calm_or_cut : (hs : List Happening) (s : MatchState) → Calm s → Answering s hs → Calm (after_all s hs) ⊎ LateCut s hs
calm_or_cut [] s c a = inl c
calm_or_cut (h ∷ hs) s c (t, u) = elim (goes_at s.stage s h t c.quiet) [
  | inl l ↦ inr (cut_here s.stage s h hs refl l c u)
  | inr d ↦ elim (calm_or_cut hs (next s h) (subst Calm (sym (next_is s h)) d) u) [
    | inl x ↦ inl x
    | inr l ↦ inr (record { fs = h ∷ l.fs; at = l.at; split = ap (λ (z : List Happening). h ∷ z) l.split; fits = (t, l.fits); calm = l.calm; replied = l.replied; late = l.late })
  ]
]

calm_start : (setup : FullSetup) → Calm (start setup)
calm_start setup = record { quiet = λ side m n e. cc; timed = tt }

-- a match in which a side forfeits for a late answer
pub late_cut : (setup : FullSetup) (hs : List Happening) (side : Colour) (asked answered : ℕ) → Answering (start setup) hs → (match_after setup hs).verdict ≡ Some (Forfeit side (Late asked answered)) → LateCut (start setup) hs
late_cut setup hs side asked answered a e = elim (calm_or_cut hs (start setup) (calm_start setup) a) [
  | inl c ↦ absurd (c.quiet side asked answered e)
  | inr l ↦ l
]

after_last : (fs : List Happening) (s : MatchState) (h : Happening) → after_all s (fs ++ h ∷ []) ≡ next (after_all s fs) h
after_last [] s h = refl
after_last (f ∷ fs) s h = after_last fs (next s f) h

-- the state of the match then
pub cut_stands : (s : MatchState) (hs : List Happening) (l : LateCut s hs) → after_all s hs ≡ forfeit (after_all s l.fs) (position_now (after_all s l.fs)).side (Late (after_all s l.fs).asked l.at)
cut_stands s hs l =
    let x = after_all s l.fs in
    ap (after_all s) l.split ∙ (after_last l.fs s (Reading l.at) ∙ (next_is x (Reading l.at) ∙ (ap (λ z. at_stage x z (Reading l.at)) l.replied ∙ rw l.late refl)))

late_of : (x : MatchState) (side : Colour) (asked answered at : ℕ) → IsTimed x.setup.level → is_late x at ≡ true → Some (Forfeit (position_now x).side (Late x.asked at)) ≡ Some (Forfeit side (Late asked answered)) → IsLateBy x side asked answered
late_of x side asked answered at (budget, margin, e) l same =
    let turn : (position_now x).side ≡ side = cc in
    let first : x.asked ≡ asked = cc in
    let second : at ≡ answered = cc in
    let later : nat_lt (latest (Time budget margin) x.asked) at ≡ true = subst (λ z. nat_lt (latest z x.asked) at ≡ true) e l in
    let low : x.asked + budget + margin < at = grind (later, arith, nat_tests) in
    record { turn = sym turn; budget = budget; margin = margin; timed = e; over = omega (arith, low, first, second) }

pub matches_tell_lates : MatchesTellLates
matches_tell_lates setup hs a = λ side asked answered e.
    let l = late_cut setup hs side asked answered a e in
    let x = after_all (start setup) l.fs in
    let stands = cut_stands (start setup) hs l in
    let told : Some (Forfeit (position_now x).side (Late x.asked l.at)) ≡ Some (Forfeit side (Late asked answered)) = sym (ap (λ (z : MatchState). z.verdict) stands) ∙ e in
    let k = late_of x side asked answered l.at (subst (λ z. TimedAt z x.setup.level) l.replied l.calm.timed) l.late told in
    record {
      turn = k.turn ∙ ap (λ (z : MatchState). (position_now z).side) (sym stands);
      budget = k.budget;
      margin = k.margin;
      timed = ap (λ (z : MatchState). z.setup.level) stands ∙ k.timed;
      over = k.over;
    }
