use Rattle.std.specs.Prelude.{nat_le}
use Rattle.hive_model.specs.declared.pieces.Colour.{Colour}
use Rattle.hive_model.specs.declared.pieces.Colour.TheVariants.{White, Black}
use Rattle.hive_model.specs.declared.places.Move.{Move}
use Rattle.hive_model.specs.Legal.{is_over_state}
use Rattle.hive_model.specs.Histories.{is_listed}
use Rattle.move_text.specs.declared.faults.MoveFault.{MoveFault}
use Rattle.match_core.specs.Setups.{FullSetup}
use Rattle.match_core.specs.declared.setup.Level.{Level}
use Rattle.match_core.specs.declared.setup.Level.TheVariants.{Depth, Time}
use Rattle.match_core.specs.declared.stage.Task.{Task}
use Rattle.match_core.specs.declared.stage.Task.TheVariants.{Greet, Begin, Ask, Tell}
use Rattle.match_core.specs.declared.stage.Stage.{Stage}
use Rattle.match_core.specs.declared.stage.Stage.TheVariants.{Send, Read, Before, After, Finished}
use Rattle.match_core.specs.declared.verdict.Cause.TheVariants.{Illegal, ErrLine, Flood, Late}
use Rattle.match_core.specs.declared.verdict.Verdict.TheVariants.{Rules, Limit}
use Rattle.match_core.specs.Replies.{is_ok, is_error}
use Rattle.match_core.specs.MatchState.{MatchState, Happening, Sent, Line, TooLong, Ended, Broke, Reading, start, match_after, next, after_all, act_at, answers, position_now, go, finish, ask, judge, judge_read, decide, accept, first_line, at_stage, is_late, keep, reply_ends, hear, question, forfeit, answered, outcome_of}
use Rattle.match_core.specs.Texts.{read_of}
use Rattle.match_core.specs.Fairness.{Answering}
use Rattle.std.proofs.Common.{◌≡◌, ◌≤◌, ℕ, ◌+◌, ◌-◌, ◌*◌, cond, List, [], ◌∷◌, ◌++◌, length, length-append, refl, ap, ◌∙◌, IsTrue, arith, Ok, Err}
use Rattle.std.specs.declared.result.Result.{Result}
use Rattle.match_core.proofs.Fair.{either}
use Rattle.match_core.proofs.Follows.{next_is}
use Rattle.match_runner.specs.Wires.{Watch, Wire}
use Rattle.match_runner.proofs.Endings.{by_end}
use Rattle.match_runner.specs.Turns.{Side, Breaks, looks_at}
use Rattle.match_runner.specs.Runs.{looks, FinalRun, Run}

abbrev extra_job : Task → ℕ
extra_job Greet = 0
extra_job Begin = 0
extra_job Ask = 1
extra_job (Tell m) = 0

abbrev extra : Stage → ℕ
extra (Send job side) = extra_job job
extra (Read job side) = extra_job job
extra Before = 0
extra After = 1
extra Finished = 2

abbrev Read_so : ℕ → MatchState → Type 0
Read_so n t = n ≤ 2 * length t.moves + extra t.stage

asks_at : (s : MatchState) (level : Level) (side : Colour) (n : ℕ) → n ≤ 2 * length s.moves → Read_so n (go s (question level side))
asks_at s (Depth depth) side n h = omega arith
asks_at s (Time budget margin) side n h = omega arith

asks : (s : MatchState) (n : ℕ) → n ≤ 2 * length s.moves → Read_so n (ask s)
unfolding ask
asks s n h = asks_at s s.setup.level (position_now s).side n h

decides : (s : MatchState) (n : ℕ) → n ≤ 2 * length s.moves → Read_so n (decide s)
unfolding decide
decides s n h =
    let P : MatchState → Type 0 = λ t. Read_so n t in
    either P (is_over_state (outcome_of s)) (finish s (Rules (outcome_of s))) (cond (nat_le s.setup.limit (length s.moves)) (finish s Limit) (ask s)) (λ e. omega arith)
    (λ e. either P (nat_le s.setup.limit (length s.moves)) (finish s Limit) (ask s) (λ f. omega arith) (λ f. asks s n h))

judges_as : (s : MatchState) (line : List ℕ) (o : Result Move MoveFault) (n : ℕ) → n ≤ 2 * length s.moves + 2 → Read_so n (judge_read s line o)
judges_as s line (Err fault) n h = h
judges_as s line (Ok m) n h =
    let P : MatchState → Type 0 = λ t. Read_so n t in
    either P (is_listed (position_now s) m) (accept s m) (forfeit s (position_now s).side (Illegal line)) (λ e. let k : length (s.moves ++ m ∷ []) ≡ length s.moves + 1 = length-append s.moves (m ∷ []) in omega (arith, k, h)) (λ e. h)

judges : (s : MatchState) (n : ℕ) → n ≤ 2 * length s.moves + 2 → Read_so n (judge s)
unfolding judge
judges s n h = judges_as s (first_line s) (read_of s.setup.game_type (position_now s).board (first_line s)) n h

answers_as : (s : MatchState) (level : Level) (n : ℕ) → n ≤ 2 * length s.moves + 1 → Read_so n (answered s level)
answers_as s (Depth depth) n h = judges s n (omega arith)
answers_as s (Time budget margin) n h = h

ends_reply : (s : MatchState) (job : Task) (side : Colour) (n : ℕ) → n ≤ 2 * length s.moves + extra_job job → Read_so n (reply_ends s job side)
ends_reply s Greet White n h = h
ends_reply s Greet Black n h = h
ends_reply s Begin White n h = h
ends_reply s Begin Black n h = decides s n (omega arith)
ends_reply s Ask side n h = answers_as s s.setup.level n h
ends_reply s (Tell m) White n h = h
ends_reply s (Tell m) Black n h = decides s n (omega arith)

two_more : (job : Task) (m n : ℕ) → n ≤ m + extra_job job → n ≤ m + 2
two_more Greet m n h = omega arith
two_more Begin m n h = omega arith
two_more Ask m n h = omega arith
two_more (Tell t) m n h = omega arith

hears : (s : MatchState) (job : Task) (side : Colour) (line : List ℕ) (n : ℕ) → n ≤ 2 * length s.moves + extra_job job → Read_so n (hear s job side line)
hears s job side line n h =
    let P : MatchState → Type 0 = λ t. Read_so n t in
    let more : n ≤ 2 * length s.moves + 2 = two_more job (2 * length s.moves) n h in
    either P (is_ok line) (reply_ends s job side) (cond (is_error line) (forfeit s side (ErrLine line)) (cond (nat_le 1000 s.count) (forfeit s side (Flood 1001)) (keep s (Read job side) line)))
    (λ e. ends_reply s job side n h)
    (λ e. either P (is_error line) (forfeit s side (ErrLine line)) (cond (nat_le 1000 s.count) (forfeit s side (Flood 1001)) (keep s (Read job side) line)) (λ f. more)
    (λ f. either P (nat_le 1000 s.count) (forfeit s side (Flood 1001)) (keep s (Read job side) line) (λ k. more) (λ k. h)))

reads_at : (stage : Stage) (s : MatchState) (h : Happening) (n : ℕ) → n ≤ 2 * length s.moves + extra stage → IsTrue (answers (act_at stage) h) → Read_so (n + looks_at stage) (at_stage s stage h)
reads_at (Send job side) s Sent n b w = omega (arith, b)
reads_at (Send job side) s Broke n b w = let c = two_more job (2 * length s.moves) n b in omega (arith, c)
reads_at (Send job side) s (Line bytes) n b w = absurd (cc)
reads_at (Send job side) s TooLong n b w = absurd (cc)
reads_at (Send job side) s Ended n b w = absurd (cc)
reads_at (Send job side) s (Reading at) n b w = absurd (cc)
reads_at (Read job side) s (Line bytes) n b w = hears s job side bytes (n + 0) (omega (arith, b))
reads_at (Read job side) s TooLong n b w = let c = two_more job (2 * length s.moves) n b in omega (arith, c)
reads_at (Read job side) s Ended n b w = let c = two_more job (2 * length s.moves) n b in omega (arith, c)
reads_at (Read job side) s Broke n b w = let c = two_more job (2 * length s.moves) n b in omega (arith, c)
reads_at (Read job side) s Sent n b w = absurd (cc)
reads_at (Read job side) s (Reading at) n b w = absurd (cc)
reads_at Before s (Reading at) n b w = omega (arith, b)
reads_at Before s Sent n b w = absurd (cc)
reads_at Before s Broke n b w = absurd (cc)
reads_at Before s (Line bytes) n b w = absurd (cc)
reads_at Before s TooLong n b w = absurd (cc)
reads_at Before s Ended n b w = absurd (cc)
reads_at After s (Reading at) n b w =
    let P : MatchState → Type 0 = λ t. Read_so (n + 1) t in
    let c : n + 1 ≤ 2 * length s.moves + 2 = omega (arith, b) in
    either P (is_late s at) (forfeit s (position_now s).side (Late s.asked at)) (judge s) (λ e. c) (λ e. judges s (n + 1) c)
reads_at After s Sent n b w = absurd (cc)
reads_at After s Broke n b w = absurd (cc)
reads_at After s (Line bytes) n b w = absurd (cc)
reads_at After s TooLong n b w = absurd (cc)
reads_at After s Ended n b w = absurd (cc)
reads_at Finished s h n b w = absurd (cc)

reads_next : (s : MatchState) (h : Happening) (n : ℕ) → Read_so n s → IsTrue (answers (act_at s.stage) h) → Read_so (n + looks_at s.stage) (next s h)
reads_next s h n b w = rw (next_is s h) (reads_at s.stage s h n b w)

reads_all : (hs : List Happening) (s : MatchState) (n : ℕ) → Read_so n s → Answering s hs → Read_so (n + looks s hs) (after_all s hs)
reads_all [] s n b t = omega (arith, b)
reads_all (h ∷ hs) s n b (t, u) = let r = reads_all hs (next s h) (n + looks_at s.stage) (reads_next s h n b t) u in omega (arith, r)

extra_most : (stage : Stage) → extra stage ≤ 2
extra_most (Send Greet side) = omega arith
extra_most (Send Begin side) = omega arith
extra_most (Send Ask side) = omega arith
extra_most (Send (Tell m) side) = omega arith
extra_most (Read Greet side) = omega arith
extra_most (Read Begin side) = omega arith
extra_most (Read Ask side) = omega arith
extra_most (Read (Tell m) side) = omega arith
extra_most Before = omega arith
extra_most After = omega arith
extra_most Finished = omega arith

-- the clock is not read for the moves with which the match begins
pub looks_bound : (setup : FullSetup) (hs : List Happening) → Answering (start setup) hs → 2 * length setup.begin + looks (start setup) hs ≤ 2 * length (match_after setup hs).moves + 2
looks_bound setup hs t = let r = reads_all hs (start setup) (2 * length setup.begin) (omega arith) t in let e = extra_most (match_after setup hs).stage in omega (arith, r, e)

pub moves_broke : (stage : Stage) (s : MatchState) → IsTrue (answers (act_at stage) Broke) → (at_stage s stage Broke).moves ≡ s.moves
moves_broke (Send job side) s w = refl
moves_broke (Read job side) s w = refl
moves_broke Before s w = absurd (cc)
moves_broke After s w = absurd (cc)
moves_broke Finished s w = absurd (cc)

abbrev IsReadSo : FullSetup → MatchState → Watch → Watch → Type 0
IsReadSo setup s r0 r = r.readings ≤ r0.readings + (2 * (length s.moves - length setup.begin) + 2)

read_run : (setup : FullSetup) (s : MatchState) (w0 w b0 b : Side) (r0 r : Watch) → Run setup s w0 w b0 b r0 r → IsReadSo setup s r0 r
read_run setup s w0 w b0 b r0 r (hs, run) =
    let k = looks_bound setup hs run.fits in
    let e : length s.moves ≡ length (match_after setup hs).moves = ap (λ (x : MatchState). length x.moves) run.here in
    let a = run.readings in omega (arith, k, e, a)

read_cut : (setup : FullSetup) (s t : MatchState) (w0 w w2 b0 b b2 : Side) (r0 r : Watch) → Run setup s w0 w b0 b r0 r → Breaks s t w w2 b b2 → IsReadSo setup t r0 r
read_cut setup s t w0 w w2 b0 b b2 r0 r run br =
    let k = read_run setup s w0 w b0 b r0 r run in
    let e : t.moves ≡ s.moves = ap (λ (x : MatchState). x.moves) (br.next_is ∙ next_is s Broke) ∙ moves_broke s.stage s br.fits in
    let f : length t.moves ≡ length s.moves = ap length e in omega (arith, k, f)

pub read_final : (setup : FullSetup) (t : MatchState) (w0 w b0 b : Wire) (r0 r : Watch) → FinalRun setup t w0 w b0 b r0 r → r.readings ≤ r0.readings + (2 * (length t.moves - length setup.begin) + 2)
read_final setup t w0 w b0 b r0 r final =
    by_end setup t _ _ _ _ r0 r (IsReadSo setup t r0 r) final.ran (λ whole. read_run setup t _ _ _ _ r0 r whole.0)
    (λ side cut. let (s, w1, b1, run, br, act) = cut in read_cut setup s t _ w1 _ _ b1 _ r0 r run br)
