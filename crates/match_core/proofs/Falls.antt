use Rattle.std.specs.Prelude.{nat_le}
use Rattle.hive_model.specs.declared.pieces.Colour.{Colour}
use Rattle.hive_model.specs.declared.pieces.Colour.TheVariants.{White, Black}
use Rattle.hive_model.specs.declared.places.Move.{Move}
use Rattle.hive_model.specs.Legal.{is_over_state}
use Rattle.hive_model.specs.Histories.{is_listed}
use Rattle.move_text.specs.declared.faults.MoveFault.{MoveFault}
use Rattle.match_core.specs.declared.setup.Level.{Level}
use Rattle.match_core.specs.declared.setup.Level.TheVariants.{Depth, Time}
use Rattle.match_core.specs.declared.stage.Task.{Task}
use Rattle.match_core.specs.declared.stage.Task.TheVariants.{Greet, Begin, Ask, Tell}
use Rattle.match_core.specs.declared.stage.Stage.{Stage}
use Rattle.match_core.specs.declared.stage.Stage.TheVariants.{Send, Read, Before, After, Finished}
use Rattle.match_core.specs.declared.verdict.Cause.TheVariants.{NotAMove, Illegal, ErrLine, Flood, LongLine, Ended as EndedCause, Broke as BrokeCause, Late}
use Rattle.match_core.specs.declared.verdict.Verdict.{Verdict}
use Rattle.match_core.specs.declared.verdict.Verdict.TheVariants.{Rules, Limit, Forfeit}
use Rattle.match_core.specs.Replies.{is_ok, is_error}
use Rattle.match_core.specs.MatchState.{MatchState, Happening, Sent, Line, TooLong, Ended, Broke, Reading, next, act_at, answers, position_now, go, finish, ask, judge, judge_read, decide, accept, first_line, at_stage, is_late, keep, reply_ends, hear, question, forfeit, answered, outcome_of}
use Rattle.std.proofs.Common.{◌≡◌, ◌<◌, ◌≤◌, ℕ, ◌+◌, ◌-◌, ◌*◌, false, cond, List, [], ◌∷◌, ◌++◌, length, refl, length-append, IsTrue, arith, Result, Ok, Err}
use Rattle.match_core.specs.Keeps.{HasNext}
use Rattle.match_core.specs.Texts.{read_of}
use Rattle.match_core.specs.Plays.{left, left_at, IsPliesAt, IsBounded, MatchesNearTheirEnd, is_finished, has_verdict}
use Rattle.match_core.proofs.Fair.{either}

-- t is at a stage nearer to the end than n
pub record Falls (t : MatchState) (n : ℕ) : Type 0 where
  pub bounded : IsBounded t
  pub less : left_at t.stage (t.setup.limit - length t.moves) t.count < n

ends_at : (s : MatchState) (v : Verdict) (n : ℕ) → 0 < n → Falls (finish s v) n
ends_at s v n h = record { bounded = record { plies = tt; count = omega arith; judged = refl }; less = h }

asks_at : (s : MatchState) (level : Level) (side : Colour) (n : ℕ) → length s.moves < s.setup.limit → 8008 * (s.setup.limit - length s.moves) + 3003 < n → false ≡ has_verdict s.verdict → Falls (go s (question level side)) n
asks_at s (Depth depth) side n h l v = record { bounded = record { plies = h; count = omega arith; judged = v }; less = omega arith }
asks_at s (Time budget margin) side n h l v = record { bounded = record { plies = h; count = omega arith; judged = v }; less = omega arith }

asks : (s : MatchState) (n : ℕ) → length s.moves < s.setup.limit → 8008 * (s.setup.limit - length s.moves) + 3003 < n → false ≡ has_verdict s.verdict → Falls (ask s) n
unfolding ask
asks s n h l v = asks_at s s.setup.level (position_now s).side n h l v

le_false : (m n : ℕ) → nat_le m n ≡ false → n < m
le_false m n e = grind arith

decides : (s : MatchState) (n : ℕ) → 8008 * (s.setup.limit - length s.moves) + 3003 < n → false ≡ has_verdict s.verdict → Falls (decide s) n
unfolding decide
decides s n l v =
    let P : MatchState → Type 0 = λ t. Falls t n in
    either P (is_over_state (outcome_of s)) (finish s (Rules (outcome_of s))) (cond (nat_le s.setup.limit (length s.moves)) (finish s Limit) (ask s))
    (λ e. ends_at s (Rules (outcome_of s)) n (omega arith))
    (λ e. either P (nat_le s.setup.limit (length s.moves)) (finish s Limit) (ask s) (λ f. ends_at s Limit n (omega arith)) (λ f. asks s n (le_false s.setup.limit (length s.moves) f) l v))

accepts : (s : MatchState) (m : Move) (n : ℕ) → length s.moves < s.setup.limit → 8008 * (s.setup.limit - length s.moves) ≤ n → false ≡ has_verdict s.verdict → Falls (accept s m) n
accepts s m n h l v =
    let e : length (s.moves ++ m ∷ []) ≡ length s.moves + 1 = length-append s.moves (m ∷ []) in
    record { bounded = record { plies = omega (arith, e, h); count = omega arith; judged = v }; less = omega (arith, e, h, l) }

judges_as : (s : MatchState) (line : List ℕ) (o : Result Move MoveFault) (n : ℕ) → length s.moves < s.setup.limit → 8008 * (s.setup.limit - length s.moves) ≤ n → false ≡ has_verdict s.verdict → Falls (judge_read s line o) n
judges_as s line (Err fault) n h l v = ends_at s (Forfeit (position_now s).side (NotAMove line)) n (omega arith)
judges_as s line (Ok m) n h l v =
    let P : MatchState → Type 0 = λ t. Falls t n in
    either P (is_listed (position_now s) m) (accept s m) (forfeit s (position_now s).side (Illegal line)) (λ e. accepts s m n h l v) (λ e. ends_at s (Forfeit (position_now s).side (Illegal line)) n (omega arith))

judges : (s : MatchState) (n : ℕ) → length s.moves < s.setup.limit → 8008 * (s.setup.limit - length s.moves) ≤ n → false ≡ has_verdict s.verdict → Falls (judge s) n
unfolding judge
judges s n h l v = judges_as s (first_line s) (read_of s.setup.game_type (position_now s).board (first_line s)) n h l v

answers_as : (s : MatchState) (level : Level) (n : ℕ) → s.count ≤ 1000 → length s.moves < s.setup.limit → 8008 * (s.setup.limit - length s.moves) < n → false ≡ has_verdict s.verdict → Falls (answered s level) n
answers_as s (Depth depth) n c h l v = judges s n h (omega arith) v
answers_as s (Time budget margin) n c h l v = record { bounded = record { plies = h; count = c; judged = v }; less = l }

ends_reply : (s : MatchState) (job : Task) (side : Colour) → s.count ≤ 1000 → HasNext job (length s.setup.begin) (length s.moves) s.setup.limit → false ≡ has_verdict s.verdict → Falls (reply_ends s job side) (left_at (Read job side) (s.setup.limit - length s.moves) s.count)
ends_reply s Greet White c h v = record { bounded = record { plies = h; count = omega arith; judged = v }; less = omega arith }
ends_reply s Greet Black c h v = record { bounded = record { plies = h; count = omega arith; judged = v }; less = omega arith }
ends_reply s Begin White c h v = record { bounded = record { plies = h; count = omega arith; judged = v }; less = omega arith }
ends_reply s Begin Black c h v = decides s _ (omega arith) v
ends_reply s Ask side c h v = answers_as s s.setup.level _ c h (omega arith) v
ends_reply s (Tell m) White c h v = record { bounded = record { plies = h; count = omega arith; judged = v }; less = omega arith }
ends_reply s (Tell m) Black c h v = decides s _ (omega arith) v

-- a reply begins with this number of events left, and each line of it is one less
record ReadsFrom (job : Task) (side : Colour) (d : ℕ) : Type 0 where
  most : ℕ
  many : 1000 < most
  left : (c : ℕ) → left_at (Read job side) d c ≡ most - c
  before : (c : ℕ) → most < left_at (Send job side) d c

reads_from : (job : Task) (side : Colour) (d : ℕ) → ReadsFrom job side d
reads_from Greet White d = record { most = 8008 * d + 9009; many = omega arith; left = λ c. refl; before = λ c. omega arith }
reads_from Greet Black d = record { most = 8008 * d + 8008; many = omega arith; left = λ c. refl; before = λ c. omega arith }
reads_from Begin White d = record { most = 8008 * d + 6006; many = omega arith; left = λ c. refl; before = λ c. omega arith }
reads_from Begin Black d = record { most = 8008 * d + 4004; many = omega arith; left = λ c. refl; before = λ c. omega arith }
reads_from Ask side d = record { most = 8008 * d + 1001; many = omega arith; left = λ c. refl; before = λ c. omega arith }
reads_from (Tell m) White d = record { most = 8008 * d + 6006; many = omega arith; left = λ c. refl; before = λ c. omega arith }
reads_from (Tell m) Black d = record { most = 8008 * d + 4004; many = omega arith; left = λ c. refl; before = λ c. omega arith }

some_left : (job : Task) (side : Colour) (d c : ℕ) → c ≤ 1000 → 0 < left_at (Read job side) d c
some_left job side d c h = let r = reads_from job side d in let e = r.left c in let many = r.many in omega (arith, e, many, h)

one_line_less : (job : Task) (side : Colour) (d c : ℕ) → c < 1000 → left_at (Read job side) d (c + 1) < left_at (Read job side) d c
one_line_less job side d c h = let r = reads_from job side d in let e = r.left c in let f = r.left (c + 1) in let many = r.many in omega (arith, e, f, many, h)

sent_less : (job : Task) (side : Colour) (d c : ℕ) → left_at (Read job side) d 0 < left_at (Send job side) d c
sent_less job side d c = let r = reads_from job side d in let e = r.left 0 in let before = r.before c in omega (arith, e, before)

hears : (s : MatchState) (job : Task) (side : Colour) (line : List ℕ) → s.count ≤ 1000 → HasNext job (length s.setup.begin) (length s.moves) s.setup.limit → false ≡ has_verdict s.verdict → Falls (hear s job side line) (left_at (Read job side) (s.setup.limit - length s.moves) s.count)
hears s job side line c h v =
    let n : ℕ = left_at (Read job side) (s.setup.limit - length s.moves) s.count in
    let P : MatchState → Type 0 = λ t. Falls t n in
    let some : 0 < n = some_left job side (s.setup.limit - length s.moves) s.count c in
    either P (is_ok line) (reply_ends s job side) (cond (is_error line) (forfeit s side (ErrLine line)) (cond (nat_le 1000 s.count) (forfeit s side (Flood 1001)) (keep s (Read job side) line)))
    (λ e. ends_reply s job side c h v)
    (λ e. either P (is_error line) (forfeit s side (ErrLine line)) (cond (nat_le 1000 s.count) (forfeit s side (Flood 1001)) (keep s (Read job side) line))
    (λ g. ends_at s (Forfeit side (ErrLine line)) n some)
    (λ g. either P (nat_le 1000 s.count) (forfeit s side (Flood 1001)) (keep s (Read job side) line)
    (λ k. ends_at s (Forfeit side (Flood 1001)) n some)
    (λ k. let few : s.count < 1000 = le_false 1000 s.count k in
    record { bounded = record { plies = h; count = omega (arith, few); judged = v }; less = one_line_less job side (s.setup.limit - length s.moves) s.count few })))

falls_at : (stage : Stage) (s : MatchState) (h : Happening) → s.count ≤ 1000 → IsPliesAt stage (length s.setup.begin) (length s.moves) s.setup.limit → is_finished stage ≡ has_verdict s.verdict → IsTrue (answers (act_at stage) h) → Falls (at_stage s stage h) (left_at stage (s.setup.limit - length s.moves) s.count)
falls_at (Send job side) s Sent c p v w = record {
  bounded = record { plies = p; count = omega arith; judged = v };
  less = sent_less job side (s.setup.limit - length s.moves) s.count;
}
falls_at (Send job side) s Broke c p v w = ends_at s (Forfeit side BrokeCause) _ (let less = sent_less job side (s.setup.limit - length s.moves) s.count in omega (arith, less))
falls_at (Send job side) s (Line bytes) c p v w = absurd (cc)
falls_at (Send job side) s TooLong c p v w = absurd (cc)
falls_at (Send job side) s Ended c p v w = absurd (cc)
falls_at (Send job side) s (Reading at) c p v w = absurd (cc)
falls_at (Read job side) s (Line bytes) c p v w = hears s job side bytes c p v
falls_at (Read job side) s TooLong c p v w = ends_at s (Forfeit side LongLine) _ (some_left job side _ _ c)
falls_at (Read job side) s Ended c p v w = ends_at s (Forfeit side EndedCause) _ (some_left job side _ _ c)
falls_at (Read job side) s Broke c p v w = ends_at s (Forfeit side BrokeCause) _ (some_left job side _ _ c)
falls_at (Read job side) s Sent c p v w = absurd (cc)
falls_at (Read job side) s (Reading at) c p v w = absurd (cc)
falls_at Before s (Reading at) c p v w = record { bounded = record { plies = p; count = c; judged = v }; less = omega arith }
falls_at Before s Sent c p v w = absurd (cc)
falls_at Before s Broke c p v w = absurd (cc)
falls_at Before s (Line bytes) c p v w = absurd (cc)
falls_at Before s TooLong c p v w = absurd (cc)
falls_at Before s Ended c p v w = absurd (cc)
falls_at After s (Reading at) c p v w =
    let n : ℕ = 8008 * (s.setup.limit - length s.moves) in
    let P : MatchState → Type 0 = λ t. Falls t n in
    either P (is_late s at) (forfeit s (position_now s).side (Late s.asked at)) (judge s) (λ e. ends_at s (Forfeit (position_now s).side (Late s.asked at)) n (omega (arith, p))) (λ e. judges s n p (omega arith) v)
falls_at After s Sent c p v w = absurd (cc)
falls_at After s Broke c p v w = absurd (cc)
falls_at After s (Line bytes) c p v w = absurd (cc)
falls_at After s TooLong c p v w = absurd (cc)
falls_at After s Ended c p v w = absurd (cc)
falls_at Finished s h c p v w = absurd (cc)

pub matches_near_their_end : MatchesNearTheirEnd
unfolding left next
matches_near_their_end s h b w = let f = falls_at s.stage s h b.count b.plies b.judged w in (f.bounded, f.less)
