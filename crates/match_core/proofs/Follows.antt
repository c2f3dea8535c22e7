use Rattle.std.specs.Prelude.{nat_le, nat_lt}
use Rattle.hive_model.specs.declared.pieces.Colour.{Colour}
use Rattle.hive_model.specs.declared.pieces.Colour.TheVariants.{White, Black}
use Rattle.hive_model.specs.declared.places.Move.{Move}
use Rattle.hive_model.specs.Legal.{is_over_state}
use Rattle.hive_model.specs.Histories.{is_listed}
use Rattle.move_text.specs.declared.faults.MoveFault.{MoveFault}
use Rattle.match_core.specs.Setups.{FullSetup}
use Rattle.match_core.specs.declared.setup.Level.{Level}
use Rattle.match_core.specs.declared.setup.Level.TheVariants.{Depth, Time}
use Rattle.match_core.specs.declared.stage.Task.{Task}
use Rattle.match_core.specs.declared.stage.Task.TheVariants.{Greet, Begin, Ask, Tell}
use Rattle.match_core.specs.declared.stage.Stage.{Stage}
use Rattle.match_core.specs.declared.stage.Stage.TheVariants.{Send, Read, Before, After, Finished}
use Rattle.match_core.specs.declared.verdict.Cause.TheVariants.{Illegal, ErrLine, Flood}
use Rattle.match_core.specs.declared.verdict.Verdict.TheVariants.{Rules, Limit}
use Rattle.match_core.specs.Replies.{is_ok, is_error}
use Rattle.match_core.specs.MatchState.{MatchState, Happening, Sent, Line, TooLong, Ended, Broke, Reading, start, next, act_at, answers, position_now, finish, ask, judge, judge_read, decide, accept, first_line, at_stage, is_late, keep, reply_ends, hear, forfeit, answered, latest, outcome_of}
use Rattle.match_core.specs.Texts.{read_of}
use Rattle.std.proofs.Common.{◌≡◌, ◌↔◌, ◌⊎◌, inl, inr, ℕ, zero, suc, Bool, true, false, cond, List, [], ◌∷◌, length, refl, None, Some, IsTrue, arith, Result, Ok, Err}
use Rattle.std.specs.Option.{option_map}
use Rattle.std.proofs.lemmas.Option.{same_Some}
use Rattle.io_edge.specs.Lines.{Line as Mark, Text, ToldLines}
use Rattle.match_core.specs.Keeps.{IsFullSetup}
use Rattle.match_core.specs.declared.stage.Act.TheVariants.{Finish}
use Rattle.match_core.specs.Fairness.{sent_at}
use Rattle.match_core.specs.Plays.{IsBounded, given, others, reply_to, left_of_white, left_of_black, is_finished, happens}
use Rattle.match_core.specs.Feeds.{Gave, FeedsAt, IsInTime, with_asked}

-- what a function makes of a match does not depend on the moment of the question
conds : (b : Bool) (x y x2 y2 : MatchState) (a : ℕ) → x2 ≡ with_asked x a → y2 ≡ with_asked y a → cond b x2 y2 ≡ with_asked (cond b x y) a
conds true x y x2 y2 a e f = e
conds false x y x2 y2 a e f = f

asks : (s : MatchState) (a : ℕ) → ask (with_asked s a) ≡ with_asked (ask s) a
unfolding ask
asks s a = refl

decides : (s : MatchState) (a : ℕ) → decide (with_asked s a) ≡ with_asked (decide s) a
unfolding decide
decides s a =
    conds (is_over_state (outcome_of s)) (finish s (Rules (outcome_of s))) (cond (nat_le s.setup.limit (length s.moves)) (finish s Limit) (ask s)) _ _ a refl
    (conds (nat_le s.setup.limit (length s.moves)) (finish s Limit) (ask s) _ _ a refl (asks s a))

judges_as : (s : MatchState) (a : ℕ) (line : List ℕ) (o : Result Move MoveFault) → judge_read (with_asked s a) line o ≡ with_asked (judge_read s line o) a
judges_as s a line (Err fault) = refl
judges_as s a line (Ok m) = conds (is_listed (position_now s) m) (accept s m) (forfeit s (position_now s).side (Illegal line)) _ _ a refl refl

judges : (s : MatchState) (a : ℕ) → judge (with_asked s a) ≡ with_asked (judge s) a
unfolding judge
judges s a = judges_as s a (first_line s) (read_of s.setup.game_type (position_now s).board (first_line s))

answers_as : (s : MatchState) (a : ℕ) (level : Level) → answered (with_asked s a) level ≡ with_asked (answered s level) a
answers_as s a (Depth depth) = judges s a
answers_as s a (Time budget margin) = refl

ends_reply : (s : MatchState) (a : ℕ) (job : Task) (side : Colour) → reply_ends (with_asked s a) job side ≡ with_asked (reply_ends s job side) a
ends_reply s a Greet White = refl
ends_reply s a Greet Black = refl
ends_reply s a Begin White = refl
ends_reply s a Begin Black = decides s a
ends_reply s a Ask side = answers_as s a s.setup.level
ends_reply s a (Tell m) White = refl
ends_reply s a (Tell m) Black = decides s a

hears : (s : MatchState) (a : ℕ) (job : Task) (side : Colour) (line : List ℕ) → hear (with_asked s a) job side line ≡ with_asked (hear s job side line) a
hears s a job side line =
    conds (is_ok line) (reply_ends s job side) (cond (is_error line) (forfeit s side (ErrLine line)) (cond (nat_le 1000 s.count) (forfeit s side (Flood 1001)) (keep s (Read job side) line))) _ _ a (ends_reply s a job side)
    (conds (is_error line) (forfeit s side (ErrLine line)) (cond (nat_le 1000 s.count) (forfeit s side (Flood 1001)) (keep s (Read job side) line)) _ _ a refl
    (conds (nat_le 1000 s.count) (forfeit s side (Flood 1001)) (keep s (Read job side) line) _ _ a refl refl))

abbrev pub LeftOr : Bool → ToldLines → List Mark → Type 0
LeftOr over mid marks = (mid ≡ Some marks) ⊎ (over ≡ true)

-- one event of s and the reply of the lines at t
pub record Same (stage : Stage) (s : MatchState) (a : ℕ) (h : Happening) (white black : List Mark) (w b : ToldLines) : Type 0 where
  pub asked : ℕ
  pub match : at_stage (with_asked s a) stage (reply_to stage a white black) ≡ with_asked (at_stage s stage h) asked
  pub w_left : LeftOr (is_finished (at_stage s stage h).stage) w (left_of_white stage white)
  pub b_left : LeftOr (is_finished (at_stage s stage h).stage) b (left_of_black stage black)
  pub w_sent : sent_at (with_asked s a) stage (reply_to stage a white black) White ≡ sent_at s stage h White
  pub b_sent : sent_at (with_asked s a) stage (reply_to stage a white black) Black ≡ sent_at s stage h Black

gave_line : (bytes : List ℕ) (marks : List Mark) (mid : ToldLines) → Some marks ≡ option_map (λ ms. Text bytes ∷ ms) mid → (given marks ≡ Line bytes) × (mid ≡ Some (others marks))
gave_line bytes marks None e = cc
gave_line bytes marks (Some ms) e = let f : marks ≡ Text bytes ∷ ms = same_Some _ _ e in rw f (refl, refl)

read_white : (s : MatchState) (a : ℕ) (job : Task) (h : Happening) (white black : List Mark) (w b : ToldLines) → Gave h (Some white) w → b ≡ Some black → Same (Read job White) s a h white black w b
read_white s a job (Line bytes) white black w b g e = let (f, k) = gave_line bytes white w g in record { asked = a; match = rw f (hears s a job White bytes); w_left = inl k; b_left = inl e; w_sent = refl; b_sent = refl }
read_white s a job TooLong white black w b (more, f) e = record { asked = a; match = rw f refl; w_left = inr refl; b_left = inr refl; w_sent = refl; b_sent = refl }
read_white s a job Ended white black w b f e = record { asked = a; match = rw f refl; w_left = inr refl; b_left = inr refl; w_sent = refl; b_sent = refl }
read_white s a job Sent white black w b g e = absurd g
read_white s a job Broke white black w b g e = absurd g
read_white s a job (Reading at) white black w b g e = absurd g

read_black : (s : MatchState) (a : ℕ) (job : Task) (h : Happening) (white black : List Mark) (w b : ToldLines) → w ≡ Some white → Gave h (Some black) b → Same (Read job Black) s a h white black w b
read_black s a job (Line bytes) white black w b e g = let (f, k) = gave_line bytes black b g in record { asked = a; match = rw f (hears s a job Black bytes); w_left = inl e; b_left = inl k; w_sent = refl; b_sent = refl }
read_black s a job TooLong white black w b e (more, f) = record { asked = a; match = rw f refl; w_left = inr refl; b_left = inr refl; w_sent = refl; b_sent = refl }
read_black s a job Ended white black w b e f = record { asked = a; match = rw f refl; w_left = inr refl; b_left = inr refl; w_sent = refl; b_sent = refl }
read_black s a job Sent white black w b e g = absurd g
read_black s a job Broke white black w b e g = absurd g
read_black s a job (Reading at) white black w b e g = absurd g

sends : (s : MatchState) (a : ℕ) (job : Task) (side : Colour) (white black : List Mark) (w b : ToldLines) → w ≡ Some white → b ≡ Some black → Same (Send job side) s a Sent white black w b
sends s a Greet side white black w b e f = record { asked = a; match = refl; w_left = inl e; b_left = inl f; w_sent = refl; b_sent = refl }
sends s a Begin side white black w b e f = record { asked = a; match = refl; w_left = inl e; b_left = inl f; w_sent = refl; b_sent = refl }
sends s a Ask side white black w b e f = record { asked = a; match = refl; w_left = inl e; b_left = inl f; w_sent = refl; b_sent = refl }
sends s a (Tell m) side white black w b e f = record { asked = a; match = refl; w_left = inl e; b_left = inl f; w_sent = refl; b_sent = refl }

in_time_at : (level : Level) (a : ℕ) → nat_lt (latest level a) a ≡ false
in_time_at (Depth depth) a = grind arith
in_time_at (Time budget margin) a = grind arith

after_reading : (s : MatchState) (a x : ℕ) → is_late s x ≡ false → at_stage (with_asked s a) After (Reading a) ≡ with_asked (at_stage s After (Reading x)) a
after_reading s a x e = rw (in_time_at s.setup.level a, e) (judges s a)

same_at : (stage : Stage) (s : MatchState) (a : ℕ) (h : Happening) (white black : List Mark) (w b : ToldLines) → IsTrue (answers (act_at stage) h) → IsInTime stage s h → FeedsAt stage h White (Some white) w → FeedsAt stage h Black (Some black) b
    → Same stage s a h white black w b
same_at (Send job side) s a Sent white black w b t i e f = sends s a job side white black w b e f
same_at (Send job side) s a Broke white black w b t i e f = absurd i
same_at (Send job side) s a (Line bytes) white black w b t i e f = absurd (cc)
same_at (Send job side) s a TooLong white black w b t i e f = absurd (cc)
same_at (Send job side) s a Ended white black w b t i e f = absurd (cc)
same_at (Send job side) s a (Reading at) white black w b t i e f = absurd (cc)
same_at (Read job White) s a h white black w b t i e f = read_white s a job h white black w b e f
same_at (Read job Black) s a h white black w b t i e f = read_black s a job h white black w b e f
same_at Before s a (Reading at) white black w b t i e f = record { asked = 0; match = refl; w_left = inl e; b_left = inl f; w_sent = refl; b_sent = refl }
same_at Before s a Sent white black w b t i e f = absurd (cc)
same_at Before s a Broke white black w b t i e f = absurd (cc)
same_at Before s a (Line bytes) white black w b t i e f = absurd (cc)
same_at Before s a TooLong white black w b t i e f = absurd (cc)
same_at Before s a Ended white black w b t i e f = absurd (cc)
same_at After s a (Reading at) white black w b t i e f = record { asked = a; match = after_reading s a at i; w_left = inl e; b_left = inl f; w_sent = refl; b_sent = refl }
same_at After s a Sent white black w b t i e f = absurd (cc)
same_at After s a Broke white black w b t i e f = absurd (cc)
same_at After s a (Line bytes) white black w b t i e f = absurd (cc)
same_at After s a TooLong white black w b t i e f = absurd (cc)
same_at After s a Ended white black w b t i e f = absurd (cc)
same_at Finished s a h white black w b t i e f = absurd (cc)

pub same : (s : MatchState) (a : ℕ) (h : Happening) (white black : List Mark) (w b : ToldLines) → IsTrue (answers (act_at s.stage) h) → IsInTime s.stage s h → FeedsAt s.stage h White (Some white) w → FeedsAt s.stage h Black (Some black) b
    → Same s.stage s a h white black w b
same s a h white black w b t i e f = same_at s.stage s a h white black w b t i e f

pub next_is : (s : MatchState) (h : Happening) → next s h ≡ at_stage s s.stage h
unfolding next
next_is s h = refl

pub open_at : (stage : Stage) (h : Happening) → IsTrue (answers (act_at stage) h) → is_finished stage ≡ false
open_at (Send job side) h w = refl
open_at (Read job side) h w = refl
open_at Before h w = refl
open_at After h w = refl
open_at Finished h w = absurd (cc)

-- a match is over if and only if there is nothing to do
pub finish_is : (stage : Stage) → (act_at stage ≡ Finish) ↔ (is_finished stage ≡ true)
finish_is (Send job side) = (λ e. absurd (cc), λ e. absurd (cc))
finish_is (Read job side) = (λ e. absurd (cc), λ e. absurd (cc))
finish_is Before = (λ e. absurd (cc), λ e. absurd (cc))
finish_is After = (λ e. absurd (cc), λ e. absurd (cc))
finish_is Finished = (λ e. refl, λ e. refl)

pub happens_none : (n : ℕ) (s : MatchState) (white black : List Mark) → is_finished s.stage ≡ true → happens n s white black ≡ []
unfolding happens
happens_none zero s white black e = refl
happens_none (suc n) s white black e = rw e refl

pub happens_more : (n : ℕ) (s : MatchState) (white black : List Mark) → is_finished s.stage ≡ false
    → happens (suc n) s white black ≡ reply_to s.stage s.asked white black ∷ happens n (next s (reply_to s.stage s.asked white black)) (left_of_white s.stage white) (left_of_black s.stage black)
unfolding happens
happens_more n s white black e = rw e refl

pub bounded_start : (setup : FullSetup) → IsFullSetup setup → IsBounded (start setup)
bounded_start setup is = record { plies = omega arith; count = omega arith; judged = refl }
