use Rattle.std.specs.Prelude.{nat_le}
use Rattle.hive_model.specs.declared.pieces.Colour.{Colour}
use Rattle.hive_model.specs.declared.pieces.Colour.TheVariants.{White, Black}
use Rattle.hive_model.specs.declared.places.Move.{Move}
use Rattle.hive_model.specs.Legal.{is_over_state}
use Rattle.hive_model.specs.Histories.{is_listed}
use Rattle.move_text.specs.declared.faults.MoveFault.{MoveFault}
use Rattle.match_core.specs.declared.setup.Level.{Level}
use Rattle.match_core.specs.declared.setup.Level.TheVariants.{Depth, Time}
use Rattle.match_core.specs.declared.stage.Task.{Task}
use Rattle.match_core.specs.declared.stage.Task.TheVariants.{Greet, Begin, Ask, Tell}
use Rattle.match_core.specs.declared.stage.Stage.{Stage}
use Rattle.match_core.specs.declared.stage.Stage.TheVariants.{Send, Read, Before, After, Finished}
use Rattle.match_core.specs.declared.verdict.Cause.TheVariants.{Illegal, ErrLine, Flood, Late}
use Rattle.match_core.specs.declared.verdict.Verdict.TheVariants.{Rules, Limit}
use Rattle.match_core.specs.Replies.{is_ok, is_error}
use Rattle.match_core.specs.MatchState.{MatchState, Happening, Sent, Line, TooLong, Ended, Broke, Reading, start, match_after, next, after_all, position_now, finish, ask, judge, judge_read, decide, accept, first_line, at_stage, is_late, keep, reply_ends, hear, forfeit, answered, outcome_of}
use Rattle.match_core.specs.Texts.{read_of}
use Rattle.std.proofs.Common.{◌≡◌, inl, inr, ◌≤◌, ℕ, zero, suc, true, cond, List, [], ◌∷◌, ◌++◌, length, refl, ap, sym, ◌∙◌, Some, arith, subst, Result, Ok, Err, append_assoc}
use Rattle.io_edge.specs.Lines.{Line as Mark, ToldLines}
use Rattle.match_core.specs.Fairness.{Answering, sent, sent_at}
use Rattle.match_core.specs.Plays.{left, IsBounded, reply_to, left_of_white, left_of_black, is_finished, happens, match_of}
use Rattle.match_core.specs.Feeds.{Feeds, AreInTime, with_asked, IsFront, MatchesAreOfTheirLines, MatchesBegin}
use Rattle.match_core.proofs.Falls.{matches_near_their_end}
use Rattle.match_core.proofs.Fair.{either}
use Rattle.match_core.proofs.Follows.{same, next_is, open_at, finish_is, happens_none, happens_more, bounded_start}
use Rattle.std.proofs.lemmas.List.{append-nil}

-- Moves only grow

abbrev Grows : MatchState → MatchState → Type 0
Grows s t = IsFront s.moves t.moves

no_move : (s t : MatchState) → t.moves ≡ s.moves → Grows s t
no_move s t e = ([], e ∙ sym (append-nil s.moves))

asks : (s : MatchState) → Grows s (ask s)
unfolding ask
asks s = no_move s (ask s) refl

decides : (s : MatchState) → Grows s (decide s)
unfolding decide
decides s =
    let P : MatchState → Type 0 = λ t. Grows s t in
    either P (is_over_state (outcome_of s)) (finish s (Rules (outcome_of s))) (cond (nat_le s.setup.limit (length s.moves)) (finish s Limit) (ask s)) (λ e. no_move s (finish s Limit) refl)
    (λ e. either P (nat_le s.setup.limit (length s.moves)) (finish s Limit) (ask s) (λ f. no_move s (finish s Limit) refl) (λ f. asks s))

judges_as : (s : MatchState) (line : List ℕ) (o : Result Move MoveFault) → Grows s (judge_read s line o)
judges_as s line (Err fault) = no_move s (finish s Limit) refl
judges_as s line (Ok m) =
    let P : MatchState → Type 0 = λ t. Grows s t in
    either P (is_listed (position_now s) m) (accept s m) (forfeit s (position_now s).side (Illegal line)) (λ e. (m ∷ [], refl)) (λ e. no_move s (finish s Limit) refl)

judges : (s : MatchState) → Grows s (judge s)
unfolding judge
judges s = judges_as s (first_line s) (read_of s.setup.game_type (position_now s).board (first_line s))

answers_as : (s : MatchState) (level : Level) → Grows s (answered s level)
answers_as s (Depth depth) = judges s
answers_as s (Time budget margin) = no_move s s refl

ends_reply : (s : MatchState) (job : Task) (side : Colour) → Grows s (reply_ends s job side)
ends_reply s Greet White = no_move s s refl
ends_reply s Greet Black = no_move s s refl
ends_reply s Begin White = no_move s s refl
ends_reply s Begin Black = decides s
ends_reply s Ask side = answers_as s s.setup.level
ends_reply s (Tell m) White = no_move s s refl
ends_reply s (Tell m) Black = decides s

hears : (s : MatchState) (job : Task) (side : Colour) (line : List ℕ) → Grows s (hear s job side line)
hears s job side line =
    let P : MatchState → Type 0 = λ t. Grows s t in
    either P (is_ok line) (reply_ends s job side) (cond (is_error line) (forfeit s side (ErrLine line)) (cond (nat_le 1000 s.count) (forfeit s side (Flood 1001)) (keep s (Read job side) line)))
    (λ e. ends_reply s job side)
    (λ e. either P (is_error line) (forfeit s side (ErrLine line)) (cond (nat_le 1000 s.count) (forfeit s side (Flood 1001)) (keep s (Read job side) line)) (λ f. no_move s s refl)
    (λ f. either P (nat_le 1000 s.count) (forfeit s side (Flood 1001)) (keep s (Read job side) line) (λ k. no_move s s refl) (λ k. no_move s s refl)))

grows_at : (stage : Stage) (s : MatchState) (h : Happening) → Grows s (at_stage s stage h)
grows_at (Send job side) s Sent = no_move s s refl
grows_at (Send job side) s Broke = no_move s s refl
grows_at (Send job side) s (Line bytes) = no_move s s refl
grows_at (Send job side) s TooLong = no_move s s refl
grows_at (Send job side) s Ended = no_move s s refl
grows_at (Send job side) s (Reading at) = no_move s s refl
grows_at (Read job side) s (Line bytes) = hears s job side bytes
grows_at (Read job side) s TooLong = no_move s s refl
grows_at (Read job side) s Ended = no_move s s refl
grows_at (Read job side) s Broke = no_move s s refl
grows_at (Read job side) s Sent = no_move s s refl
grows_at (Read job side) s (Reading at) = no_move s s refl
grows_at Before s (Reading at) = no_move s s refl
grows_at Before s Sent = no_move s s refl
grows_at Before s Broke = no_move s s refl
grows_at Before s (Line bytes) = no_move s s refl
grows_at Before s TooLong = no_move s s refl
grows_at Before s Ended = no_move s s refl
grows_at After s (Reading at) =
    let P : MatchState → Type 0 = λ t. Grows s t in
    either P (is_late s at) (forfeit s (position_now s).side (Late s.asked at)) (judge s) (λ e. no_move s s refl) (λ e. judges s)
grows_at After s Sent = no_move s s refl
grows_at After s Broke = no_move s s refl
grows_at After s (Line bytes) = no_move s s refl
grows_at After s TooLong = no_move s s refl
grows_at After s Ended = no_move s s refl
grows_at Finished s h = no_move s s refl

front_front : {X : Type 0} (xs ys zs : List X) → IsFront xs ys → IsFront ys zs → IsFront xs zs
front_front xs ys zs (a, e) (b, f) = (a ++ b, f ∙ (ap (λ z. z ++ b) e ∙ append_assoc xs a b))

grows : (hs : List Happening) (s : MatchState) → Grows s (after_all s hs)
grows [] s = no_move s s refl
grows (h ∷ hs) s = front_front s.moves (next s h).moves (after_all (next s h) hs).moves (subst (λ x. Grows s x) (sym (next_is s h)) (grows_at s.stage s h)) (grows hs (next s h))

pub after_all-append : (fs gs : List Happening) (s : MatchState) → after_all s (fs ++ gs) ≡ after_all (after_all s fs) gs
after_all-append [] gs s = refl
after_all-append (h ∷ fs) gs s = after_all-append fs gs (next s h)

pub sent-append : (fs gs : List Happening) (s : MatchState) (to : Colour) → sent s (fs ++ gs) to ≡ sent s fs to ++ sent (after_all s fs) gs to
sent-append [] gs s to = refl
sent-append (h ∷ fs) gs s to = ap (λ z. sent_at s s.stage h to ++ z) (sent-append fs gs (next s h) to) ∙ sym (append_assoc (sent_at s s.stage h to) (sent (next s h) fs to) _)

-- What was done is an initial part of what happens

pub record BeginsSo (s : MatchState) (hs : List Happening) (t : MatchState) (all : List Happening) : Type 0 where
  pub fs : List Happening
  pub more : List Happening
  pub asked : ℕ
  pub split : all ≡ fs ++ more
  pub match : after_all t fs ≡ with_asked (after_all s hs) asked
  pub white : sent t fs White ≡ sent s hs White
  pub black : sent t fs Black ≡ sent s hs Black
  pub whole : is_finished (after_all s hs).stage ≡ true → more ≡ []

begins_none : (s : MatchState) (a n : ℕ) (white black : List Mark) → BeginsSo s [] (with_asked s a) (happens n (with_asked s a) white black)
begins_none s a n white black = record { fs = []; more = happens n (with_asked s a) white black; asked = a; split = refl; match = refl; white = refl; black = refl; whole = λ e. happens_none n (with_asked s a) white black e }

begins_over : (hs : List Happening) (s : MatchState) (a n : ℕ) (white black : List Mark) → Answering s hs → is_finished s.stage ≡ true → BeginsSo s hs (with_asked s a) (happens n (with_asked s a) white black)
begins_over [] s a n white black t e = begins_none s a n white black
begins_over (h ∷ hs) s a n white black (t, u) e = let f = open_at s.stage h t in absurd (cc)

joins : (s t x : MatchState) (h k : Happening) (hs : List Happening) (F : MatchState → List Happening) → next t k ≡ x → BeginsSo (next s h) hs x (F x) → sent_at t t.stage k White ≡ sent_at s s.stage h White → sent_at t t.stage k Black ≡ sent_at s s.stage h Black
    → BeginsSo s (h ∷ hs) t (k ∷ F (next t k))
joins s t x h k hs F e r w b =
    let q : BeginsSo (next s h) hs (next t k) (F (next t k)) = subst (λ y. BeginsSo (next s h) hs y (F y)) (sym e) r in
    record {
      fs = k ∷ q.fs;
      more = q.more;
      asked = q.asked;
      split = ap (λ (z : List Happening). k ∷ z) q.split;
      match = q.match;
      white = ap (λ z. z ++ sent (next t k) q.fs White) w ∙ ap (λ z. sent_at s s.stage h White ++ z) q.white;
      black = ap (λ z. z ++ sent (next t k) q.fs Black) b ∙ ap (λ z. sent_at s s.stage h Black ++ z) q.black;
      whole = q.whole;
    }

begins : (hs : List Happening) (s : MatchState) (a n : ℕ) (white black : List Mark) (w b : ToldLines) → Answering s hs → AreInTime s hs → Feeds s hs White (Some white) w → Feeds s hs Black (Some black) b → IsBounded s → left s ≤ n
    → BeginsSo s hs (with_asked s a) (happens n (with_asked s a) white black)
begins [] s a n white black w b t i e f bound less = begins_none s a n white black
begins (h ∷ hs) s a zero white black w b (t, u) (i, j) (mw, e, f) (mb, k, g) bound less = let c = matches_near_their_end s h bound t in let d = c.1 in absurd (omega (arith, d, less))
begins (h ∷ hs) s a (suc n) white black w b (t, u) (i, j) (mw, e, f) (mb, k, g) bound less =
    let c = matches_near_their_end s h bound t in
    let st = same s a h white black mw mb t i e k in
    let reply : Happening = reply_to s.stage a white black in
    let x : MatchState = with_asked (next s h) st.asked in
    let moved : next (with_asked s a) reply ≡ x = next_is (with_asked s a) reply ∙ (st.match ∙ ap (λ y. with_asked y st.asked) (sym (next_is s h))) in
    let wl : List Mark = left_of_white s.stage white in
    let bl : List Mark = left_of_black s.stage black in
    let few : left (next s h) ≤ n = let d = c.1 in omega (arith, d, less) in
    let over : is_finished (at_stage s s.stage h).stage ≡ true → BeginsSo (next s h) hs x (happens n x wl bl) =
    λ o. begins_over hs (next s h) st.asked n wl bl u (ap (λ (y : MatchState). is_finished y.stage) (next_is s h) ∙ o) in
    let rest : BeginsSo (next s h) hs x (happens n x wl bl) =
    elim st.w_left as (λ _. BeginsSo (next s h) hs x (happens n x wl bl)) [
      | inr o ↦ over o
      | inl p ↦ elim st.b_left as (λ _. BeginsSo (next s h) hs x (happens n x wl bl)) [
        | inr o ↦ over o
        | inl q ↦ begins hs (next s h) st.asked n wl bl w b u j (subst (λ y. Feeds (next s h) hs White y w) p f) (subst (λ y. Feeds (next s h) hs Black y b) q g) c.0 few
      ]
    ] in
    rw (happens_more n (with_asked s a) white black (open_at s.stage h t)) (joins s (with_asked s a) x h reply hs (λ y. happens n y wl bl) moved rest st.w_sent st.b_sent)

pub matches_begin : MatchesBegin
matches_begin setup hs white black w b is t i e f =
    let q = begins hs (start setup) 0 (left (start setup)) white black w b t i e f (bounded_start setup is) (omega arith) in
    let m : (after_all (start setup) q.fs).moves ≡ (match_after setup hs).moves = ap (λ (x : MatchState). x.moves) q.match in
    let g = grows q.more (after_all (start setup) q.fs) in
    record {
      moves = (g.0, ap (λ (x : List Happening). (match_after setup x).moves) q.split ∙ (ap (λ (x : MatchState). x.moves) (after_all-append q.fs q.more (start setup)) ∙ (g.1 ∙ ap (λ z. z ++ g.0) m)));
      to_white = (sent (after_all (start setup) q.fs) q.more White, ap (λ x. sent (start setup) x White) q.split ∙ (sent-append q.fs q.more (start setup) White ∙ ap (λ z. z ++ sent (after_all (start setup) q.fs) q.more White) q.white));
      to_black = (sent (after_all (start setup) q.fs) q.more Black, ap (λ x. sent (start setup) x Black) q.split ∙ (sent-append q.fs q.more (start setup) Black ∙ ap (λ z. z ++ sent (after_all (start setup) q.fs) q.more Black) q.black));
      first = record { fs = q.fs; front = (q.more, q.split); same = record { asked = q.asked; match = q.match; white = q.white; black = q.black } };
    }

-- if the match is over, everything that happens was done
pub matches_are_of_their_lines : MatchesAreOfTheirLines
matches_are_of_their_lines setup hs white black w b is t i e f fin =
    let q = begins hs (start setup) 0 (left (start setup)) white black w b t i e f (bounded_start setup is) (omega arith) in
    let none : q.more ≡ [] = q.whole ((finish_is (match_after setup hs).stage).0 fin) in
    let all : match_of setup white black ≡ q.fs = q.split ∙ (ap (λ z. q.fs ++ z) none ∙ append-nil q.fs) in
    record {
      asked = q.asked;
      match = ap (match_after setup) all ∙ q.match;
      white = ap (λ z. sent (start setup) z White) all ∙ q.white;
      black = ap (λ z. sent (start setup) z Black) all ∙ q.black;
    }
