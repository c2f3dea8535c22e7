-- Every match is fair: what holds at each stage of it.
use Rattle.std.proofs.Common.{◌≡◌, ◌⊎◌, inl, inr, ℕ, Bool, true, false, cond, List, [], ◌∷◌, ◌++◌, length, refl, ap, sym, ◌∙◌, append_assoc, None, Some, IsTrue, unwrap_or, Result, Ok, Err}
use Rattle.std.specs.declared.option.Option.{Option}
use Rattle.std.proofs.lemmas.List.{append-nil}
use Rattle.std.specs.Prelude.{nat_le}
use Rattle.hive_model.specs.declared.pieces.Colour.{Colour}
use Rattle.hive_model.specs.declared.pieces.Colour.TheVariants.{White, Black}
use Rattle.hive_model.specs.declared.places.Move.{Move}
use Rattle.hive_model.specs.Lists.{IsOn}
use Rattle.hive_model.specs.Positions.{Position, opening}
use Rattle.hive_model.specs.Games.{after, replay, AreLegal}
use Rattle.hive_model.specs.Legal.{is_over_state, moves as legal_moves}
use Rattle.hive_model.specs.Repetition.{outcome_under}
use Rattle.hive_model.specs.Histories.{is_listed}
use Rattle.move_text.specs.declared.faults.MoveFault.{MoveFault}
use Rattle.hive_model.proofs.ListedLaws.{listed_on}
use Rattle.match_core.specs.Setups.{FullSetup}
use Rattle.match_core.specs.declared.setup.Level.{Level}
use Rattle.match_core.specs.declared.setup.Level.TheVariants.{Depth, Time}
use Rattle.match_core.specs.declared.stage.Task.{Task}
use Rattle.match_core.specs.declared.stage.Task.TheVariants.{Greet, Begin, Ask, Tell}
use Rattle.match_core.specs.declared.stage.Stage.{Stage}
use Rattle.match_core.specs.declared.stage.Stage.TheVariants.{Send, Read, Before, After, Finished}
use Rattle.match_core.specs.declared.verdict.Cause.TheVariants.{NotAMove, Illegal, ErrLine, Flood, LongLine, Ended as EndedCause, Broke as BrokeCause, Late}
use Rattle.match_core.specs.declared.verdict.Verdict.{Verdict}
use Rattle.match_core.specs.declared.verdict.Verdict.TheVariants.{Rules, Limit, Forfeit}
use Rattle.match_core.specs.Replies.{is_ok, is_error}
use Rattle.match_core.specs.Texts.{read_of}
use Rattle.match_core.specs.MatchState.{MatchState, Happening, Sent, Line, TooLong, Ended, Broke, Reading as ClockReading, start, match_after, next, after_all, act_at, answers, position_now, go, finish, ask, judge, judge_read, decide, accept, first_line, at_stage, is_late, keep, reply_ends, hear, question, forfeit, answered, outcome_of}
use Rattle.match_core.specs.Fairness.{Answering, told_at, told, WasTold, Reply, Heard, nothing_heard, heard_at, heard, first_of, StandsFrom}
use Rattle.match_core.proofs.Stands.{stands_none, stands_more}

-- A move is accepted: it is legal, and is read from the first line of the last whole reply, which
-- the side to move gave.
pub record IsRead (s : MatchState) (reply : Reply) (m : Move) : Type 0 where
  pub side : reply.side ≡ (position_now s).side
  pub denotes : read_of s.setup.game_type (position_now s).board (first_of reply.lines) ≡ Ok m
  pub legal : IsOn (legal_moves (position_now s)) m

abbrev pub ReadsOn : MatchState → MatchState → Reply → Type 0
ReadsOn s t reply = (t.moves ≡ s.moves) ⊎ ((m : Move) × (t.moves ≡ s.moves ++ m ∷ []) × IsRead s reply m)

pub record Fresh (m : Move) (moves tw tb : List Move) : Type 0 where
  pub before : List Move
  pub made : moves ≡ before ++ m ∷ []
  pub white : tw ≡ before
  pub black : tb ≡ before

pub record Half (m : Move) (moves tw tb : List Move) : Type 0 where
  pub before : List Move
  pub made : moves ≡ before ++ m ∷ []
  pub white : tw ≡ moves
  pub black : tb ≡ before

pub record Both (moves tw tb : List Move) : Type 0 where
  pub white : tw ≡ moves
  pub black : tb ≡ moves

abbrev pub ToldAt : Stage → List Move → List Move → List Move → Type 0
ToldAt (Send Greet side) moves tw tb = Both moves tw tb
ToldAt (Send Begin side) moves tw tb = Both moves tw tb
ToldAt (Send Ask side) moves tw tb = Both moves tw tb
ToldAt (Send (Tell m) White) moves tw tb = Fresh m moves tw tb
ToldAt (Send (Tell m) Black) moves tw tb = Half m moves tw tb
ToldAt (Read Greet side) moves tw tb = Both moves tw tb
ToldAt (Read Begin side) moves tw tb = Both moves tw tb
ToldAt (Read Ask side) moves tw tb = Both moves tw tb
ToldAt (Read (Tell m) White) moves tw tb = Half m moves tw tb
ToldAt (Read (Tell m) Black) moves tw tb = Both moves tw tb
ToldAt Before moves tw tb = Both moves tw tb
ToldAt After moves tw tb = Both moves tw tb
ToldAt Finished moves tw tb = WasTold tw moves × WasTold tb moves

abbrev pub first_option : List (List ℕ) → Option (List ℕ)
first_option [] = None
first_option (line ∷ lines) = Some line

-- the side that is asked is the side to move
abbrev pub IsAsked : Task → Colour → Colour → Type 0
IsAsked Greet side mover = Unit {0}
IsAsked Begin side mover = Unit {0}
IsAsked Ask side mover = side ≡ mover
IsAsked (Tell m) side mover = Unit {0}

abbrev pub HeardAt : Stage → MatchState → Heard → Type 0
HeardAt (Send job side) s k = (k.begun ≡ []) × IsAsked job side (position_now s).side
HeardAt (Read job side) s k = (s.first ≡ first_option k.begun) × IsAsked job side (position_now s).side
HeardAt Before s k = k.begun ≡ []
HeardAt After s k = (k.begun ≡ []) × (s.first ≡ first_option k.last.lines) × (k.last.side ≡ (position_now s).side)
HeardAt Finished s k = Unit {0}

-- The moves are a legal game that begins with those given, and no other move follows the end of the
-- game.
pub record Plays (setup : FullSetup) (moves : List Move) : Type 0 where
  pub legal : AreLegal (opening setup.game_type) moves
  pub stands : StandsFrom setup moves
  pub made : List Move
  pub split : moves ≡ setup.begin ++ made

-- the game is not over, unless it has just begun or a move is being sent
abbrev pub IsOpen : FullSetup → List Move → Type 0
IsOpen setup moves = is_over_state (outcome_under setup.repetition setup.game_type moves) ≡ false

abbrev pub OpenFor : Task → FullSetup → List Move → Type 0
OpenFor Greet setup moves = Unit {0}
OpenFor Begin setup moves = Unit {0}
OpenFor Ask setup moves = IsOpen setup moves
OpenFor (Tell m) setup moves = Unit {0}

abbrev pub OpenAt : Stage → FullSetup → List Move → Type 0
OpenAt (Send job side) setup moves = OpenFor job setup moves
OpenAt (Read job side) setup moves = OpenFor job setup moves
OpenAt Before setup moves = IsOpen setup moves
OpenAt After setup moves = IsOpen setup moves
OpenAt Finished setup moves = Unit {0}

pub record Good (s : MatchState) (k : Heard) (tw tb : List Move) : Type 0 where
  pub legal : Plays s.setup s.moves
  pub yet : OpenAt s.stage s.setup s.moves
  pub told : ToldAt s.stage s.moves tw tb
  pub heard : HeardAt s.stage s k

-- the result of a step from s
pub record Steps (s t : MatchState) (k : Heard) (tw tb : List Move) : Type 0 where
  pub good : Good t k tw tb
  pub moves : ReadsOn s t k.last
  pub same : t.setup ≡ s.setup

told_both : {moves tw tb : List Move} → Both moves tw tb → WasTold tw moves × WasTold tb moves
told_both b = (inl b.white, inl b.black)

told_half : {m : Move} {moves tw tb : List Move} → Half m moves tw tb → WasTold tw moves × WasTold tb moves
told_half {m} h = (inl h.white, inr (h.before, m, h.made, h.black))

told_fresh : {m : Move} {moves tw tb : List Move} → Fresh m moves tw tb → WasTold tw moves × WasTold tb moves
told_fresh {m} h = (inr (h.before, m, h.made, h.white), inr (h.before, m, h.made, h.black))

pub told_some : (stage : Stage) (moves tw tb : List Move) → ToldAt stage moves tw tb → WasTold tw moves × WasTold tb moves
told_some (Send Greet side) moves tw tb t = told_both t
told_some (Send Begin side) moves tw tb t = told_both t
told_some (Send Ask side) moves tw tb t = told_both t
told_some (Send (Tell m) White) moves tw tb t = told_fresh t
told_some (Send (Tell m) Black) moves tw tb t = told_half t
told_some (Read Greet side) moves tw tb t = told_both t
told_some (Read Begin side) moves tw tb t = told_both t
told_some (Read Ask side) moves tw tb t = told_both t
told_some (Read (Tell m) White) moves tw tb t = told_half t
told_some (Read (Tell m) Black) moves tw tb t = told_both t
told_some Before moves tw tb t = told_both t
told_some After moves tw tb t = told_both t
told_some Finished moves tw tb t = t

finishes : (s : MatchState) (v : Verdict) (k : Heard) (tw tb : List Move) (stage : Stage) → Plays s.setup s.moves → ToldAt stage s.moves tw tb → Steps s (finish s v) k tw tb
finishes s v k tw tb stage legal t = record { good = record { legal = legal; yet = tt; told = told_some stage s.moves tw tb t; heard = tt }; moves = inl refl; same = refl }

-- both sides know all moves, and no reply is begun
pub record Ready (s : MatchState) (k : Heard) (tw tb : List Move) : Type 0 where
  pub legal : Plays s.setup s.moves
  pub both : Both s.moves tw tb
  pub begun : k.begun ≡ []

asks_at : (s : MatchState) (level : Level) (k : Heard) (tw tb : List Move) → Ready s k tw tb → IsOpen s.setup s.moves → Steps s (go s (question level (position_now s).side)) k tw tb
asks_at s (Depth depth) k tw tb r yet = record { good = record { legal = r.legal; yet = yet; told = r.both; heard = (r.begun, refl) }; moves = inl refl; same = refl }
asks_at s (Time budget margin) k tw tb r yet = record { good = record { legal = r.legal; yet = yet; told = r.both; heard = r.begun }; moves = inl refl; same = refl }

asks : (s : MatchState) (k : Heard) (tw tb : List Move) → Ready s k tw tb → IsOpen s.setup s.moves → Steps s (ask s) k tw tb
unfolding ask
asks s k tw tb r yet = asks_at s s.setup.level k tw tb r yet

pub either : (P : MatchState → Type 0) (b : Bool) (x y : MatchState) → (b ≡ true → P x) → (b ≡ false → P y) → P (cond b x y)
either P true x y f g = f refl
either P false x y f g = g refl

either_two : (P : MatchState → Heard → Type 0) (b : Bool) (x y : MatchState) (k j : Heard) → (b ≡ true → P x k) → (b ≡ false → P y j) → P (cond b x y) (cond b k j)
either_two P true x y k j f g = f refl
either_two P false x y k j f g = g refl

decides : (s : MatchState) (k : Heard) (tw tb : List Move) → Ready s k tw tb → Steps s (decide s) k tw tb
unfolding decide
decides s k tw tb r =
    let P : MatchState → Type 0 = λ t. Steps s t k tw tb in
    either P (is_over_state (outcome_of s)) (finish s (Rules (outcome_of s))) (cond (nat_le s.setup.limit (length s.moves)) (finish s Limit) (ask s))
    (λ e. finishes s (Rules (outcome_of s)) k tw tb Before r.legal r.both)
    (λ e. either P (nat_le s.setup.limit (length s.moves)) (finish s Limit) (ask s) (λ f. finishes s Limit k tw tb Before r.legal r.both) (λ f. asks s k tw tb r e))

legal_more : (p : Position) (ms : List Move) (m : Move) → AreLegal p ms → IsOn (legal_moves (replay p ms)) m → AreLegal p (ms ++ m ∷ [])
legal_more p [] m a h = (h, tt)
legal_more p (x ∷ ms) m a h = (a.0, legal_more (after p x) ms m a.1 h)

plays_more : (setup : FullSetup) (ms : List Move) (m : Move) → Plays setup ms → IsOpen setup ms → IsOn (legal_moves (replay (opening setup.game_type) ms)) m → Plays setup (ms ++ m ∷ [])
plays_more setup ms m plays yet on = record {
  legal = legal_more (opening setup.game_type) ms m plays.legal on;
  stands = stands_more setup plays.made ms m plays.split plays.stands yet;
  made = plays.made ++ m ∷ [];
  split = ap (λ (z : List Move). z ++ m ∷ []) plays.split ∙ append_assoc setup.begin plays.made (m ∷ []);
}

first-of : (o : Option (List ℕ)) (lines : List (List ℕ)) → o ≡ first_option lines → unwrap_or o [] ≡ first_of lines
first-of o [] e = rw e refl
first-of o (line ∷ lines) e = rw e refl

judges_as : (s : MatchState) (line : List ℕ) (o : Result Move MoveFault) (k : Heard) (tw tb : List Move) → Ready s k tw tb → IsOpen s.setup s.moves → read_of s.setup.game_type (position_now s).board line ≡ o → line ≡ first_of k.last.lines → k.last.side ≡ (position_now s).side
    → Steps s (judge_read s line o) k tw tb
judges_as s line (Err fault) k tw tb r yet e f side = finishes s (Forfeit (position_now s).side (NotAMove line)) k tw tb Before r.legal r.both
judges_as s line (Ok m) k tw tb r yet e f side =
    let P : MatchState → Type 0 = λ t. Steps s t k tw tb in
    either P (is_listed (position_now s) m) (accept s m) (forfeit s (position_now s).side (Illegal line))
    (λ l. record {
      good = record { legal = plays_more s.setup s.moves m r.legal yet (listed_on (position_now s) m l); yet = tt; told = record { before = s.moves; made = refl; white = r.both.white; black = r.both.black }; heard = (r.begun, tt) };
      moves = inr (m, refl, record { side = side; denotes = ap (read_of s.setup.game_type (position_now s).board) (sym f) ∙ e; legal = listed_on (position_now s) m l });
      same = refl;
    })
    (λ l. finishes s (Forfeit (position_now s).side (Illegal line)) k tw tb Before r.legal r.both)

judges : (s : MatchState) (k : Heard) (tw tb : List Move) → Ready s k tw tb → IsOpen s.setup s.moves → s.first ≡ first_option k.last.lines → k.last.side ≡ (position_now s).side → Steps s (judge s) k tw tb
unfolding judge
judges s k tw tb r yet f side = judges_as s (first_line s) (read_of s.setup.game_type (position_now s).board (first_line s)) k tw tb r yet refl (first-of s.first k.last.lines f) side

answers_at : (s : MatchState) (level : Level) (k : Heard) (tw tb : List Move) → Ready s k tw tb → IsOpen s.setup s.moves → s.first ≡ first_option k.last.lines → k.last.side ≡ (position_now s).side → Steps s (answered s level) k tw tb
answers_at s (Depth depth) k tw tb r yet f side = judges s k tw tb r yet f side
answers_at s (Time budget margin) k tw tb r yet f side = record { good = record { legal = r.legal; yet = yet; told = r.both; heard = (r.begun, f, side) }; moves = inl refl; same = refl }

-- k is what was heard before the ok
ends_reply : (s : MatchState) (job : Task) (side : Colour) (lines : List (List ℕ)) (tw tb : List Move) → Plays s.setup s.moves → OpenFor job s.setup s.moves → ToldAt (Read job side) s.moves tw tb
    → s.first ≡ first_option lines → IsAsked job side (position_now s).side → Steps s (reply_ends s job side) (record { begun = []; last = record { side = side; lines = lines } }) tw tb
ends_reply s Greet White lines tw tb legal yet t f a = record { good = record { legal = legal; yet = yet; told = t; heard = (refl, tt) }; moves = inl refl; same = refl }
ends_reply s Greet Black lines tw tb legal yet t f a = record { good = record { legal = legal; yet = yet; told = t; heard = (refl, tt) }; moves = inl refl; same = refl }
ends_reply s Begin White lines tw tb legal yet t f a = record { good = record { legal = legal; yet = yet; told = t; heard = (refl, tt) }; moves = inl refl; same = refl }
ends_reply s Begin Black lines tw tb legal yet t f a = decides s _ tw tb (record { legal = legal; both = t; begun = refl })
ends_reply s Ask side lines tw tb legal yet t f a = answers_at s s.setup.level _ tw tb (record { legal = legal; both = t; begun = refl }) yet f a
ends_reply s (Tell m) White lines tw tb legal yet t f a = record { good = record { legal = legal; yet = yet; told = t; heard = (refl, tt) }; moves = inl refl; same = refl }
ends_reply s (Tell m) Black lines tw tb legal yet t f a = decides s _ tw tb (record { legal = legal; both = t; begun = refl })

first-keep : (o : Option (List ℕ)) (lines : List (List ℕ)) (line : List ℕ) → o ≡ first_option lines → Some (unwrap_or o line) ≡ first_option (lines ++ line ∷ [])
first-keep o [] line e = rw e refl
first-keep o (x ∷ lines) line e = rw e refl

hears : (s : MatchState) (job : Task) (side : Colour) (line : List ℕ) (k : Heard) (tw tb : List Move) → Plays s.setup s.moves → OpenFor job s.setup s.moves → ToldAt (Read job side) s.moves tw tb
    → s.first ≡ first_option k.begun → IsAsked job side (position_now s).side → Steps s (hear s job side line) (heard_at (Read job side) k (Line line)) tw tb
hears s job side line k tw tb legal yet t f a =
    let P : MatchState → Heard → Type 0 = λ x j. Steps s x j tw tb in
    let more : Heard = record { begun = k.begun ++ line ∷ []; last = k.last } in
    let Q : MatchState → Type 0 = λ x. Steps s x more tw tb in
    either_two P (is_ok line) (reply_ends s job side) (cond (is_error line) (forfeit s side (ErrLine line)) (cond (nat_le 1000 s.count) (forfeit s side (Flood 1001)) (keep s (Read job side) line)))
    (record { begun = []; last = record { side = side; lines = k.begun } }) more
    (λ e. ends_reply s job side k.begun tw tb legal yet t f a)
    (λ e. either Q (is_error line) (forfeit s side (ErrLine line)) (cond (nat_le 1000 s.count) (forfeit s side (Flood 1001)) (keep s (Read job side) line))
    (λ g. finishes s (Forfeit side (ErrLine line)) more tw tb (Read job side) legal t)
    (λ g. either Q (nat_le 1000 s.count) (forfeit s side (Flood 1001)) (keep s (Read job side) line)
    (λ h. finishes s (Forfeit side (Flood 1001)) more tw tb (Read job side) legal t)
    (λ h. record { good = record { legal = legal; yet = yet; told = t; heard = (first-keep s.first k.begun line f, a) }; moves = inl refl; same = refl })))

plain : {s t : MatchState} {k : Heard} {tw tb : List Move} → Steps s t k tw tb → Steps s t k (tw ++ []) (tb ++ [])
plain {s} {t} {k} {tw} {tb} p = rw (append-nil tw, append-nil tb) p

told_broke : (job : Task) (side to : Colour) → told_at (Send job side) Broke to ≡ []
told_broke Greet side to = refl
told_broke Begin side to = refl
told_broke Ask side to = refl
told_broke (Tell m) side to = refl

sent_at_send : (s : MatchState) (job : Task) (side : Colour) (k : Heard) (tw tb : List Move) → Plays s.setup s.moves → OpenFor job s.setup s.moves → ToldAt (Send job side) s.moves tw tb → k.begun ≡ [] → IsAsked job side (position_now s).side
    → Steps s (go s (Read job side)) k (tw ++ told_at (Send job side) Sent White) (tb ++ told_at (Send job side) Sent Black)
sent_at_send s Greet side k tw tb legal yet t b a = plain (record { good = record { legal = legal; yet = yet; told = t; heard = (rw b refl, tt) }; moves = inl refl; same = refl })
sent_at_send s Begin side k tw tb legal yet t b a = plain (record { good = record { legal = legal; yet = yet; told = t; heard = (rw b refl, tt) }; moves = inl refl; same = refl })
sent_at_send s Ask side k tw tb legal yet t b a = plain (record { good = record { legal = legal; yet = yet; told = t; heard = (rw b refl, a) }; moves = inl refl; same = refl })
sent_at_send s (Tell m) White k tw tb legal yet t b a = record {
  good = record { legal = legal; yet = yet; told = record { before = t.before; made = t.made; white = rw t.white (sym t.made); black = append-nil tb ∙ t.black }; heard = (rw b refl, tt) };
  moves = inl refl;
  same = refl;
}
sent_at_send s (Tell m) Black k tw tb legal yet t b a = record {
  good = record { legal = legal; yet = yet; told = record { white = append-nil tw ∙ t.white; black = rw t.black (sym t.made) }; heard = (rw b refl, tt) };
  moves = inl refl;
  same = refl;
}

broke_at_send : (s : MatchState) (job : Task) (side : Colour) (k : Heard) (tw tb : List Move) → Plays s.setup s.moves → ToldAt (Send job side) s.moves tw tb
    → Steps s (forfeit s side BrokeCause) k (tw ++ told_at (Send job side) Broke White) (tb ++ told_at (Send job side) Broke Black)
broke_at_send s job side k tw tb legal t = rw (told_broke job side White, told_broke job side Black) (plain (finishes s (Forfeit side BrokeCause) k tw tb (Send job side) legal t))

steps_at : (stage : Stage) (s : MatchState) (k : Heard) (tw tb : List Move) (h : Happening) → Plays s.setup s.moves → OpenAt stage s.setup s.moves → ToldAt stage s.moves tw tb → HeardAt stage s k → IsTrue (answers (act_at stage) h)
    → Steps s (at_stage s stage h) (heard_at stage k h) (tw ++ told_at stage h White) (tb ++ told_at stage h Black)
steps_at (Send job side) s k tw tb Sent legal yet t (b, a) w = sent_at_send s job side k tw tb legal yet t b a
steps_at (Send job side) s k tw tb Broke legal yet t (b, a) w = broke_at_send s job side k tw tb legal t
steps_at (Send job side) s k tw tb (Line bytes) legal yet t (b, a) w = absurd (cc)
steps_at (Send job side) s k tw tb TooLong legal yet t (b, a) w = absurd (cc)
steps_at (Send job side) s k tw tb Ended legal yet t (b, a) w = absurd (cc)
steps_at (Send job side) s k tw tb (ClockReading at) legal yet t (b, a) w = absurd (cc)
steps_at (Read job side) s k tw tb (Line bytes) legal yet t (f, a) w = plain (hears s job side bytes k tw tb legal yet t f a)
steps_at (Read job side) s k tw tb TooLong legal yet t (f, a) w = plain (finishes s (Forfeit side LongLine) k tw tb (Read job side) legal t)
steps_at (Read job side) s k tw tb Ended legal yet t (f, a) w = plain (finishes s (Forfeit side EndedCause) k tw tb (Read job side) legal t)
steps_at (Read job side) s k tw tb Broke legal yet t (f, a) w = plain (finishes s (Forfeit side BrokeCause) k tw tb (Read job side) legal t)
steps_at (Read job side) s k tw tb Sent legal yet t (f, a) w = absurd (cc)
steps_at (Read job side) s k tw tb (ClockReading at) legal yet t (f, a) w = absurd (cc)
steps_at Before s k tw tb (ClockReading at) legal yet t b w = plain (record { good = record { legal = legal; yet = yet; told = t; heard = (b, refl) }; moves = inl refl; same = refl })
steps_at Before s k tw tb Sent legal yet t b w = absurd (cc)
steps_at Before s k tw tb Broke legal yet t b w = absurd (cc)
steps_at Before s k tw tb (Line bytes) legal yet t b w = absurd (cc)
steps_at Before s k tw tb TooLong legal yet t b w = absurd (cc)
steps_at Before s k tw tb Ended legal yet t b w = absurd (cc)
steps_at After s k tw tb (ClockReading at) legal yet t (b, f, side) w =
    let P : MatchState → Type 0 = λ x. Steps s x k tw tb in
    plain (either P (is_late s at) (forfeit s (position_now s).side (Late s.asked at)) (judge s)
    (λ e. finishes s (Forfeit (position_now s).side (Late s.asked at)) k tw tb After legal t)
    (λ e. judges s k tw tb (record { legal = legal; both = t; begun = b }) yet f side))
steps_at After s k tw tb Sent legal yet t b w = absurd (cc)
steps_at After s k tw tb Broke legal yet t b w = absurd (cc)
steps_at After s k tw tb (Line bytes) legal yet t b w = absurd (cc)
steps_at After s k tw tb TooLong legal yet t b w = absurd (cc)
steps_at After s k tw tb Ended legal yet t b w = absurd (cc)
steps_at Finished s k tw tb h legal yet t b w = absurd (cc)

pub steps : (s : MatchState) (k : Heard) (tw tb : List Move) (h : Happening) → Good s k tw tb → IsTrue (answers (act_at s.stage) h)
    → Steps s (next s h) (heard_at s.stage k h) (tw ++ told_at s.stage h White) (tb ++ told_at s.stage h Black)
unfolding next
steps s k tw tb h g w = steps_at s.stage s k tw tb h g.legal g.yet g.told g.heard w

-- along a list of events
pub record All (s t : MatchState) (k : Heard) (tw tb : List Move) : Type 0 where
  pub good : Good t k tw tb
  pub same : t.setup ≡ s.setup

pub goes : (hs : List Happening) (s : MatchState) (k : Heard) (tw tb : List Move) → Good s k tw tb → Answering s hs → All s (after_all s hs) (heard s k hs) (tw ++ told s hs White) (tb ++ told s hs Black)
goes [] s k tw tb g a = record { good = rw (append-nil tw, append-nil tb) g; same = refl }
goes (h ∷ hs) s k tw tb g (w, a) =
    let st = steps s k tw tb h g w in
    let r = goes hs (next s h) (heard_at s.stage k h) (tw ++ told_at s.stage h White) (tb ++ told_at s.stage h Black) st.good a in
    let e : (tw ++ told_at s.stage h White) ++ told (next s h) hs White ≡ tw ++ told s (h ∷ hs) White = append_assoc tw (told_at s.stage h White) (told (next s h) hs White) in
    let f : (tb ++ told_at s.stage h Black) ++ told (next s h) hs Black ≡ tb ++ told s (h ∷ hs) Black = append_assoc tb (told_at s.stage h Black) (told (next s h) hs Black) in
    record { good = rw (← e, ← f) r.good; same = r.same ∙ st.same }

-- both sides know the moves with which the match begins
pub good_start : (setup : FullSetup) → AreLegal (opening setup.game_type) setup.begin → Good (start setup) nothing_heard setup.begin setup.begin
good_start setup legal = record {
  legal = record { legal = legal; stands = stands_none setup; made = []; split = sym (append-nil setup.begin) };
  yet = tt;
  told = record { white = refl; black = refl };
  heard = (refl, tt);
}

answering_front : (hs : List Happening) (s : MatchState) (h : Happening) → Answering s (hs ++ h ∷ []) → Answering s hs × IsTrue (answers (act_at (after_all s hs).stage) h)
answering_front [] s h a = (tt, a.0)
answering_front (x ∷ hs) s h (w, a) = let (b, c) = answering_front hs (next s x) h a in ((w, b), c)

pub after_all-snoc : (hs : List Happening) (s : MatchState) (h : Happening) → after_all s (hs ++ h ∷ []) ≡ next (after_all s hs) h
after_all-snoc [] s h = refl
after_all-snoc (x ∷ hs) s h = after_all-snoc hs (next s x) h

heard-snoc : (hs : List Happening) (s : MatchState) (k : Heard) (h : Happening) → heard s k (hs ++ h ∷ []) ≡ heard_at (after_all s hs).stage (heard s k hs) h
heard-snoc [] s k h = refl
heard-snoc (x ∷ hs) s k h = heard-snoc hs (next s x) (heard_at s.stage k x) h

-- the match before an event, and the result of the event
pub record Reading (setup : FullSetup) (hs : List Happening) (h : Happening) : Type 0 where
  pub fits : Answering (start setup) hs
  pub answered : IsTrue (answers (act_at (match_after setup hs).stage) h)
  pub legal : AreLegal (opening (match_after setup hs).setup.game_type) (match_after setup hs).moves
  pub same : (match_after setup hs).setup ≡ setup
  pub moves : ReadsOn (match_after setup hs) (match_after setup (hs ++ h ∷ [])) (heard (start setup) nothing_heard (hs ++ h ∷ [])).last

pub reads : (setup : FullSetup) (hs : List Happening) (h : Happening) → AreLegal (opening setup.game_type) setup.begin → Answering (start setup) (hs ++ h ∷ []) → Reading setup hs h
reads setup hs h legal a =
    let (b, w) = answering_front hs (start setup) h a in
    let r = goes hs (start setup) nothing_heard setup.begin setup.begin (good_start setup legal) b in
    let st = steps (match_after setup hs) _ _ _ h r.good w in
    record { fits = b; answered = w; legal = r.good.legal.legal; same = r.same; moves = rw (after_all-snoc hs (start setup) h, heard-snoc hs (start setup) nothing_heard h) st.moves }
