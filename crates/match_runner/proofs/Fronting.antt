use Rattle.std.proofs.lemmas.List.{append-nil, take-append-drop}
use Rattle.io_edge.proofs.Told.{behind-behind}
use Rattle.hive_model.specs.declared.pieces.Colour.{Colour}
use Rattle.hive_model.specs.declared.pieces.Colour.TheVariants.{White, Black}
use Rattle.match_core.specs.Setups.{FullSetup}
use Rattle.match_core.specs.declared.stage.Stage.{Stage}
use Rattle.match_core.specs.declared.stage.Stage.TheVariants.{Send, Read, Before, After, Finished as FinishedStage}
use Rattle.match_core.specs.declared.stage.Act.TheVariants.{Send as SendAct, Read as ReadAct, Finish}
use Rattle.match_core.specs.MatchState.{MatchState, Happening, start, match_after, next, after_all, act_at, answers, at_stage, is_late, Sent, Line, TooLong, Ended, Broke, Reading}
use Rattle.match_core.specs.Fairness.{Answering, sent, sent_at}
use Rattle.match_core.specs.Plays.{joined, match_of}
use Rattle.io_edge.specs.Lines.{ToldLines, Line as Mark, lines}
use Rattle.match_core.specs.Feeds.{FeedsAt, Feeds, IsInTime, AreInTime, IsFront}
use Rattle.match_runner.specs.Wires.{Watch, Wire}
use Rattle.match_runner.proofs.Endings.{by_end}
use Rattle.match_runner.specs.Turns.{Side, is_broke, side_of, CutSide}
use Rattle.match_runner.specs.Runs.{AreSound, Run, Cut, FinalRun, FrontRun, IsFrontOf, IsFrontSent}
use Rattle.std.proofs.Common.{◌≡◌, ◌⊎◌, inl, inr, ℕ, true, false, List, [], ◌∷◌, refl, ap, sym, ◌∙◌, Some, IsTrue, subst, ◌++◌, append_assoc}
use Rattle.io_edge.specs.Outside.{Told, behind}
use Rattle.line_feed.specs.Feed.{fresh}
use Rattle.match_core.specs.Keeps.{IsFullSetup}
use Rattle.match_core.proofs.Follows.{next_is}
use Rattle.match_core.proofs.Fronts.{matches_begin}
use Rattle.match_runner.proofs.Looks.{moves_broke}
use Rattle.match_runner.proofs.Telling.{feeds_from}
use Rattle.match_runner.proofs.Progress.{joined-append, sent-snoc, feeds-snoc, answering-snoc, sound-snoc}
use Rattle.std.specs.Prelude.{take, drop}

abbrev IsLateAt : Stage → MatchState → Happening → Type 0
IsLateAt After s (Reading at) = is_late s at ≡ true
IsLateAt After s Sent = ⊥
IsLateAt After s (Line bytes) = ⊥
IsLateAt After s TooLong = ⊥
IsLateAt After s Ended = ⊥
IsLateAt After s Broke = ⊥
IsLateAt (Send job side) s h = ⊥
IsLateAt (Read job side) s h = ⊥
IsLateAt Before s h = ⊥
IsLateAt FinishedStage s h = ⊥

late_or : (stage : Stage) (s : MatchState) (h : Happening) → is_broke h ≡ false → IsInTime stage s h ⊎ IsLateAt stage s h
late_or After s (Reading at) v = elim (is_late s at) as (λ b. is_late s at ≡ b → (is_late s at ≡ false) ⊎ (is_late s at ≡ true)) [ true ↦ λ l. inr l | false ↦ λ l. inl l ] refl
late_or After s Sent v = inl tt
late_or After s (Line bytes) v = inl tt
late_or After s TooLong v = inl tt
late_or After s Ended v = inl tt
late_or After s Broke v = absurd (cc)
late_or (Send job side) s Broke v = absurd (cc)
late_or (Send job side) s Sent v = inl tt
late_or (Send job side) s (Line bytes) v = inl tt
late_or (Send job side) s TooLong v = inl tt
late_or (Send job side) s Ended v = inl tt
late_or (Send job side) s (Reading at) v = inl tt
late_or (Read job side) s h v = inl tt
late_or Before s h v = inl tt
late_or FinishedStage s h v = inl tt

late_over : (stage : Stage) (s : MatchState) (h : Happening) → IsLateAt stage s h → (act_at (at_stage s stage h).stage ≡ Finish) × ((at_stage s stage h).moves ≡ s.moves)
late_over After s (Reading at) l = rw l (refl, refl)
late_over After s Sent l = absurd l
late_over After s (Line bytes) l = absurd l
late_over After s TooLong l = absurd l
late_over After s Ended l = absurd l
late_over After s Broke l = absurd l
late_over (Send job side) s h l = absurd l
late_over (Read job side) s h l = absurd l
late_over Before s h l = absurd l
late_over FinishedStage s h l = absurd l

over_moves : (hs : List Happening) (x : MatchState) → act_at x.stage ≡ Finish → Answering x hs → (after_all x hs).moves ≡ x.moves
over_moves [] x e a = refl
over_moves (k ∷ hs) x e (t, u) = let w : IsTrue (answers Finish k) = subst (λ z. IsTrue (answers z k)) e t in absurd (cc)

over_sends : (hs : List Happening) (x : MatchState) (to : Colour) → act_at x.stage ≡ Finish → Answering x hs → sent x hs to ≡ []
over_sends [] x to e a = refl
over_sends (k ∷ hs) x to e (t, u) = let w : IsTrue (answers Finish k) = subst (λ z. IsTrue (answers z k)) e t in absurd (cc)

late_sends : (stage : Stage) (s : MatchState) (h : Happening) → IsLateAt stage s h → (to : Colour) (hs : List Happening) (x : MatchState) → act_at x.stage ≡ Finish → Answering x hs → sent_at s stage h to ++ sent x hs to ≡ []
late_sends After s h l to hs x e a = over_sends hs x to e a
late_sends (Send job side) s h l to hs x e a = absurd l
late_sends (Read job side) s h l to hs x e a = absurd l
late_sends Before s h l to hs x e a = absurd l
late_sends FinishedStage s h l to hs x e a = absurd l

-- the initial part of the events that is in time
record InFront (s : MatchState) (hs : List Happening) (o p : ToldLines) : Type 0 where
  fs : List Happening
  w : ToldLines
  b : ToldLines
  fits : Answering s fs
  time : AreInTime s fs
  white : Feeds s fs White o w
  black : Feeds s fs Black p b
  moves : (after_all s hs).moves ≡ (after_all s fs).moves
  to_white : sent s hs White ≡ sent s fs White
  to_black : sent s hs Black ≡ sent s fs Black

in_front_of : (hs : List Happening) (s : MatchState) (o p w b : ToldLines) → Answering s hs → AreSound hs → Feeds s hs White o w → Feeds s hs Black p b → InFront s hs o p
in_front_of [] s o p w b a v e f = record { fs = []; w = o; b = p; fits = tt; time = tt; white = refl; black = refl; moves = refl; to_white = refl; to_black = refl }
in_front_of (h ∷ hs) s o p w b (t, a) (v, vs) (mw, e, es) (mb, f, fs) =
    elim (late_or s.stage s h v) as (λ _. InFront s (h ∷ hs) o p) [
      | inl i ↦
          let r = in_front_of hs (next s h) mw mb w b a vs es fs in
          record { fs = h ∷ r.fs; w = r.w; b = r.b; fits = (t, r.fits); time = (i, r.time); white = (mw, e, r.white); black = (mb, f, r.black); moves = r.moves; to_white = ap (λ z. sent_at s s.stage h White ++ z) r.to_white; to_black = ap (λ z. sent_at s s.stage h Black ++ z) r.to_black }
      | inr l ↦
          let k = late_over s.stage s h l in
          let fin : act_at (next s h).stage ≡ Finish = ap (λ (x : MatchState). act_at x.stage) (next_is s h) ∙ k.0 in
          let same : (next s h).moves ≡ s.moves = ap (λ (x : MatchState). x.moves) (next_is s h) ∙ k.1 in
          record { fs = []; w = o; b = p; fits = tt; time = tt; white = refl; black = refl; moves = over_moves hs (next s h) fin a ∙ same; to_white = late_sends s.stage s h l White hs (next s h) fin a; to_black = late_sends s.stage s h l Black hs (next s h) fin a }
    ]

joined_front : (xs ys : List (List ℕ)) → IsFront xs ys → IsFront (joined xs) (joined ys)
joined_front xs ys (more, e) = (joined more, ap joined e ∙ joined-append xs more)

-- the moves and lines of events that are no fault are the first ones
record Fronts (setup : FullSetup) (hs : List Happening) (white black : List Mark) : Type 0 where
  moves : IsFront (match_after setup hs).moves (match_after setup (match_of setup white black)).moves
  to_white : IsFront (joined (sent (start setup) hs White)) (joined (sent (start setup) (match_of setup white black) White))
  to_black : IsFront (joined (sent (start setup) hs Black)) (joined (sent (start setup) (match_of setup white black) Black))

fronts : (setup : FullSetup) (hs : List Happening) (white black : List Mark) (w b : ToldLines) → IsFullSetup setup → Answering (start setup) hs → AreSound hs → Feeds (start setup) hs White (Some white) w → Feeds (start setup) hs Black (Some black) b → Fronts setup hs white black
fronts setup hs white black w b is a v e f =
    let q = in_front_of hs (start setup) (Some white) (Some black) w b a v e f in
    let g = matches_begin setup q.fs white black q.w q.b is q.fits q.time q.white q.black in
    record {
      moves = subst (λ z. IsFront z (match_after setup (match_of setup white black)).moves) (sym q.moves) g.moves;
      to_white = subst (λ z. IsFront (joined z) (joined (sent (start setup) (match_of setup white black) White))) (sym q.to_white) (joined_front _ _ g.to_white);
      to_black = subst (λ z. IsFront (joined z) (joined (sent (start setup) (match_of setup white black) Black))) (sym q.to_black) (joined_front _ _ g.to_black);
    }

front_run : (setup : FullSetup) (t : MatchState) (w_old b_old : Told) (w b : Side) (w_rest b_rest : Told) (r0 r : Watch) (white black : List ℕ) → IsFullSetup setup → w_rest ≡ Some white → b_rest ≡ Some black
    → Run setup t (side_of fresh w_rest w_old) w (side_of fresh b_rest b_old) b r0 r → IsFrontOf setup (lines white) (lines black) t w_old w.written b_old b.written
front_run setup t w_old b_old w b w_rest b_rest r0 r white black is e f (hs, run) =
    let g = fronts setup hs (lines white) (lines black) w.ahead b.ahead is run.fits run.sound (feeds_from setup hs White w_rest w_old w white e run.white) (feeds_from setup hs Black b_rest b_old b black f run.black) in
    record {
      moves = subst (λ (z : MatchState). IsFront z.moves (match_after setup (match_of setup (lines white) (lines black))).moves) (sym run.here) g.moves;
      to_white = (joined (sent (start setup) hs White), run.white.wrote, g.to_white);
      to_black = (joined (sent (start setup) hs Black), run.black.wrote, g.to_black);
    }

taken : (n : ℕ) (xs : List ℕ) → xs ≡ take n xs ++ drop n xs
taken n xs = sym (take-append-drop n xs)

part_front : (n : ℕ) (xs ys all : List ℕ) → IsFront (xs ++ ys) all → IsFront (xs ++ take n ys) all
part_front n xs ys all (more, e) = (drop n ys ++ more, e ∙ (ap (λ z. (xs ++ z) ++ more) (taken n ys) ∙ (ap (λ z. z ++ more) (sym (append_assoc xs (take n ys) (drop n ys))) ∙ append_assoc (xs ++ take n ys) (drop n ys) more)))

none_front : (n : ℕ) (xs all : List ℕ) (y : List (List ℕ)) → y ≡ [] → IsFront xs all → IsFront (xs ++ take n (joined y)) all
none_front n xs all y e f = rw e (part_front n xs [] all (subst (λ z. IsFront z all) (sym (append-nil xs)) f))

-- the line that had to be sent is added to that initial part
sends_on : (stage : Stage) (side to : Colour) (o : ToldLines) → act_at stage ≡ SendAct side → FeedsAt stage Sent to o o
sends_on (Send job at) side to o e = refl
sends_on (Read job at) side to o e = absurd (cc)
sends_on Before side to o e = refl
sends_on After side to o e = refl
sends_on FinishedStage side to o e = refl

read_nothing : (stage : Stage) (s : MatchState) (side to : Colour) → act_at stage ≡ ReadAct side → sent_at s stage Sent to ≡ []
read_nothing (Read job at) s side to e = refl
read_nothing (Send job at) s side to e = absurd (cc)
read_nothing Before s side to e = refl
read_nothing After s side to e = refl
read_nothing FinishedStage s side to e = refl

-- both sides, if the line of this act is taken in part
record CutFronts (setup : FullSetup) (hs : List Happening) (white black : List Mark) : Type 0 where
  to_white : (n : ℕ) → IsFront (joined (sent (start setup) hs White) ++ take n (joined (sent_at (match_after setup hs) (match_after setup hs).stage Sent White))) (joined (sent (start setup) (match_of setup white black) White))
  to_black : (n : ℕ) → IsFront (joined (sent (start setup) hs Black) ++ take n (joined (sent_at (match_after setup hs) (match_after setup hs).stage Sent Black))) (joined (sent (start setup) (match_of setup white black) Black))

cut_fronts : (side : Colour) (setup : FullSetup) (hs : List Happening) (white black : List Mark) (w b : ToldLines) → IsFullSetup setup → Answering (start setup) hs → AreSound hs → Feeds (start setup) hs White (Some white) w → Feeds (start setup) hs Black (Some black) b
    → (act_at (match_after setup hs).stage ≡ SendAct side) ⊎ (act_at (match_after setup hs).stage ≡ ReadAct side) → CutFronts setup hs white black
cut_fronts side setup hs white black w b is a v e f (inr x) =
    let g = fronts setup hs white black w b is a v e f in
    record {
      to_white = λ n. none_front n _ _ (sent_at (match_after setup hs) (match_after setup hs).stage Sent White) (read_nothing (match_after setup hs).stage (match_after setup hs) side White x) g.to_white;
      to_black = λ n. none_front n _ _ (sent_at (match_after setup hs) (match_after setup hs).stage Sent Black) (read_nothing (match_after setup hs).stage (match_after setup hs) side Black x) g.to_black;
    }
cut_fronts side setup hs white black w b is a v e f (inl x) =
    let fits : IsTrue (answers (act_at (match_after setup hs).stage) Sent) = rw x refl in
    let g = fronts setup (hs ++ Sent ∷ []) white black w b is (answering-snoc hs (start setup) Sent a fits) (sound-snoc hs Sent v refl)
    (feeds-snoc hs (start setup) Sent White (Some white) w w e (sends_on (match_after setup hs).stage side White w x)) (feeds-snoc hs (start setup) Sent Black (Some black) b b f (sends_on (match_after setup hs).stage side Black b x)) in
    record {
      to_white = λ n. part_front n _ _ _ (subst (λ z. IsFront z (joined (sent (start setup) (match_of setup white black) White))) (ap joined (sent-snoc hs (start setup) Sent White) ∙ joined-append (sent (start setup) hs White) _) g.to_white);
      to_black = λ n. part_front n _ _ _ (subst (λ z. IsFront z (joined (sent (start setup) (match_of setup white black) Black))) (ap joined (sent-snoc hs (start setup) Sent Black) ∙ joined-append (sent (start setup) hs Black) _) g.to_black);
    }

cut_sent : (old mid new : Told) (xs ys all : List ℕ) (n : ℕ) → mid ≡ behind old xs → new ≡ behind mid (take n ys) → IsFront (xs ++ take n ys) all → IsFrontSent old new all
cut_sent old mid new xs ys all n e f g = (xs ++ take n ys, f ∙ (ap (λ z. behind z (take n ys)) e ∙ behind-behind old xs (take n ys)), g)

front_cut : (side : Colour) (setup : FullSetup) (t : MatchState) (w_old b_old : Told) (w b : Side) (w_rest b_rest : Told) (r0 r : Watch) (white black : List ℕ) → IsFullSetup setup → w_rest ≡ Some white → b_rest ≡ Some black
    → Cut side setup t (side_of fresh w_rest w_old) w (side_of fresh b_rest b_old) b r0 r → IsFrontOf setup (lines white) (lines black) t w_old w.written b_old b.written
front_cut side setup t w_old b_old w b w_rest b_rest r0 r white black is e f (s, w1, b1, (hs, run), br, act) =
    let same : t.moves ≡ s.moves = ap (λ (x : MatchState). x.moves) (br.next_is ∙ next_is s Broke) ∙ moves_broke s.stage s br.fits in
    let whole = front_run setup s w_old b_old w1 b1 w_rest b_rest r0 r white black is e f (hs, run) in
    let here : (act_at (match_after setup hs).stage ≡ SendAct side) ⊎ (act_at (match_after setup hs).stage ≡ ReadAct side) = subst (λ (x : MatchState). (act_at x.stage ≡ SendAct side) ⊎ (act_at x.stage ≡ ReadAct side)) run.here act in
    let g = cut_fronts side setup hs (lines white) (lines black) w1.ahead b1.ahead is run.fits run.sound (feeds_from setup hs White w_rest w_old w1 white e run.white) (feeds_from setup hs Black b_rest b_old b1 black f run.black) here in
    let cw : CutSide (match_after setup hs) White w1 w = subst (λ (x : MatchState). CutSide x White w1 w) run.here br.white in
    let cb : CutSide (match_after setup hs) Black b1 b = subst (λ (x : MatchState). CutSide x Black b1 b) run.here br.black in
    record {
      moves = subst (λ z. IsFront z (match_after setup (match_of setup (lines white) (lines black))).moves) (sym same) whole.moves;
      to_white = cut_sent w_old w1.written w.written (joined (sent (start setup) hs White)) _ _ cw.0 run.white.wrote cw.1 (g.to_white cw.0);
      to_black = cut_sent b_old b1.written b.written (joined (sent (start setup) hs Black)) _ _ cb.0 run.black.wrote cb.1 (g.to_black cb.0);
    }

pub front_final : (setup : FullSetup) (t : MatchState) (w0 w b0 b : Wire) (r0 r : Watch) → IsFullSetup setup → FinalRun setup t w0 w b0 b r0 r → FrontRun setup t w0 w b0 b
front_final setup t w0 w b0 b r0 r is final = λ white black e f.
    by_end setup t _ _ _ _ r0 r (IsFrontOf setup (lines white) (lines black) t w0.written w.written b0.written b.written) final.ran
    (λ whole. front_run setup t w0.written b0.written (side_of final.white_reader w.rest w.written) (side_of final.black_reader b.rest b.written) w0.rest b0.rest r0 r white black is e f whole.0)
    (λ side cut. front_cut side setup t w0.written b0.written (side_of final.white_reader w.rest w.written) (side_of final.black_reader b.rest b.written) w0.rest b0.rest r0 r white black is e f cut)
