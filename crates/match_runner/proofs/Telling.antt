use Rattle.hive_model.specs.declared.pieces.Colour.{Colour}
use Rattle.hive_model.specs.declared.pieces.Colour.TheVariants.{White, Black}
use Rattle.match_core.specs.Setups.{FullSetup}
use Rattle.match_core.specs.declared.stage.Stage.{Stage}
use Rattle.match_core.specs.declared.stage.Stage.TheVariants.{Send, Read, Before, After, Finished as FinishedStage}
use Rattle.match_core.specs.declared.stage.Act.TheVariants.{Finish}
use Rattle.match_core.specs.MatchState.{MatchState, Happening, start, match_after, next, after_all, act_at, answers, at_stage, forfeit, is_late, position_now, Sent, Line, TooLong, Ended, Broke, Reading}
use Rattle.match_core.specs.Fairness.{Answering}
use Rattle.match_core.specs.Plays.{joined}
use Rattle.io_edge.specs.Lines.{lines}
use Rattle.match_core.specs.Feeds.{Feeds, IsInTime, AreInTime}
use Rattle.match_runner.specs.Wires.{Watch, Wire}
use Rattle.match_runner.specs.Turns.{Side, is_broke, side_of}
use Rattle.match_runner.specs.Runs.{AreSound, Served, Whole, IsLate, IsMatch, ToldRun, FinalRun}
use Rattle.std.proofs.Common.{◌≡◌, inl, inr, ℕ, true, false, List, [], ◌∷◌, refl, ap, sym, ◌∙◌, Some, IsTrue, subst}
use Rattle.io_edge.specs.Outside.{Told, behind}
use Rattle.line_feed.specs.Feed.{fresh}
use Rattle.line_feed.specs.Ahead.{ahead_of}
use Rattle.line_feed.proofs.AheadLemmas.{ahead_begin}
use Rattle.match_core.specs.Keeps.{IsFullSetup}
use Rattle.match_core.specs.declared.verdict.Cause.TheVariants.{Late}
use Rattle.match_core.proofs.Follows.{next_is}
use Rattle.match_runner.proofs.Progress.{takes_lines}
use Rattle.match_core.proofs.Fronts.{matches_are_of_their_lines}

-- the lines that a side will say, if the bytes of its link are observable
pub feeds_from : (setup : FullSetup) (hs : List Happening) (to : Colour) (rest written : Told) (now : Side) (bytes : List ℕ) → rest ≡ Some bytes → Served (start setup) hs to (side_of fresh rest written) now → Feeds (start setup) hs to (Some (lines bytes)) now.ahead
feeds_from setup hs to rest written now bytes e served = subst (λ x. Feeds (start setup) hs to x now.ahead) (ap (ahead_of fresh) e ∙ ahead_begin fresh (Some bytes) refl) (takes_lines hs (start setup) to _ now.ahead served.feeds)

late_stops : (hs : List Happening) (s x : MatchState) (side : Colour) (m n : ℕ) → x ≡ forfeit s side (Late m n) → Answering x hs → (IsLate (after_all x hs).verdict → ⊥) → ⊥
late_stops [] s x side m n e a f = f (rw e tt)
late_stops (k ∷ hs) s x side m n e (t, u) f = let w : IsTrue (answers Finish k) = subst (λ (y : MatchState). IsTrue (answers (act_at y.stage) k)) e t in absurd (cc)

in_time_at : (stage : Stage) (s x : MatchState) (h : Happening) (hs : List Happening) → x ≡ at_stage s stage h → Answering x hs → is_broke h ≡ false → (IsLate (after_all x hs).verdict → ⊥) → IsInTime stage s h
in_time_at After s x (Reading at) hs e a v f =
    elim (is_late s at) as (λ b. is_late s at ≡ b → is_late s at ≡ false) [ true ↦ λ l. absurd (late_stops hs s x (position_now s).side s.asked at (e ∙ rw l refl) a f) | false ↦ λ l. l ] refl
in_time_at After s x Sent hs e a v f = tt
in_time_at After s x (Line bytes) hs e a v f = tt
in_time_at After s x TooLong hs e a v f = tt
in_time_at After s x Ended hs e a v f = tt
in_time_at After s x Broke hs e a v f = tt
in_time_at (Send job side) s x Broke hs e a v f = absurd (cc)
in_time_at (Send job side) s x Sent hs e a v f = tt
in_time_at (Send job side) s x (Line bytes) hs e a v f = tt
in_time_at (Send job side) s x TooLong hs e a v f = tt
in_time_at (Send job side) s x Ended hs e a v f = tt
in_time_at (Send job side) s x (Reading at) hs e a v f = tt
in_time_at (Read job side) s x h hs e a v f = tt
in_time_at Before s x h hs e a v f = tt
in_time_at FinishedStage s x h hs e a v f = tt

pub in_time : (hs : List Happening) (s : MatchState) → Answering s hs → AreSound hs → (IsLate (after_all s hs).verdict → ⊥) → AreInTime s hs
in_time [] s a v f = tt
in_time (h ∷ hs) s (t, u) (v, w) f = (in_time_at s.stage s (next s h) h hs (next_is s h) u v f, in_time hs (next s h) u w f)

-- a match that ended by itself, if the bytes of both links are observable
pub whole_told : (setup : FullSetup) (t : MatchState) (w0 w b0 b : Wire) (w_now b_now : Side) (r0 r : Watch) (white black : List ℕ) → IsFullSetup setup → w0.rest ≡ Some white → b0.rest ≡ Some black → ¬ IsLate t.verdict
    → w_now.written ≡ w.written → b_now.written ≡ b.written → Whole setup t (side_of fresh w0.rest w0.written) w_now (side_of fresh b0.rest b0.written) b_now r0 r
    → IsMatch setup (lines white) (lines black) t w0.written w.written b0.written b.written
whole_told setup t w0 w b0 b w_now b_now r0 r white black is e f late ws bs ((hs, run), over) =
    let fin : act_at (match_after setup hs).stage ≡ Finish = subst (λ (x : MatchState). act_at x.stage ≡ Finish) run.here over in
    let nl : IsLate (match_after setup hs).verdict → ⊥ = subst (λ (x : MatchState). IsLate x.verdict → ⊥) run.here late in
    let same = matches_are_of_their_lines setup hs (lines white) (lines black) w_now.ahead b_now.ahead is run.fits (in_time hs (start setup) run.fits run.sound nl) (feeds_from setup hs White w0.rest w0.written w_now white e run.white) (feeds_from setup hs Black b0.rest b0.written b_now black f run.black) fin in
    record {
      moves = ap (λ (x : MatchState). x.moves) run.here ∙ sym (ap (λ (x : MatchState). x.moves) same.match);
      verdict = ap (λ (x : MatchState). x.verdict) run.here ∙ sym (ap (λ (x : MatchState). x.verdict) same.match);
      to_white = sym ws ∙ (run.white.wrote ∙ ap (λ x. behind w0.written (joined x)) (sym same.white));
      to_black = sym bs ∙ (run.black.wrote ∙ ap (λ x. behind b0.written (joined x)) (sym same.black));
    }

pub told_run : (setup : FullSetup) (t : MatchState) (w0 w b0 b : Wire) (r0 r : Watch) → IsFullSetup setup → FinalRun setup t w0 w b0 b r0 r → ToldRun setup t w0 w b0 b
told_run setup t w0 w b0 b r0 r is final = λ white black e f wn bn late.
    elim final.ran.ended [
      | inr cut ↦ elim cut [ inl c ↦ absurd (wn c.1) | inr c ↦ absurd (bn c.1) ]
      | inl whole ↦ whole_told setup t w0 w b0 b _ _ r0 r white black is e f late refl refl whole
    ]
