-- What happened in a match that was run, and up to which reply if an answer was late.
use Rattle.std.specs.declared.option.Option.{Option}
use Rattle.std.proofs.Common.{◌≡◌, inl, inr, ℕ, List, [], ◌∷◌, ◌++◌, refl, ap, sym, ◌∙◌, None, Some, IsTrue, subst}
use Rattle.std.proofs.lemmas.List.{append-nil}
use Rattle.io_edge.specs.Outside.{behind}
use Rattle.hive_model.specs.declared.pieces.Colour.{Colour}
use Rattle.hive_model.specs.declared.pieces.Colour.TheVariants.{White, Black}
use Rattle.io_edge.specs.Lines.{ToldLines, lines}
use Rattle.line_feed.specs.Feed.{fresh}
use Rattle.match_core.specs.Setups.{FullSetup}
use Rattle.match_core.specs.declared.stage.Stage.{Stage}
use Rattle.match_core.specs.declared.stage.Stage.TheVariants.{After}
use Rattle.match_core.specs.declared.verdict.Cause.TheVariants.{NotAMove, Illegal, ErrLine, Flood, LongLine, Ended as EndedCause, Broke as BrokeCause, Late}
use Rattle.match_core.specs.declared.verdict.Verdict.{Verdict}
use Rattle.match_core.specs.declared.verdict.Verdict.TheVariants.{Rules, Limit, Forfeit}
use Rattle.match_core.specs.Keeps.{IsFullSetup}
use Rattle.match_core.specs.MatchState.{MatchState, Happening, Reading, Broke, start, match_after, next, after_all, act_at, answers}
use Rattle.match_core.specs.Fairness.{sent, sent_at}
use Rattle.match_core.specs.Feeds.{Feeds}
use Rattle.match_core.specs.Plays.{joined}
use Rattle.match_core.specs.Lates.{LatesAreLate}
use Rattle.match_core.proofs.Fronts.{after_all-append, matches_begin, sent-append}
use Rattle.match_core.proofs.Lates.{IsQuiet, cut_stands, late_cut, matches_tell_lates}
use Rattle.match_runner.specs.Wires.{Watch, Wire}
use Rattle.match_runner.specs.Turns.{Side, side_of}
use Rattle.match_runner.specs.Runs.{AreSound, Cut, FinalRun, HasHistory, HasTimedHistory, IsLate, IsUpToReply, LateRun, Run, Whole}
use Rattle.match_runner.proofs.Endings.{by_end}
use Rattle.match_runner.proofs.Progress.{answering-snoc, time-snoc}
use Rattle.match_runner.proofs.Telling.{feeds_from, in_time}

-- The history

run_history : (setup : FullSetup) (t : MatchState) (w0 w b0 b : Side) (r0 r : Watch) → Run setup t w0 w b0 b r0 r → HasTimedHistory setup t r0.last r.last
run_history setup t w0 w b0 b r0 r (hs, run) = (hs, record { here = run.here; fits = run.fits }, run.time)

-- a fault happened last
cut_history : (side : Colour) (setup : FullSetup) (t : MatchState) (w0 w b0 b : Side) (r0 r : Watch) → Cut side setup t w0 w b0 b r0 r → HasTimedHistory setup t r0.last r.last
cut_history side setup t w0 w b0 b r0 r (s, w1, b1, (hs, run), br, act) =
    let fits : IsTrue (answers (act_at (match_after setup hs).stage) Broke) = subst (λ (x : MatchState). IsTrue (answers (act_at x.stage) Broke)) run.here br.fits in (
      hs ++ Broke ∷ [],
      record {
        here = br.next_is ∙ (ap (λ x. next x Broke) run.here ∙ sym (after_all-append hs (Broke ∷ []) (start setup)));
        fits = answering-snoc hs (start setup) Broke run.fits fits;
      },
      time-snoc hs Broke r0.last r.last r.last run.time refl,
    )

pub timed_final : (setup : FullSetup) (t : MatchState) (w0 w b0 b : Wire) (r0 r : Watch) → FinalRun setup t w0 w b0 b r0 r → HasTimedHistory setup t r0.last r.last
timed_final setup t w0 w b0 b r0 r final =
    by_end setup t _ _ _ _ r0 r (HasTimedHistory setup t r0.last r.last) final.ran (λ whole. run_history setup t _ _ _ _ r0 r whole.0) (λ side cut. cut_history side setup t _ _ _ _ r0 r cut)

pub history_final : (setup : FullSetup) (t : MatchState) (w0 w b0 b : Wire) (r0 r : Watch) → FinalRun setup t w0 w b0 b r0 r → HasHistory setup t
history_final setup t w0 w b0 b r0 r final = let (hs, is, time) = timed_final setup t w0 w b0 b r0 r final in (hs, is)

pub lates_final : (setup : FullSetup) (t : MatchState) (w0 w b0 b : Wire) (r0 r : Watch) → FinalRun setup t w0 w b0 b r0 r → LatesAreLate t
lates_final setup t w0 w b0 b r0 r final = let (hs, is) = history_final setup t w0 w b0 b r0 r final in subst LatesAreLate (sym is.here) (matches_tell_lates setup hs is.fits)

-- Up to a reply

-- the readings of a late answer
record Readings (v : Option Verdict) : Type 0 where
  pub side : Colour
  pub asked : ℕ
  pub answered : ℕ
  pub is : v ≡ Some (Forfeit side (Late asked answered))

readings_of : (v : Option Verdict) → IsLate v → Readings v
readings_of None late = absurd late
readings_of (Some (Rules state)) late = absurd late
readings_of (Some Limit) late = absurd late
readings_of (Some (Forfeit side (NotAMove line))) late = absurd late
readings_of (Some (Forfeit side (Illegal line))) late = absurd late
readings_of (Some (Forfeit side (ErrLine line))) late = absurd late
readings_of (Some (Forfeit side (Flood count))) late = absurd late
readings_of (Some (Forfeit side LongLine)) late = absurd late
readings_of (Some (Forfeit side EndedCause)) late = absurd late
readings_of (Some (Forfeit side BrokeCause)) late = absurd late
readings_of (Some (Forfeit side (Late asked answered))) late = record { side = side; asked = asked; answered = answered; is = refl }

quiet : (v : Option Verdict) → IsQuiet v → IsLate v → ⊥
quiet v q late = let r = readings_of v late in q r.side r.asked r.answered r.is

-- an initial part of what happened is no fault
sound_front : (fs gs : List Happening) → AreSound (fs ++ gs) → AreSound fs
sound_front [] gs v = tt
sound_front (f ∷ fs) gs (v, w) = (v, sound_front fs gs w)

-- and took an initial part of the lines
feeds_front : (fs gs : List Happening) (s : MatchState) (to : Colour) (o n : ToldLines) → Feeds s (fs ++ gs) to o n → (m : ToldLines) × Feeds s fs to o m × Feeds (after_all s fs) gs to m n
feeds_front [] gs s to o n f = (o, refl, f)
feeds_front (h ∷ fs) gs s to o n (mid, e, f) = let (m, g, k) = feeds_front fs gs (next s h) to mid n f in (m, (mid, e, g), k)

-- a reading after a reply sends nothing
none_sent : (s : MatchState) (stage : Stage) (at : ℕ) (to : Colour) → stage ≡ After → sent_at s stage (Reading at) to ++ [] ≡ []
none_sent s stage at to e = rw e refl

sent_before : (fs : List Happening) (s : MatchState) (at : ℕ) (to : Colour) → (after_all s fs).stage ≡ After → sent s (fs ++ Reading at ∷ []) to ≡ sent s fs to
sent_before fs s at to e = sent-append fs (Reading at ∷ []) s to ∙ (ap (λ z. sent s fs to ++ z) (none_sent (after_all s fs) (after_all s fs).stage at to e) ∙ append-nil (sent s fs to))

whole_late : (setup : FullSetup) (t : MatchState) (w0 w b0 b : Wire) (w_now b_now : Side) (r0 r : Watch) (white black : List ℕ) → IsFullSetup setup → w0.rest ≡ Some white → b0.rest ≡ Some black → IsLate t.verdict
    → w_now.written ≡ w.written → b_now.written ≡ b.written → Whole setup t (side_of fresh w0.rest w0.written) w_now (side_of fresh b0.rest b0.written) b_now r0 r
    → IsUpToReply setup (lines white) (lines black) t w0.written w.written b0.written b.written
whole_late setup t w0 w b0 b w_now b_now r0 r white black is e f late ws bs ((hs, run), over) =
    let told = readings_of t.verdict late in
    let verdict : (match_after setup hs).verdict ≡ Some (Forfeit told.side (Late told.asked told.answered)) = ap (λ (x : MatchState). x.verdict) (sym run.here) ∙ told.is in
    let l = late_cut setup hs told.side told.asked told.answered run.fits verdict in
    let stands = cut_stands (start setup) hs l in
    let white_feeds : Feeds (start setup) (l.fs ++ Reading l.at ∷ []) White (Some (lines white)) w_now.ahead = subst (λ x. Feeds (start setup) x White (Some (lines white)) w_now.ahead) l.split (feeds_from setup hs White w0.rest w0.written w_now white e run.white) in
    let black_feeds : Feeds (start setup) (l.fs ++ Reading l.at ∷ []) Black (Some (lines black)) b_now.ahead = subst (λ x. Feeds (start setup) x Black (Some (lines black)) b_now.ahead) l.split (feeds_from setup hs Black b0.rest b0.written b_now black f run.black) in
    let wf = feeds_front l.fs (Reading l.at ∷ []) (start setup) White (Some (lines white)) w_now.ahead white_feeds in
    let bf = feeds_front l.fs (Reading l.at ∷ []) (start setup) Black (Some (lines black)) b_now.ahead black_feeds in
    let sound : AreSound l.fs = sound_front l.fs (Reading l.at ∷ []) (subst AreSound l.split run.sound) in
    let first = (matches_begin setup l.fs (lines white) (lines black) wf.0 bf.0 is l.fits (in_time l.fs (start setup) l.fits sound (quiet (match_after setup l.fs).verdict l.calm.quiet)) wf.1 bf.1).first in
    let same = first.same in
    let stage : (match_after setup first.fs).stage ≡ (match_after setup l.fs).stage = ap (λ (x : MatchState). x.stage) same.match in
    let moves : (match_after setup first.fs).moves ≡ (match_after setup l.fs).moves = ap (λ (x : MatchState). x.moves) same.match in
    let to_white : sent (start setup) hs White ≡ sent (start setup) first.fs White = ap (λ z. sent (start setup) z White) l.split ∙ (sent_before l.fs (start setup) l.at White l.replied ∙ sym same.white) in
    let to_black : sent (start setup) hs Black ≡ sent (start setup) first.fs Black = ap (λ z. sent (start setup) z Black) l.split ∙ (sent_before l.fs (start setup) l.at Black l.replied ∙ sym same.black) in
    record {
      hs = first.fs;
      front = first.front;
      replied = stage ∙ l.replied;
      moves = ap (λ (x : MatchState). x.moves) run.here ∙ (ap (λ (x : MatchState). x.moves) stands ∙ sym moves);
      to_white = sym ws ∙ (run.white.wrote ∙ ap (λ x. behind w0.written (joined x)) to_white);
      to_black = sym bs ∙ (run.black.wrote ∙ ap (λ x. behind b0.written (joined x)) to_black);
    }

pub late_run_final : (setup : FullSetup) (t : MatchState) (w0 w b0 b : Wire) (r0 r : Watch) → IsFullSetup setup → FinalRun setup t w0 w b0 b r0 r → LateRun setup t w0 w b0 b
late_run_final setup t w0 w b0 b r0 r is final = λ white black e f wn bn late.
    elim final.ran.ended [
      | inr cut ↦ elim cut [ inl c ↦ absurd (wn c.1) | inr c ↦ absurd (bn c.1) ]
      | inl whole ↦ whole_late setup t w0 w b0 b _ _ r0 r white black is e f late refl refl whole
    ]
