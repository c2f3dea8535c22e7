-- A match that was run over two links, and what is known of it once both are closed.
use Rattle.std.proofs.Common.{◌≡◌, ℕ, ◌+◌, ◌<◌, List, [], ◌∷◌, ◌++◌, None, Some, Ok, Err, inl, inr, refl, ap, sym, ◌∙◌, arith, append_assoc}
use Rattle.std.specs.declared.option.Option.{Option}
use Rattle.std.specs.declared.result.Result.{Result}
use Rattle.std.specs.Result.{IfOk}
use Rattle.std.proofs.lemmas.Option.{same_Some}
use Rattle.io_edge.specs.Outside.{Told, ToldLists, Rose, behind}
use Rattle.io_edge.specs.Starts.{Engines}
use Rattle.hive_model.specs.declared.pieces.Colour.TheVariants.{White, Black}
use Rattle.hive_model.specs.declared.best.Timed.{Timed}
use Rattle.command_runs.specs.World.{Times, times}
use Rattle.match_core.specs.Setups.{FullSetup, setup_of}
use Rattle.match_core.specs.declared.verdict.Verdict.{Verdict}
use Rattle.io_edge.specs.Lines.{lines}
use Rattle.match_core.specs.MatchState.{Happening, MatchState, start}
use Rattle.match_core.specs.Fairness.{sent}
use Rattle.match_core.specs.Plays.{joined}
use Rattle.match_runner.specs.Wires.{HasFailed, IsFresh, Watch, Wire}
use Rattle.match_runner.specs.Runs.{BrokeOnly, IsFrontSent, IsUpToReply as IsUpToReplyBy, IsVerdict as IsVerdictBy, RanLinks, RanOver}
use Rattle.match_command.specs.Match.{AreFronts, AreSent, AreSentBy, Gains, IsBroke, IsPlayedBy, IsUpToReply, IsVerdict, sent_in}
use Rattle.match_command.specs.Texts.{match_text}
use Rattle.match_command.specs.Wires.{ClosesTwo, CountsEither, PlayedOver}

-- What was counted

-- the failure of a link is in its counts
failed : (w0 w : Wire) → IsFresh w0.reads w0.writes → HasFailed w0 w → 0 < w.reads + w.writes
failed w0 w f (inl r) = elim r.higher [ inl x ↦ omega (arith, x) | inr x ↦ omega (arith, x) ]
failed w0 w f (inr r) = elim r.higher [ inl x ↦ omega (arith, x) | inr x ↦ omega (arith, x) ]

-- the failure of a side that broke was counted
broke_counted : {rose : Type 0} (t : MatchState) (w0 w b0 b : Wire) → BrokeOnly t w0 w b0 b → (HasFailed w0 w → rose) → (HasFailed b0 b → rose) → IsBroke t.verdict → rose
broke_counted t w0 w b0 b broke white black (White, e) = white (broke.white e)
broke_counted t w0 w b0 b broke white black (Black, e) = black (broke.black e)

-- What was sent

-- two closes append what was written to both
gains_of : (before after : ToldLists) (w b : Told) (x y : List ℕ) (claim : List ℕ → List ℕ → Type 0) → ClosesTwo before after w b → w ≡ Some x → b ≡ Some y → claim x y → Gains before after claim
gains_of before None w b x y claim closes e f h = tt
gains_of None (Some after) w b x y claim (None, c, d) e f h = d
gains_of None (Some after) w b x y claim (Some mid, c, d) e f h = c
gains_of (Some before) (Some after) w b x y claim (None, c, d) e f h = absurd d
gains_of (Some before) (Some after) w b x y claim (Some mid, (p, pe, pm), (q, qe, qm)) e f h =
    let px : p ≡ x = same_Some _ _ (sym pe ∙ e) in
    let qy : q ≡ y = same_Some _ _ (sym qe ∙ f) in
    let at : after ≡ (before ++ x ∷ []) ++ y ∷ [] = qm ∙ (ap (λ m. m ++ q ∷ []) pm ∙ (ap (λ p. (before ++ p ∷ []) ++ q ∷ []) px ∙ ap (λ q. (before ++ x ∷ []) ++ q ∷ []) qy)) in (
      x,
      y,
      at ∙ append_assoc before (x ∷ []) (y ∷ []),
      h,
    )

-- what was written after nothing
pub from_none : (old new : Told) (bytes : List ℕ) → old ≡ Some [] → new ≡ behind old bytes → new ≡ Some bytes
from_none old new bytes e f = f ∙ ap (λ o. behind o bytes) e

parts_gained : (setup : FullSetup) (white black : List ℕ) (before after : ToldLists) (w0 w b0 b : Told) → ClosesTwo before after w b → w0 ≡ Some [] → b0 ≡ Some []
    → IsFrontSent w0 w (sent_in setup white black White) → IsFrontSent b0 b (sent_in setup white black Black) → Gains before after (AreFronts setup white black)
parts_gained setup white black before after w0 w b0 b closes e f (x, xe, xf) (y, ye, yf) =
    gains_of before after w b x y (AreFronts setup white black) closes (from_none w0 w x e xe) (from_none b0 b y f ye) (record { white_got = xf; black_got = yf })

all_gained : (setup : FullSetup) (white black : List ℕ) (before after : ToldLists) (w0 w b0 b : Told) → ClosesTwo before after w b → w0 ≡ Some [] → b0 ≡ Some []
    → w ≡ behind w0 (sent_in setup white black White) → b ≡ behind b0 (sent_in setup white black Black) → Gains before after (AreSent setup white black)
all_gained setup white black before after w0 w b0 b closes e f x y =
    gains_of before after w b (sent_in setup white black White) (sent_in setup white black Black) (AreSent setup white black) closes (from_none w0 w (sent_in setup white black White) e x) (from_none b0 b (sent_in setup white black Black) f y)
    (record { white_got = refl; black_got = refl })

some_gained : (setup : FullSetup) (hs : List Happening) (before after : ToldLists) (w0 w b0 b : Told) → ClosesTwo before after w b → w0 ≡ Some [] → b0 ≡ Some []
    → w ≡ behind w0 (joined (sent (start setup) hs White)) → b ≡ behind b0 (joined (sent (start setup) hs Black)) → Gains before after (AreSentBy setup hs)
some_gained setup hs before after w0 w b0 b closes e f x y =
    let to_white = joined (sent (start setup) hs White) in
    let to_black = joined (sent (start setup) hs Black) in
    gains_of before after w b to_white to_black (AreSentBy setup hs) closes (from_none w0 w to_white e x) (from_none b0 b to_black f y) (record { white_got = refl; black_got = refl })

up_to : (setup : FullSetup) (t : MatchState) (white black : List ℕ) (w0 w b0 b : Told) (before after : Engines) → ClosesTwo before.sent after.sent w b → w0 ≡ Some [] → b0 ≡ Some []
    → IsUpToReplyBy setup (lines white) (lines black) t w0 w b0 b → IsUpToReply setup white black t before after
up_to setup t white black w0 w b0 b before after closes e f m = record {
  hs = m.hs;
  front = m.front;
  replied = m.replied;
  moves = m.moves;
  gains = some_gained setup m.hs before.sent after.sent w0 w b0 b closes e f m.to_white m.to_black;
}

-- The verdict

verdict_part : (full v : Option Verdict) (w0 w b0 b : Wire) (before after : Engines) → (HasFailed w0 w → Rose before.engine_faults after.engine_faults) → (HasFailed b0 b → Rose before.engine_faults after.engine_faults)
    → IsVerdictBy full v w0 w b0 b → IsVerdict full v before after
verdict_part full v w0 w b0 b before after white black (inl x) = inl x
verdict_part full v w0 w b0 b before after white black (inr (inl x)) = inr (inl x)
verdict_part full v w0 w b0 b before after white black (inr (inr (inl x))) = inr (inr ((White, x.0), white x.1))
verdict_part full v w0 w b0 b before after white black (inr (inr (inr x))) = inr (inr ((Black, x.0), black x.1))

-- The match

-- by the links' bytes
played_by_links : (setup : FullSetup) (t : MatchState) (w0 w b0 b : Wire) (before after : Engines) → RanLinks setup t w0 w b0 b
    → (HasFailed w0 w → Rose before.engine_faults after.engine_faults) → (HasFailed b0 b → Rose before.engine_faults after.engine_faults) → ClosesTwo before.sent after.sent w.written b.written
    → (white black : List ℕ) → w0.rest ≡ Some white → b0.rest ≡ Some black → w0.written ≡ Some [] → b0.written ≡ Some []
    → IsPlayedBy setup white black t before after
played_by_links setup t w0 w b0 b before after ran white_counted black_counted closes white black wr br ww bw = record {
  part =
      let f = ran.front white black wr br in record {
        moves = f.moves;
        verdict = verdict_part _ t.verdict w0 w b0 b before after white_counted black_counted (ran.verdict white black wr br);
        gains = parts_gained setup white black before.sent after.sent w0.written w.written b0.written b.written closes ww bw f.to_white f.to_black;
      };
  whole = λ calm in_time.
      let m = ran.told white black wr br (λ x. calm (white_counted x)) (λ x. calm (black_counted x)) in_time in record {
        moves = m.moves;
        verdict = m.verdict;
        gains = all_gained setup white black before.sent after.sent w0.written w.written b0.written b.written closes ww bw m.to_white m.to_black;
      };
  late = λ calm is.
      up_to setup t white black w0.written w.written b0.written b.written before after closes ww bw
      (ran.late white black wr br (λ x. calm (white_counted x)) (λ x. calm (black_counted x)) is);
}

-- the match that was run, once both links are closed
pub played_over : (setup : FullSetup) (t : MatchState) (w0 w b0 b : Wire) (r0 r : Watch) (timed : List Timed) (before after : Engines) → IsFresh w0.reads w0.writes → IsFresh b0.reads b0.writes → RanOver setup t w0 w b0 b r0 r
    → CountsEither (w.reads + w.writes) (b.reads + b.writes) before.engine_faults after.engine_faults → ClosesTwo before.sent after.sent w.written b.written
    → PlayedOver setup t w0 b0 (times r0.last r0.readings timed) (times r.last r.readings timed) before after
played_over setup t w0 w b0 b r0 r timed before after wf bf ran counts closes =
    let white : HasFailed w0 w → Rose before.engine_faults after.engine_faults = λ x. counts.white (failed w0 w wf x) in
    let black : HasFailed b0 b → Rose before.engine_faults after.engine_faults = λ x. counts.black (failed b0 b bf x) in
    record {
      out = record {
        judged = ran.links.judged;
        same = ran.links.same;
        readings = ran.readings;
        late = ran.late;
        lates = ran.links.lates;
        history = ran.history;
        broke = broke_counted t w0 w b0 b ran.links.broke white black;
      };
      by_links = played_by_links setup t w0 w b0 b before after ran.links white black closes;
    }

-- the text reports the match that was played
pub told_match : {X : Type 0} (o : Result (List ℕ) X) (setup : FullSetup) (t : MatchState) (w b : Wire) (from to : Times) (before after : Engines) → IfOk o (λ text. text ≡ match_text (setup_of setup) t) → PlayedOver setup t w b from to before after
    → IfOk o (λ text. (t : MatchState) × (text ≡ match_text (setup_of setup) t) × PlayedOver setup t w b from to before after)
told_match (Ok text) setup t w b from to before after e p = (t, e, p)
told_match (Err x) setup t w b from to before after e p = tt
