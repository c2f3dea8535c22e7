-- A run goes on by one act.
use Rattle.std.specs.Prelude.{if◌then◌else◌}
use Rattle.std.proofs.Common.{◌≡◌, inl, inr, ◌<◌, ◌≤◌, ℕ, ◌+◌, ◌*◌, false, List, [], ◌∷◌, ◌++◌, refl, ap, sym, ◌∙◌, arith, append_assoc, IsTrue, subst, ◌⊎◌, Bool}
use Rattle.std.proofs.lemmas.List.{append-nil}
use Rattle.io_edge.specs.Outside.{behind, Rose}
use Rattle.io_edge.proofs.Told.{behind-behind}
use Rattle.hive_model.specs.declared.pieces.Colour.{Colour}
use Rattle.hive_model.specs.declared.pieces.Colour.TheVariants.{White, Black}
use Rattle.match_core.specs.Setups.{FullSetup}
use Rattle.match_core.specs.declared.stage.Stage.{Stage}
use Rattle.match_core.specs.declared.stage.Act.{Act}
use Rattle.match_core.specs.declared.stage.Act.TheVariants.{Send as SendAct, Read as ReadAct, Finish}
use Rattle.match_core.specs.MatchState.{MatchState, Happening, TooLong, start, match_after, next, after_all, act_at, answers}
use Rattle.match_core.specs.Fairness.{Answering, sent, sent_at}
use Rattle.match_core.specs.Plays.{joined, left, is_finished}
use Rattle.match_core.specs.Keeps.{IsFullSetup}
use Rattle.io_edge.specs.Lines.{ToldLines}
use Rattle.match_core.specs.Feeds.{FeedsAt, Feeds}
use Rattle.match_core.proofs.Falls.{matches_near_their_end}
use Rattle.match_core.proofs.Fair.{after_all-snoc}
use Rattle.match_core.proofs.Follows.{bounded_start, open_at}
use Rattle.match_runner.specs.Wires.{Watch}
use Rattle.match_runner.specs.Turns.{Side, OneSide, Goes, Breaks, KeepsAt, is_broke, is_clock, looks_at}
use Rattle.match_runner.specs.Runs.{Cut, AreSound, KeepTime, looks, JudgesAtOnce, Served, Run, Ran}
use Rattle.match_runner.proofs.Acts.{behind-nil}

pub joined-append : (xs ys : List (List ℕ)) → joined (xs ++ ys) ≡ joined xs ++ joined ys
joined-append [] ys = refl
joined-append (x ∷ xs) ys = ap (λ z. x ++ z) (joined-append xs ys) ∙ sym (append_assoc x (joined xs) (joined ys))

pub sent-snoc : (hs : List Happening) (s : MatchState) (h : Happening) (to : Colour) → sent s (hs ++ h ∷ []) to ≡ sent s hs to ++ sent_at (after_all s hs) (after_all s hs).stage h to
sent-snoc [] s h to = append-nil (sent_at s s.stage h to)
sent-snoc (x ∷ hs) s h to = ap (λ z. sent_at s s.stage x to ++ z) (sent-snoc hs (next s x) h to) ∙ sym (append_assoc (sent_at s s.stage x to) (sent (next s x) hs to) _)

pub feeds-snoc : (hs : List Happening) (s : MatchState) (h : Happening) (to : Colour) (o m n : ToldLines) → Feeds s hs to o m → FeedsAt (after_all s hs).stage h to m n → Feeds s (hs ++ h ∷ []) to o n
feeds-snoc [] s h to o m n e f = (n, subst (λ x. FeedsAt s.stage h to x n) e f, refl)
feeds-snoc (x ∷ hs) s h to o m n (mid, f, g) k = (mid, f, feeds-snoc hs (next s x) h to mid m n g k)

judged-snoc : (hs : List Happening) (s : MatchState) (h : Happening) (to : Colour) (o m n : ToldLines) → JudgesAtOnce s hs to o m → FeedsAt (after_all s hs).stage h to m n → (h ≡ TooLong → n ≡ m) → JudgesAtOnce s (hs ++ h ∷ []) to o n
judged-snoc [] s h to o m n e f k = (n, subst (λ x. FeedsAt s.stage h to x n) e f, subst (λ x. h ≡ TooLong → n ≡ x) e k, refl)
judged-snoc (x ∷ hs) s h to o m n (mid, f, j, g) l k = (mid, f, j, judged-snoc hs (next s x) h to mid m n g l k)

-- which lines the events took
pub takes_lines : (hs : List Happening) (s : MatchState) (to : Colour) (o n : ToldLines) → JudgesAtOnce s hs to o n → Feeds s hs to o n
takes_lines [] s to o n e = e
takes_lines (h ∷ hs) s to o n (mid, f, j, g) = (mid, f, takes_lines hs (next s h) to mid n g)

pub answering-snoc : (hs : List Happening) (s : MatchState) (h : Happening) → Answering s hs → IsTrue (answers (act_at (after_all s hs).stage) h) → Answering s (hs ++ h ∷ [])
answering-snoc [] s h a w = (w, tt)
answering-snoc (x ∷ hs) s h (v, a) w = (v, answering-snoc hs (next s x) h a w)

pub sound-snoc : (hs : List Happening) (h : Happening) → AreSound hs → is_broke h ≡ false → AreSound (hs ++ h ∷ [])
sound-snoc [] h a w = (w, tt)
sound-snoc (x ∷ hs) h (v, a) w = (v, sound-snoc hs h a w)

looks-snoc : (hs : List Happening) (s : MatchState) (h : Happening) → looks s (hs ++ h ∷ []) ≡ looks s hs + looks_at (after_all s hs).stage
looks-snoc [] s h = omega arith
looks-snoc (x ∷ hs) s h = let e = looks-snoc hs (next s x) h in omega (arith, e)

served-snoc : (hs : List Happening) (s : MatchState) (h : Happening) (to : Colour) (o m n : Side) → Served s hs to o m → OneSide (after_all s hs) h to m n → Served s (hs ++ h ∷ []) to o n
served-snoc hs s h to o m n f g = record {
  feeds = judged-snoc hs s h to o.ahead m.ahead n.ahead f.feeds g.feeds g.stays;
  wrote =
      let x : joined (sent s (hs ++ h ∷ []) to) ≡ joined (sent s hs to) ++ joined (sent_at (after_all s hs) (after_all s hs).stage h to) = ap joined (sent-snoc hs s h to) ∙ joined-append (sent s hs to) _ in
      g.wrote ∙ (ap (λ z. behind z (joined (sent_at (after_all s hs) (after_all s hs).stage h to))) f.wrote ∙ (behind-behind o.written (joined (sent s hs to)) _ ∙ ap (behind o.written) (sym x)));
}

pub time-snoc : (hs : List Happening) (h : Happening) (a b c : ℕ) → KeepTime a hs b → KeepsAt h b c → KeepTime a (hs ++ h ∷ []) c
time-snoc [] h a b c e k = (c, subst (λ x. KeepsAt h x c) e k, refl)
time-snoc (x ∷ hs) h a b c (mid, f, g) k = (mid, f, time-snoc hs h mid b c g k)

pub run_begin : (setup : FullSetup) (s : MatchState) (w b : Side) (r : Watch) → IsFullSetup setup → s ≡ start setup → Run setup s w w b b r r
run_begin setup s w b r is e = (
  [],
  record {
    here = e;
    fits = tt;
    sound = tt;
    white = record { feeds = refl; wrote = behind-nil w.written };
    black = record { feeds = refl; wrote = behind-nil b.written };
    readings = omega arith;
    time = refl;
    bounded = rw e (bounded_start setup is);
  },
)

run_goes : (setup : FullSetup) (s t : MatchState) (w0 w w2 b0 b b2 : Side) (r0 r r2 : Watch) → Run setup s w0 w b0 b r0 r → (h : Happening) × Goes s h t w w2 b b2 r.last r2.last → r2.readings ≤ r.readings + looks_at s.stage → Run setup t w0 w2 b0 b2 r0 r2
run_goes setup s t w0 w w2 b0 b b2 r0 r r2 (hs, run) (h, g) c =
    let f : IsTrue (answers (act_at (match_after setup hs).stage) h) = subst (λ (x : MatchState). IsTrue (answers (act_at x.stage) h)) run.here g.fits in (
      hs ++ h ∷ [],
      record {
        here = g.next_is ∙ (ap (λ x. next x h) run.here ∙ sym (after_all-snoc hs (start setup) h));
        fits = answering-snoc hs (start setup) h run.fits f;
        sound = sound-snoc hs h run.sound g.sound;
        white = served-snoc hs (start setup) h White w0 w w2 run.white (subst (λ x. OneSide x h White w w2) run.here g.white);
        black = served-snoc hs (start setup) h Black b0 b b2 run.black (subst (λ x. OneSide x h Black b b2) run.here g.black);
        readings =
            let e = looks-snoc hs (start setup) h in
            let k : looks_at s.stage ≡ looks_at (match_after setup hs).stage = ap (λ (x : MatchState). looks_at x.stage) run.here in
            let a = run.readings in omega (arith, e, k, a, c);
        time = time-snoc hs h r0.last r.last r2.last run.time g.time;
        bounded = rw g.next_is (matches_near_their_end s h run.bounded g.fits).0;
      },
    )

pub run_on : (setup : FullSetup) (s t : MatchState) (w0 w w2 b0 b b2 : Side) (r0 r r2 : Watch) → Run setup s w0 w b0 b r0 r → (h : Happening) × Goes s h t w w2 b b2 r.last r2.last → r2.readings ≤ r.readings + looks_at s.stage → Run setup t w0 w2 b0 b2 r0 r2
run_on = run_goes

pub run_falls : (setup : FullSetup) (s t : MatchState) (w0 w w2 b0 b b2 : Side) (r0 r : Watch) → (c0 c : ℕ) → Run setup s w0 w b0 b r0 r → (h : Happening) × Goes s h t w w2 b b2 c0 c → left t < left s
run_falls setup s t w0 w w2 b0 b b2 r0 r c0 c (hs, run) (h, g) = rw g.next_is (matches_near_their_end s h run.bounded g.fits).1

pub room_on : (s t : MatchState) (w w2 b b2 : Side) (before after c0 c1 : ℕ) → (h : Happening) × Goes s h t w w2 b b2 c0 c1 → left t < left s → (is_finished s.stage ≡ false → before + 65538 * left s ≤ 525418735842) → (is_finished t.stage ≡ false → after ≤ before + 65538)
    → is_finished t.stage ≡ false → after + 65538 * left t ≤ 525418735842
room_on s t w w2 b b2 before after c0 c1 (h, g) less f k o = let a = f (open_at s.stage h g.fits) in let c = k o in omega (arith, a, c, less)

pub room_begin : (setup : FullSetup) (s : MatchState) → IsFullSetup setup → s ≡ start setup → 0 + 65538 * left s ≤ 525418735842
unfolding left
room_begin setup s is e = rw e (let k = is.plain.few in omega (arith, k))

run_later : (setup : FullSetup) (s : MatchState) (w0 w b0 b : Side) (r0 r r2 : Watch) → Run setup s w0 w b0 b r0 r → r2.readings ≤ r.readings → r2.last ≡ r.last → Run setup s w0 w b0 b r0 r2
run_later setup s w0 w b0 b r0 r r2 (hs, run) h k = (hs, record { here = run.here; fits = run.fits; sound = run.sound; white = run.white; black = run.black; readings = let a = run.readings in omega (arith, a, h); time = rw k run.time; bounded = run.bounded })

no_look : (stage : Stage) (act : Act) → act_at stage ≡ act → is_clock act ≡ false → looks_at stage ≡ 0
no_look stage act e f = ap (λ (a : Act). if is_clock a then 1 else 0) e ∙ ap (λ (b : Bool). if b then 1 else 0) f

pub rose_from : (a b c : ℕ) → a ≤ b → Rose b c → Rose a c
rose_from a b c h r = record { higher = elim r.higher [ inl x ↦ inl (omega (arith, h, x)) | inr y ↦ inr y ]; below = r.below }

-- what a side that breaks had to do
abbrev pub WasToDo : Colour → Stage → Type 0
WasToDo side stage = (act_at stage ≡ SendAct side) ⊎ (act_at stage ≡ ReadAct side)

no_look_cut : (side : Colour) (stage : Stage) → WasToDo side stage → looks_at stage ≡ 0
no_look_cut side stage (inl e) = no_look stage (SendAct side) e refl
no_look_cut side stage (inr e) = no_look stage (ReadAct side) e refl

pub cut_at : (side : Colour) (setup : FullSetup) (s t : MatchState) (w0 w w2 b0 b b2 : Side) (r0 r r2 : Watch) (P Q : Type 0) → Run setup s w0 w b0 b r0 r → WasToDo side s.stage → Breaks s t w w2 b b2 → r2.last ≡ r.last → r2.readings ≤ r.readings + looks_at s.stage
    → (side ≡ White → P) → (side ≡ Black → Q) → Ran setup t w0 w2 b0 b2 r0 r2 P Q
cut_at side setup s t w0 w w2 b0 b b2 r0 r r2 P Q run act br k c p q =
    let n = no_look_cut side s.stage act in
    cut_of side (s, w, b, run_later setup s w0 w b0 b r0 r r2 run (omega (arith, n, c)) k, br, act) p q
  where
    cut_of : (at : Colour) → Cut at setup t w0 w2 b0 b2 r0 r2 → (at ≡ White → P) → (at ≡ Black → Q) → Ran setup t w0 w2 b0 b2 r0 r2 P Q
    cut_of White cut p q = record { ended = inr (inl (cut, p refl)) }
    cut_of Black cut p q = record { ended = inr (inr (cut, q refl)) }

pub ran_whole : (setup : FullSetup) (s t : MatchState) (w0 w w2 b0 b b2 : Side) (r0 r r2 : Watch) (P Q : Type 0) → Run setup s w0 w b0 b r0 r → (t ≡ s) × (act_at s.stage ≡ Finish) × (w2 ≡ w) × (b2 ≡ b) × (r2.last ≡ r.last) → r2.readings ≤ r.readings + looks_at s.stage
    → Ran setup t w0 w2 b0 b2 r0 r2 P Q
ran_whole setup s t w0 w w2 b0 b b2 r0 r r2 P Q run (e, f, x, y, k) c =
    let n = no_look s.stage Finish f refl in
    record { ended = inl (rw (e, x, y) (run_later setup s w0 w b0 b r0 r r2 run (omega (arith, n, c)) k), rw e f) }
