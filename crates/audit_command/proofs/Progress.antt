-- An audit in progress: which lines were read, and which bytes were written.
use Rattle.std.proofs.Common.{◌≡◌, ℕ, ◌<◌, true, false, cond, Bool, List, [], ◌∷◌, ◌++◌, length, take, None, Some, refl, sym, ◌∙◌, ap, subst, inl, inr, append_assoc}
use Rattle.std.specs.Option.{option_map}
use Rattle.std.proofs.lemmas.Option.{same_Some}
use Rattle.std.proofs.lemmas.List.{append-nil}
use Rattle.io_edge.specs.Outside.{Told, Rose, behind}
use Rattle.io_edge.specs.Lines.{Line as Mark, TooLong, ToldLines, LongAhead, NoneAhead, lines}
use Rattle.io_edge.proofs.Told.{behind-behind}
use Rattle.line_feed.specs.Feed.{fresh}
use Rattle.line_feed.specs.Ahead.{ahead_of}
use Rattle.line_feed.proofs.AheadLemmas.{ahead_begin}
use Rattle.command_runs.proofs.WrittenLemmas.{behind_none}
use Rattle.audit_core.specs.declared.plan.AuditPlan.{AuditPlan}
use Rattle.audit_core.specs.declared.plan.Stage.{Stage}
use Rattle.audit_core.specs.declared.plan.Stage.TheVariants.{Greeting, Beginning, Listing, Playing, Undoing, Reviewing, Trying, Relisting, Loading, Finishing, Over}
use Rattle.audit_core.specs.declared.findings.Fault.{Fault}
use Rattle.audit_core.specs.declared.findings.Fault.TheVariants.{Ended, Broke}
use Rattle.audit_core.specs.AuditState.{AuditState, start, sent, is_ended, break_off, line_at, line_now, at_mark}
use Rattle.audit_core.specs.Audits.{step, after_all, close, audit_of, sent_over, sent_in}
use Rattle.audit_command.specs.Wires.{Wire}
use Rattle.audit_command.specs.Turns.{Turns}
use Rattle.audit_command.specs.declared.turns.Turned.TheVariants.{Heard, Long, Ended as NoLine, ReadFault, WriteFault}
use Rattle.audit_command.specs.Runs.{RanOver, unread}

-- these lines were read, and the bytes that go before them were written
pub record Progress (plan : AuditPlan) (s : AuditState) (ahead0 ahead : ToldLines) (w0 w : Told)
    : Type 0 where
  pub marks : List Mark
  pub here : s ≡ after_all (start plan) marks
  pub left : ahead0 ≡ option_map (λ more. marks ++ more) ahead
  pub wrote : w ≡ behind w0 (sent_over (start plan) marks)

none_before : (a : ToldLines) → a ≡ option_map (λ (more : List Mark). [] ++ more) a
none_before None = refl
none_before (Some xs) = refl

pub progress_begin : (plan : AuditPlan) (s : AuditState) (a : ToldLines) (w : Told) → s ≡ start plan → Progress plan s a a w w
progress_begin plan s a w e = record { marks = []; here = e; left = none_before a; wrote = behind_none w }

-- One more line

after_all-snoc : (s : AuditState) (marks : List Mark) (mark : Mark) → after_all s (marks ++ mark ∷ []) ≡ step (after_all s marks) mark
after_all-snoc s [] mark = refl
after_all-snoc s (m ∷ ms) mark = after_all-snoc (step s m) ms mark

sent_over-snoc : (s : AuditState) (marks : List Mark) (mark : Mark) → sent_over s (marks ++ mark ∷ []) ≡ sent_over s marks ++ line_now (after_all s marks)
sent_over-snoc s [] mark = append-nil (line_now s)
sent_over-snoc s (m ∷ ms) mark = ap (λ (r : List ℕ). line_now s ++ r) (sent_over-snoc (step s m) ms mark) ∙ sym (append_assoc (line_now s) (sent_over (step s m) ms) (line_now (after_all (step s m) ms)))

left-snoc : (marks : List Mark) (mark : Mark) (old new : ToldLines) → old ≡ option_map (λ left. mark ∷ left) new → option_map (λ more. marks ++ more) old ≡ option_map (λ more. (marks ++ mark ∷ []) ++ more) new
left-snoc marks mark old None e = ap (option_map (λ (more : List Mark). marks ++ more)) e
left-snoc marks mark old (Some xs) e = ap (option_map (λ (more : List Mark). marks ++ more)) e ∙ ap (λ (r : List Mark). Some r) (sym (append_assoc marks (mark ∷ []) xs))

pub progress_on : (plan : AuditPlan) (s t : AuditState) (a0 a1 a2 : ToldLines) (w0 w1 w2 : Told) → Progress plan s a0 a1 w0 w1 → Turns Heard s t a1 a2 w1 w2 → Progress plan t a0 a2 w0 w2
progress_on plan s t a0 a1 a2 w0 w1 w2 p (mark, next, ahead, wrote) = record {
  marks = p.marks ++ mark ∷ [];
  here = next ∙ (ap (λ (x : AuditState). step x mark) p.here ∙ sym (after_all-snoc (start plan) p.marks mark));
  left = p.left ∙ left-snoc p.marks mark a1 a2 ahead;
  wrote = wrote ∙ (ap (λ (x : Told). behind x (line_now s)) p.wrote
      ∙ (behind-behind w0 (sent_over (start plan) p.marks) (line_now s)
      ∙ (ap (λ (x : AuditState). behind w0 (sent_over (start plan) p.marks ++ line_now x)) p.here
      ∙ ap (behind w0) (sym (sent_over-snoc (start plan) p.marks mark)))));
}

-- Once it is over

step-over : (s : AuditState) (mark : Mark) → is_ended s.stage ≡ true → step s mark ≡ s
step-over s mark e = ap (λ b. cond b s (at_mark (sent s) mark)) e

pub stays : (s : AuditState) (marks : List Mark) → is_ended s.stage ≡ true → after_all s marks ≡ s
stays s [] e = refl
stays s (m ∷ ms) e = ap (λ (x : AuditState). after_all x ms) (step-over s m e) ∙ stays s ms e

line_over : (b : Bool) (s : AuditState) (stage : Stage) → is_ended stage ≡ true → cond b (line_at s stage) [] ≡ []
line_over false s stage e = refl
line_over true s Over e = refl
line_over true s Greeting e = absurd (cc)
line_over true s Beginning e = absurd (cc)
line_over true s Listing e = absurd (cc)
line_over true s (Playing m) e = absurd (cc)
line_over true s (Undoing back) e = absurd (cc)
line_over true s Reviewing e = absurd (cc)
line_over true s (Trying m) e = absurd (cc)
line_over true s Relisting e = absurd (cc)
line_over true s Loading e = absurd (cc)
line_over true s Finishing e = absurd (cc)

no_line : (s : AuditState) → is_ended s.stage ≡ true → line_now s ≡ []
no_line s e = line_over s.sending s s.stage e

sent-over : (s : AuditState) (marks : List Mark) → is_ended s.stage ≡ true → sent_over s marks ≡ []
sent-over s [] e = refl
sent-over s (m ∷ ms) e = ap (λ (r : List ℕ). r ++ sent_over (step s m) ms) (no_line s e) ∙ (ap (λ (x : AuditState). sent_over x ms) (step-over s m e) ∙ sent-over s ms e)

after_all-append : (s : AuditState) (marks more : List Mark) → after_all s (marks ++ more) ≡ after_all (after_all s marks) more
after_all-append s [] more = refl
after_all-append s (m ∷ ms) more = after_all-append (step s m) ms more

sent_over-append : (s : AuditState) (marks more : List Mark) → sent_over s (marks ++ more) ≡ sent_over s marks ++ sent_over (after_all s marks) more
sent_over-append s [] more = refl
sent_over-append s (m ∷ ms) more = ap (λ (r : List ℕ). line_now s ++ r) (sent_over-append (step s m) ms more) ∙ sym (append_assoc (line_now s) (sent_over (step s m) ms) (sent_over (after_all (step s m) ms) more))

-- The ends

absent : (a : ToldLines) (xs : List Mark) → a ≡ None → a ≡ Some xs → ⊥
absent None xs e f = cc
absent (Some ys) xs e f = cc

-- the lines that were read are the first of those that a fresh reader will give
first_of : (plan : AuditPlan) (s : AuditState) (a : ToldLines) (w0 w rest : Told) → (p : Progress plan s (ahead_of fresh rest) a w0 w) → (bytes : List ℕ) → rest ≡ Some bytes
    → (more : List Mark) × (a ≡ Some more) × (lines bytes ≡ p.marks ++ more)
first_of plan s None w0 w rest p bytes e = absurd (absent (ahead_of fresh rest) (lines bytes) p.left (ap (ahead_of fresh) e ∙ ahead_begin fresh (Some bytes) refl))
first_of plan s (Some more) w0 w rest p bytes e = (more, refl, same_Some _ _ (sym (sym p.left ∙ (ap (ahead_of fresh) e ∙ ahead_begin fresh (Some bytes) refl))))

close-over : (s : AuditState) → is_ended s.stage ≡ true → close s ≡ s
close-over s e = ap (λ b. cond b s (break_off s Ended)) e

audit-over : (plan : AuditPlan) (s : AuditState) (marks more : List Mark) → s ≡ after_all (start plan) marks → is_ended s.stage ≡ true → s ≡ audit_of plan (marks ++ more)
unfolding audit_of
audit-over plan s marks more e o =
    let there : after_all (start plan) (marks ++ more) ≡ s = after_all-append (start plan) marks more ∙ (ap (λ (x : AuditState). after_all x more) (sym e) ∙ stays s more o) in
    sym (ap close there ∙ close-over s o)

sent-all-over : (plan : AuditPlan) (s : AuditState) (marks more : List Mark) → s ≡ after_all (start plan) marks → is_ended s.stage ≡ true → sent_over (start plan) marks ≡ sent_in plan (marks ++ more)
unfolding sent_in
sent-all-over plan s marks more e o =
    let there : after_all (start plan) (marks ++ more) ≡ s = after_all-append (start plan) marks more ∙ (ap (λ (x : AuditState). after_all x more) (sym e) ∙ stays s more o) in
    let rest : sent_over (after_all (start plan) marks) more ≡ [] = ap (λ (x : AuditState). sent_over x more) (sym e) ∙ sent-over s more o in
    let last : line_now (after_all (start plan) (marks ++ more)) ≡ [] = ap line_now there ∙ no_line s o in
    let front : sent_over (start plan) (marks ++ more) ≡ sent_over (start plan) marks = sent_over-append (start plan) marks more ∙ (ap (λ (r : List ℕ). sent_over (start plan) marks ++ r) rest ∙ append-nil (sent_over (start plan) marks)) in
    sym (ap (λ (r : List ℕ). sent_over (start plan) (marks ++ more) ++ r) last ∙ (append-nil (sent_over (start plan) (marks ++ more)) ∙ front))

all-marks : (marks : List Mark) → marks ++ [] ≡ marks
all-marks [] = refl
all-marks (m ∷ ms) = ap (λ (r : List Mark). m ∷ r) (all-marks ms)

-- it came to its end by itself
pub ran_over : (plan : AuditPlan) (t : AuditState) (a : ToldLines) (w0 w : Wire) → Progress plan t (ahead_of fresh w0.rest) a w0.written w.written → is_ended t.stage ≡ true → RanOver plan t w0 w
ran_over plan t a w0 w p o = record {
  over = o;
  marks = p.marks;
  first = λ bytes e. let f = first_of plan t a w0.written w.written w0.rest p bytes e in (f.0, f.2);
  sent = sent_in plan p.marks;
  ends = inl (audit-over plan t p.marks [] p.here o ∙ ap (audit_of plan) (all-marks p.marks), refl);
  wrote = p.wrote ∙ ap (behind w0.written) (sent-all-over plan t p.marks [] p.here o ∙ ap (sent_in plan) (all-marks p.marks));
  told = λ bytes e calm.
      let f = first_of plan t a w0.written w.written w0.rest p bytes e in
      record {
        audit = audit-over plan t p.marks f.0 p.here o ∙ ap (audit_of plan) (sym f.2);
        sent = p.wrote ∙ ap (behind w0.written) (sent-all-over plan t p.marks f.0 p.here o ∙ ap (sent_in plan) (sym f.2));
      };
}

-- the lines after one that is too long
long_rest : (a : ToldLines) → LongAhead a → (b : ToldLines) × (a ≡ option_map (λ (left : List Mark). TooLong ∷ left) b)
long_rest None h = (None, refl)
long_rest (Some left) (more, e) = (Some more, ap (λ (r : List Mark). Some r) e)

long-over : (s t : AuditState) → is_ended s.stage ≡ false → t ≡ step s TooLong → is_ended t.stage ≡ true
unfolding at_mark
long-over s t o e = ap (λ (x : AuditState). is_ended x.stage) (e ∙ ap (λ b. cond b s (at_mark (sent s) TooLong)) o)

-- a line was too long
pub ran_long : (plan : AuditPlan) (s t : AuditState) (a1 a2 : ToldLines) (w0 w : Wire) (w1 : Told) → Progress plan s (ahead_of fresh w0.rest) a1 w0.written w1 → is_ended s.stage ≡ false → Turns Long s t a1 a2 w1 w.written → RanOver plan t w0 w
ran_long plan s t a1 a2 w0 w w1 p o (next, long, wrote) =
    let behind_it = long_rest a1 long in
    let q = progress_on plan s t (ahead_of fresh w0.rest) a1 behind_it.0 w0.written w1 w.written p (TooLong, next, behind_it.1, wrote) in
    ran_over plan t behind_it.0 w0 w q (long-over s t o next)

broken-over : (s t : AuditState) (fault : Fault) → t ≡ break_off s fault → is_ended t.stage ≡ true
broken-over s t fault e = ap (λ (x : AuditState). is_ended x.stage) e

-- the bytes that were sent before the last line, and that line
sent-last : (plan : AuditPlan) (s : AuditState) (marks : List Mark) (w0 w1 w2 : Told) → s ≡ after_all (start plan) marks → w1 ≡ behind w0 (sent_over (start plan) marks) → w2 ≡ behind w1 (line_now s) → w2 ≡ behind w0 (sent_in plan marks)
unfolding sent_in
sent-last plan s marks w0 w1 w2 e f g =
    g ∙ (ap (λ (x : Told). behind x (line_now s)) f ∙ (behind-behind w0 (sent_over (start plan) marks) (line_now s) ∙ ap (λ (x : AuditState). behind w0 (sent_over (start plan) marks ++ line_now x)) e))

closed : (plan : AuditPlan) (s : AuditState) (marks : List Mark) → s ≡ after_all (start plan) marks → is_ended s.stage ≡ false → break_off s Ended ≡ audit_of plan marks
unfolding audit_of
closed plan s marks e o = sym (ap close (sym e) ∙ ap (λ b. cond b s (break_off s Ended)) o)

nothing_left : (a : ToldLines) (more : List Mark) → NoneAhead a → a ≡ Some more → more ≡ []
nothing_left None more n e = absurd (cc)
nothing_left (Some xs) more n e = sym (same_Some _ _ e) ∙ n

-- the engine's output ended
pub ran_out : (plan : AuditPlan) (s u t : AuditState) (a1 a2 : ToldLines) (w0 w : Wire) (w1 : Told) → Progress plan s (ahead_of fresh w0.rest) a1 w0.written w1 → is_ended s.stage ≡ false → Turns NoLine s u a1 a2 w1 w.written → t ≡ break_off u Ended → RanOver plan t w0 w
ran_out plan s u t a1 a2 w0 w w1 p o (next, none, wrote) e =
    let at : t ≡ audit_of plan p.marks = e ∙ (ap (λ (x : AuditState). break_off x Ended) next ∙ closed plan s p.marks p.here o) in
    let bytes_sent : w.written ≡ behind w0.written (sent_in plan p.marks) = sent-last plan s p.marks w0.written w1 w.written p.here p.wrote wrote in record {
      over = broken-over u t Ended e;
      marks = p.marks;
      first = λ bytes f. let x = first_of plan s a1 w0.written w1 w0.rest p bytes f in (x.0, x.2);
      sent = sent_in plan p.marks;
      ends = inl (at, refl);
      wrote = bytes_sent;
      told = λ bytes f calm.
          let x = first_of plan s a1 w0.written w1 w0.rest p bytes f in
          let same : p.marks ≡ lines bytes = sym (x.2 ∙ (ap (λ (r : List Mark). p.marks ++ r) (nothing_left a1 x.0 none x.1) ∙ all-marks p.marks)) in
          record {
            audit = at ∙ ap (audit_of plan) same;
            sent = bytes_sent ∙ ap (λ (r : List Mark). behind w0.written (sent_in plan r)) same;
          };
    }

-- a read failed
pub ran_unread : (plan : AuditPlan) (s u t : AuditState) (a1 a2 : ToldLines) (w0 w : Wire) (w1 : Told) → Progress plan s (ahead_of fresh w0.rest) a1 w0.written w1 → Turns ReadFault s u a1 a2 w1 w.written → t ≡ break_off u (unread plan) → Rose w0.reads w.reads → RanOver plan t w0 w
ran_unread plan s u t a1 a2 w0 w w1 p (next, same, wrote) e rose = record {
  over = broken-over u t (unread plan) e;
  marks = p.marks;
  first = λ bytes f. let x = first_of plan s a1 w0.written w1 w0.rest p bytes f in (x.0, x.2);
  sent = sent_in plan p.marks;
  ends = inr (inl (e ∙ (ap (λ (x : AuditState). break_off x (unread plan)) next ∙ ap (λ (x : AuditState). break_off x (unread plan)) p.here), refl, rose));
  wrote = sent-last plan s p.marks w0.written w1 w.written p.here p.wrote wrote;
  told = λ bytes f calm. absurd (calm (inl rose));
}

sent-front : (plan : AuditPlan) (s : AuditState) (marks : List Mark) (w0 w1 w2 : Told) (n : ℕ) → s ≡ after_all (start plan) marks → w1 ≡ behind w0 (sent_over (start plan) marks) → w2 ≡ behind w1 (take n (line_now s)) → w2 ≡ behind w0 (sent_over (start plan) marks ++ take n (line_now (after_all (start plan) marks)))
sent-front plan s marks w0 w1 w2 n e f g =
    g ∙ (ap (λ (x : Told). behind x (take n (line_now s))) f ∙ (behind-behind w0 (sent_over (start plan) marks) (take n (line_now s))
    ∙ ap (λ (x : AuditState). behind w0 (sent_over (start plan) marks ++ take n (line_now x))) e))

-- a write failed
pub ran_unsent : (plan : AuditPlan) (s u t : AuditState) (a1 a2 : ToldLines) (w0 w : Wire) (w1 : Told) → Progress plan s (ahead_of fresh w0.rest) a1 w0.written w1 → Turns WriteFault s u a1 a2 w1 w.written → t ≡ break_off u Broke → Rose w0.writes w.writes → RanOver plan t w0 w
ran_unsent plan s u t a1 a2 w0 w w1 p (next, same, (n, low, wrote)) e rose = record {
  over = broken-over u t Broke e;
  marks = p.marks;
  first = λ bytes f. let x = first_of plan s a1 w0.written w1 w0.rest p bytes f in (x.0, x.2);
  sent = sent_over (start plan) p.marks ++ take n (line_now (after_all (start plan) p.marks));
  ends = inr (inr (
    e ∙ (ap (λ (x : AuditState). break_off x Broke) next ∙ ap (λ (x : AuditState). break_off x Broke) p.here),
    (n, subst (λ (x : AuditState). n < length (line_now x)) p.here low, refl),
    rose,
  ));
  wrote = sent-front plan s p.marks w0.written w1 w.written n p.here p.wrote wrote;
  told = λ bytes f calm. absurd (calm (inr rose));
}
