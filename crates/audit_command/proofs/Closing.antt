-- An audit that was run over a link, and what is known of it once the program is closed.
use Rattle.std.proofs.Common.{◌≡◌, ℕ, zero, suc, ◌+◌, ◌<◌, true, false, Bool, List, [], ◌∷◌, length, None, Some, Ok, Err, inl, inr, refl, ap, sym, ◌∙◌, subst, arith, length-append}
use Rattle.std.specs.Prelude.{◌==◌, if◌then◌else◌}
use Rattle.std.specs.declared.result.Result.{Result}
use Rattle.std.specs.Result.{IfOk}
use Rattle.std.proofs.lemmas.Option.{same_Some}
use Rattle.std.proofs.lemmas.Bool.{eqb-true}
use Rattle.io_edge.specs.Outside.{Told, ToldLists, Collects, HasCause, Rose, Starts, behind}
use Rattle.io_edge.specs.Starts.{Engines}
use Rattle.io_edge.specs.Lines.{Line as Mark, lines}
use Rattle.command_runs.specs.Answered.{WritesAs}
use Rattle.command_runs.specs.World.{World}
use Rattle.command_runs.specs.declared.status.Status.{Status}
use Rattle.command_runs.specs.declared.status.Status.TheVariants.{Done, Refused, SpawnFault}
use Rattle.audit_core.specs.declared.plan.AuditPlan.{AuditPlan}
use Rattle.audit_core.specs.AuditState.{AuditState}
use Rattle.audit_core.specs.Audits.{sent_in}
use Rattle.audit_command.specs.Wires.{HasFailed, Wire}
use Rattle.audit_command.specs.Runs.{Ends, RanOver}
use Rattle.audit_command.specs.Audit.{AuditRun, AuditStarts, AuditedOver, CountsFault, IsStarted, NoProgramIsOpen, AuditOver, verdict_of}

-- a link that failed has counted it
failed : (w0 w : Wire) → w0.reads ≡ 0 → w0.writes ≡ 0 → HasFailed w0 w → 0 < w.reads + w.writes
failed w0 w a b (inl r) = elim r.higher [ inl x ↦ omega (arith, x) | inr x ↦ omega (arith, x) ]
failed w0 w a b (inr r) = elim r.higher [ inl x ↦ omega (arith, x) | inr x ↦ omega (arith, x) ]

-- what was written after nothing
from_none : (old new : Told) (bytes : List ℕ) → old ≡ Some [] → new ≡ behind old bytes → new ≡ Some bytes
from_none old new bytes e f = f ∙ ap (λ o. behind o bytes) e

-- how it ended, once the failures of the link are counted
ends_so : {A B C D : Type 0} (plan : AuditPlan) (marks : List Mark) (sent : List ℕ) (t : AuditState) → (A → C) → (B → D) → Ends plan marks sent t A B → Ends plan marks sent t C D
ends_so plan marks sent t f g (inl e) = inl e
ends_so plan marks sent t f g (inr (inl (e, all, rose))) = inr (inl (e, all, f rose))
ends_so plan marks sent t f g (inr (inr (e, part, rose))) = inr (inr (e, part, g rose))

-- the audit that was run, once the program is closed
pub audited_over : (plan : AuditPlan) (t : AuditState) (w0 w : Wire) (before after : Engines) → w0.reads ≡ 0 → w0.writes ≡ 0 → RanOver plan t w0 w
    → CountsFault (w.reads + w.writes) before.engine_faults after.engine_faults → Collects before.sent after.sent w.written → AuditedOver plan t w0.rest w0.written before after
audited_over plan t w0 w before after r0 s0 ran counts closes =
    let counted : HasFailed w0 w → Rose before.engine_faults after.engine_faults = λ x. counts.failed (failed w0 w r0 s0 x) in
    record {
      over = ran.over;
      marks = ran.marks;
      sent = ran.sent;
      ends = ends_so plan ran.marks ran.sent t (λ r. counted (inl r)) (λ r. counted (inr r)) ran.ends;
      heard = ran.first;
      gains = λ f. subst (Collects before.sent after.sent) (from_none w0.written w.written ran.sent f ran.wrote) closes;
      whole = λ bytes e f calm.
          let m = ran.told bytes e (λ x. calm (counted x)) in record {
            audit = m.audit;
            gains = subst (Collects before.sent after.sent) (from_none w0.written w.written (sent_in plan (lines bytes)) f m.sent) closes;
          };
    }

pub audited_ok : {E : Type 0} (r : Result AuditState E) (plan : AuditPlan) (w0 w : Wire) (before after : Engines) → w0.reads ≡ 0 → w0.writes ≡ 0 → IfOk r (λ t. RanOver plan t w0 w)
    → CountsFault (w.reads + w.writes) before.engine_faults after.engine_faults → Collects before.sent after.sent w.written → IfOk r (λ t. AuditedOver plan t w0.rest w0.written before after)
audited_ok (Ok t) plan w0 w before after r0 s0 ran counts closes = audited_over plan t w0 w before after r0 s0 ran counts closes
audited_ok (Err x) plan w0 w before after r0 s0 ran counts closes = tt

-- what a start says of the link
told_start : (before now : ToldLists) (rest written : Told) (all : List (List ℕ)) → Starts before now rest written → before ≡ Some all
    → (bytes : List ℕ) × (others : List (List ℕ)) × (all ≡ bytes ∷ others) × (now ≡ Some others) × (rest ≡ Some bytes) × (written ≡ Some [])
told_start None now rest written all starts e = absurd (cc)
told_start (Some xs) None rest written all starts e = absurd starts
told_start (Some xs) (Some ys) rest written all (bytes, xe, r, w) e = (bytes, ys, sym (same_Some _ _ e) ∙ xe, refl, r, w)

-- the audit from before its program was started
pub played_from : (plan : AuditPlan) (t : AuditState) (rest written : Told) (before between after : Engines) → Starts before.to_come between.to_come rest written → after.to_come ≡ between.to_come
    → between.sent ≡ before.sent → between.engine_faults ≡ before.engine_faults → AuditedOver plan t rest written between after → AuditOver plan t before after
played_from plan t rest written before between after starts stays sent faults a =
    let counted : Rose between.engine_faults after.engine_faults → Rose before.engine_faults after.engine_faults = λ rose. subst (λ n. Rose n after.engine_faults) faults rose in
    record {
      over = a.over;
      marks = a.marks;
      sent = a.sent;
      ends = ends_so plan a.marks a.sent t counted counted a.ends;
      programs = λ all e.
          let s = told_start before.to_come between.to_come rest written all starts e in record {
            bytes = s.0;
            others = s.1;
            first = s.2;
            left = stays ∙ s.3;
            heard = a.heard s.0 s.4;
            gains = subst (λ x. Collects x after.sent (Some a.sent)) sent (a.gains s.5);
            whole = λ calm.
                let m = a.whole s.0 s.4 s.5 (λ rose. calm (counted rose)) in record {
                  audit = m.audit;
                  gains = subst (λ x. Collects x after.sent (Some (sent_in plan (lines s.0)))) sent m.gains;
                };
          };
    }

-- what was written of it

some_of : (n : ℕ) → (n == 0) ≡ false → 0 < n
some_of zero e = absurd (cc)
some_of (suc n) e = omega arith

whole_at : (plan : AuditPlan) (t : AuditState) (status : Status) (before after : World) (b : Bool) → AuditOver plan t before.engines after.engines → after.sides.written ≡ behind before.sides.written t.text → (t.findings == 0) ≡ b
    → status ≡ (if b then Done else Refused) → AuditRun plan status before after
whole_at plan t status before after true played wrote k e = subst (λ s. AuditRun plan s before after) (sym e) (t, eqb-true t.findings 0 k, record { played = played; wrote = wrote })
whole_at plan t status before after false played wrote k e = subst (λ s. AuditRun plan s before after) (sym e) (t, some_of t.findings k, record { played = played; wrote = wrote })

pub told_as : (plan : AuditPlan) (t : AuditState) (status : Status) (before after : World) → AuditOver plan t before.engines after.engines → WritesAs t.text (verdict_of t.findings) status before.sides.written after.sides.written → AuditRun plan status before after
told_as plan t status before after played (inl (e, wrote)) = whole_at plan t status before after (t.findings == 0) played wrote refl e
told_as plan t status before after played (inr (e, (n, low, wrote))) =
    subst (λ s. AuditRun plan s before after) (sym e) (t, n, record { played = played; cut = low; wrote = wrote })

started_at : (b : Bool) (status : Status) (words : List (List ℕ)) (before after : Engines) → status ≡ (if b then Done else Refused) → IsStarted words before after → AuditStarts status words before after
started_at true status words before after e is = subst (λ s. AuditStarts s words before after) (sym e) is
started_at false status words before after e is = subst (λ s. AuditStarts s words before after) (sym e) is

no_start : (b : Bool) (status : Status) → status ≡ (if b then Done else Refused) → status ≡ SpawnFault → ⊥
no_start true status e f = let g = sym e ∙ f in cc
no_start false status e f = let g = sym e ∙ f in cc

not_start : (text : List ℕ) (n : ℕ) (status : Status) (w0 w : Told) → WritesAs text (verdict_of n) status w0 w → status ≡ SpawnFault → ⊥
not_start text n status w0 w (inl (e, wrote)) f = no_start (n == 0) status e f
not_start text n status w0 w (inr (e, wrote)) f = let g = sym e ∙ f in cc

one_taken : (coming later : List (List ℕ)) (rest written : Told) → Starts (Some coming) (Some later) rest written → length coming ≡ length later + 1
one_taken coming later rest written (bytes, e, r, w) = let one = ap length e in omega (arith, one)

one_closed : (opened closed : List (List ℕ)) (w : Told) → Collects (Some opened) (Some closed) w → length closed ≡ length opened + 1
one_closed opened closed w (bytes, e, all) = let one = ap length all ∙ length-append opened (bytes ∷ []) in omega (arith, one)

-- the program was started
pub started_as : (text : List ℕ) (n : ℕ) (status : Status) (w0 w : Told) (words : List (List ℕ)) (before after : Engines) → WritesAs text (verdict_of n) status w0 w → IsStarted words before after → AuditStarts status words before after
started_as text n status w0 w words before after (inl (e, wrote)) is = started_at (n == 0) status words before after e is
started_as text n status w0 w words before after (inr (e, wrote)) is = subst (λ s. AuditStarts s words before after) (sym e) is

-- if a text is written, no program failed to start
pub none_failed : (text : List ℕ) (n : ℕ) (status : Status) (w0 w : Told) (before after : ℕ) → WritesAs text (verdict_of n) status w0 w → after ≡ before → HasCause (status ≡ SpawnFault) before after
none_failed text n status w0 w before after told same = record {
  later = omega (arith, same);
  rose = λ e. absurd (not_start text n status w0 w told e);
  same = λ no. same;
}

-- one start took one of those to come, and one close added one: none is left open
pub none_open : (before between after : Engines) (rest written w : Told) → Starts before.to_come between.to_come rest written → after.to_come ≡ between.to_come → between.sent ≡ before.sent → Collects between.sent after.sent w → NoProgramIsOpen before after
none_open before between after rest written w starts stays sent closes = record {
  even = λ coming later opened closed e f g h.
      let one = one_taken coming later rest written (subst (λ x. Starts x (Some later) rest written) e (subst (λ x. Starts before.to_come x rest written) (sym stays ∙ f) starts)) in
      let other = one_closed opened closed w (subst (λ x. Collects x (Some closed) w) (sent ∙ g) (subst (λ x. Collects between.sent x w) h closes)) in
      omega (arith, one, other);
}

-- no program was started, and none closed
pub none_taken : (before after : Engines) → after.to_come ≡ before.to_come → after.sent ≡ before.sent → NoProgramIsOpen before after
none_taken before after stays sent = record {
  even = λ coming later opened closed e f g h.
      let one = ap length (same_Some _ _ (sym e ∙ (sym stays ∙ f))) in
      let other = ap length (same_Some _ _ (sym g ∙ (sym sent ∙ h))) in
      omega (arith, one, other);
}
