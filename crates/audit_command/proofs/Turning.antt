-- One turn: a line that is read brings the reader nearer to its limit.
use Rattle.std.proofs.Common.{◌≡◌, ℕ, ◌-◌, ◌<◌, ◌≤◌, false, cond, List, [], ◌++◌, length, None, Some, sym, ◌∙◌, ap, subst, arith, length-append}
use Rattle.std.proofs.lemmas.Option.{same_Some}
use Rattle.io_edge.specs.Outside.{Told, HasCause, behind, in_front}
use Rattle.io_edge.proofs.Told.{in_front-in_front, in_front-nil}
use Rattle.io_edge.specs.Lines.{Line as Mark, TooLong, ToldLines, LongAhead, NoneAhead}
use Rattle.line_feed.specs.Ahead.{ahead_of}
use Rattle.audit_core.specs.AuditState.{AuditState, at_mark, is_ended, line_now, sent}
use Rattle.audit_core.specs.Audits.{step}
use Rattle.audit_command.specs.declared.turns.Turned.{Turned}
use Rattle.audit_command.specs.declared.turns.Turned.TheVariants.{Heard, Long, Ended, ReadFault, WriteFault, Memory, Full}
use Rattle.audit_command.specs.Turns.{Hears, Turns}
use Rattle.audit_command.specs.Wires.{HasLimit, TookLimit}
use Rattle.line_feed.specs.Feed.{Reading, AddsUp, FeedsShort, Takes, input_limit, settled}
use Rattle.line_feed.specs.declared.line_answers.ShortAnswer.TheVariants.{Line}

less : (a b limit : ℕ) → a < b → b ≤ limit → limit - b < limit - a
less a b limit h k = omega (arith, h, k)

within : (r : Reading) → AddsUp r → settled r ≤ input_limit
within r adds = let b = adds.bound in omega (arith, b)

pub falls_line : (old new : Reading) (r0 r1 : Told) → (bytes : List ℕ) × Takes r0 r1 old.taken new.taken bytes × FeedsShort Line old bytes new r1 → AddsUp new → input_limit - settled new < input_limit - settled old
falls_line old new r0 r1 (bytes, takes, gives) adds = less (settled old) (settled new) input_limit gives.moves_on (within new adds)

-- What was sent, and what was read after it

step_open : (s mid t : AuditState) (mark : Mark) → is_ended s.stage ≡ false → mid ≡ sent s → t ≡ at_mark mid mark → t ≡ step s mark
step_open s mid t mark o e f = f ∙ (ap (λ (x : AuditState). at_mark x mark) e ∙ sym (ap (λ b. cond b s (at_mark (sent s) mark)) o))

pub turns_of : (r : Turned) (s mid t : AuditState) (reader : Reading) (r0 r1 : Told) (new : ToldLines) (w0 w1 w2 : Told) → is_ended s.stage ≡ false → mid ≡ sent s → w1 ≡ behind w0 (line_now s) → r1 ≡ r0
    → Hears r mid t (ahead_of reader r1) new → w2 ≡ w1 → Turns r s t (ahead_of reader r0) new w0 w2
turns_of Heard s mid t reader r0 r1 new w0 w1 w2 o e sends same (mark, f, ahead) kept = (mark, step_open s mid t mark o e f, sym (ap (ahead_of reader) same) ∙ ahead, kept ∙ sends)
turns_of Long s mid t reader r0 r1 new w0 w1 w2 o e sends same (f, long) kept = (step_open s mid t TooLong o e f, subst (λ r. LongAhead (ahead_of reader r)) same long, kept ∙ sends)
turns_of Ended s mid t reader r0 r1 new w0 w1 w2 o e sends same (f, none) kept = (f ∙ e, subst (λ r. NoneAhead (ahead_of reader r)) same none, kept ∙ sends)
turns_of ReadFault s mid t reader r0 r1 new w0 w1 w2 o e sends same (f, ahead) kept = (f ∙ e, ahead ∙ ap (ahead_of reader) same, kept ∙ sends)
turns_of WriteFault s mid t reader r0 r1 new w0 w1 w2 o e sends same hears kept = absurd hears
turns_of Memory s mid t reader r0 r1 new w0 w1 w2 o e sends same hears kept = tt
turns_of Full s mid t reader r0 r1 new w0 w1 w2 o e sends same hears kept = tt

no_write : (r : Turned) (mid t : AuditState) (old new : ToldLines) → Hears r mid t old new → r ≡ WriteFault → ⊥
no_write Heard mid t old new h e = cc
no_write Long mid t old new h e = cc
no_write Ended mid t old new h e = cc
no_write ReadFault mid t old new h e = cc
no_write WriteFault mid t old new h e = h
no_write Memory mid t old new h e = cc
no_write Full mid t old new h e = cc

pub writes_of : (r : Turned) (mid t : AuditState) (old new : ToldLines) (n0 n1 n2 : ℕ) → Hears r mid t old new → n1 ≡ n0 → n2 ≡ n1 → HasCause (r ≡ WriteFault) n0 n2
writes_of r mid t old new n0 n1 n2 hears e f = record {
  later = omega (arith, e, f);
  rose = λ x. absurd (no_write r mid t old new hears x);
  same = λ no. f ∙ e;
}

-- The bytes that have left the link and were counted

abbrev pub HasTaken : Told → Told → ℕ → ℕ → Type 0
HasTaken old new before now = (bytes : List ℕ) × Takes old new before now bytes

pub taken_none : (r : Told) (n : ℕ) → HasTaken r r n n
taken_none r n = ([], record { left = in_front-nil r; counted = omega arith })

pub taken_more : (r0 r1 r2 : Told) (n0 n1 n2 : ℕ) → HasTaken r0 r1 n0 n1 → HasTaken r1 r2 n1 n2 → HasTaken r0 r2 n0 n2
taken_more r0 r1 r2 n0 n1 n2 (a, p) (b, q) =
    let before = p.counted in let after = q.counted in (
      a ++ b,
      record {
        left = p.left ∙ (ap (in_front a) q.left ∙ in_front-in_front a b r2);
        counted = omega (arith, before, after, length-append a b);
      },
    )

-- the reader is full
pub took_limit : (r0 r1 : Told) (n : ℕ) → HasTaken r0 r1 0 n → n ≡ input_limit → TookLimit r0 r1
took_limit r0 r1 n (bytes, t) full = let all = t.counted in (bytes, t.left, omega (arith, all, full))

pub has_limit : (r0 r1 : Told) → TookLimit r0 r1 → HasLimit r0
has_limit r0 None (bytes, left, many) = λ all e. absurd (cc)
has_limit r0 (Some more) (bytes, left, many) = λ all e.
    let same : bytes ++ more ≡ all = same_Some _ _ (sym left ∙ e) in
    subst (λ (x : List ℕ). input_limit ≤ length x) same (omega (arith, many, length-append bytes more))
