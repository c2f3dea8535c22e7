-- Each turn looks at one byte more, and keeps it.
use Rattle.std.proofs.Common.{rules, arith, ◌∙◌, ◌≤◌, ◌≢◌, length}
use Rattle.line_feed.specs.Looks.{most_kept}
use Rattle.line_feed.proofs.Looking.{looks_begin, look_byte, look_lf, kept_counts}
use Rattle.line_feed.proofs.parts.read_short_part.Goals as goal

pub part-init : goal.part-init
part-init g c = record {
  read = looks_begin _ _ _ (omega arith);
  all = cc;
  same = cc;
  aside = cc;
  short = omega arith;
  room = omega arith;
  counted = omega arith;
  bounded = omega arith;
  little = omega arith;
}

pub returns-then-byte-eq-LF-clause-read : goal.returns-then-byte-eq-LF-clause-read
returns-then-byte-eq-LF-clause-read g c = look_lf _ c.part.invariant.read c.in-Got.ensures.byte c.if-byte-eq-LF.true

pub part-preserved : goal.part-preserved
part-preserved g c =
    let short : length c.part.part.items ≤ most_kept = omega (arith, c.part.invariant.short) in
    let room : length c.part.part.items ≢ most_kept = λ e. c.if-len-eq-MOST_KEPT.false (search rules) in
    record {
      read = look_byte _ _ c.part.invariant.read c.in-Got.ensures.byte c.if-byte-eq-LF.false c.keep.ensures.kept;
      all = kept_counts _ _ _ _ _ _ _ c.part.invariant.all c.in-Got.ensures.looked c.keep.ensures.kept room short;
      same = c.in-Got.ensures.cause.same (λ e. cc) ∙ c.part.invariant.same;
      aside = cc;
      short = omega arith;
      room = omega arith;
      counted = omega arith;
      bounded = omega arith;
      little = omega arith;
    }
