use Rattle.move_text.proofs.FieldLaws.{number_utf8, number_not_err, number_same, printed_same}
use Rattle.move_text.proofs.NumberLaws.{found_at, none_at}
use Rattle.std.proofs.Common.{◌≡◌, ap, Some, arith}
use Rattle.move_text.proofs.fields.read_number.Goals as goal

pub returns-in_default-clause-only : goal.returns-in_default-clause-only
returns-in_default-clause-only c = λ n h. absurd (c.in_default.ensures.cases.0 (number_utf8 _ _ _ n c.ranges.most.fits h))

pub returns-in_default-parse-clause-only : goal.returns-in_default-parse-clause-only
returns-in_default-parse-clause-only c = λ n h. absurd (number_not_err c.args.text.now c.in-Ok.letters.now c.args.least c.args.most n c.parse.result c.in_default-parse.field-0 c.ranges.most.fits h c.in-Ok.ensures.cases.0 c.parse.ensures.value.0 c.in_default-parse.is)

pub returns-then-ne-clause-only : goal.returns-then-ne-clause-only
returns-then-ne-clause-only c = λ n h.
    let same : c.in-Ok-parse.number ≡ n = number_same c.args.text.now c.in-Ok.letters.now c.args.least c.args.most n c.parse.result c.in-Ok-parse.number c.ranges.most.fits h c.in-Ok.ensures.cases.0 c.parse.ensures.value.0 c.in-Ok-parse.is in
    absurd (printed_same c.args.text.now c.in-Ok.letters.now c.format.result.now c.in-Ok-parse.number n same c.in-Ok.ensures.cases.0 c.format.ensures.text h.digits c.if-ne.ensures)

pub returns-then-number-least-clause-only : goal.returns-then-number-least-clause-only
returns-then-number-least-clause-only c = λ n h.
    let same : c.in-Ok-parse.number ≡ n = number_same c.args.text.now c.in-Ok.letters.now c.args.least c.args.most n c.parse.result c.in-Ok-parse.number c.ranges.most.fits h c.in-Ok.ensures.cases.0 c.parse.ensures.value.0 c.in-Ok-parse.is in
    let low = h.low in
    absurd (omega (arith, same, low))

pub returns-then-most-number-clause-only : goal.returns-then-most-number-clause-only
returns-then-most-number-clause-only c = λ n h.
    let same : c.in-Ok-parse.number ≡ n = number_same c.args.text.now c.in-Ok.letters.now c.args.least c.args.most n c.parse.result c.in-Ok-parse.number c.ranges.most.fits h c.in-Ok.ensures.cases.0 c.parse.ensures.value.0 c.in-Ok-parse.is in
    let high = h.high in
    absurd (omega (arith, same, high))

pub returns-clause-only : goal.returns-clause-only
returns-clause-only c = λ n h.
    ap (λ k. Some k) (number_same c.args.text.now c.in-Ok.letters.now c.args.least c.args.most n c.parse.result c.in-Ok-parse.number c.ranges.most.fits h c.in-Ok.ensures.cases.0 c.parse.ensures.value.0 c.in-Ok-parse.is)

pub returns-in_default-clause-value : goal.returns-in_default-clause-value
returns-in_default-clause-value c = none_at _ _ _ (returns-in_default-clause-only c)

pub returns-in_default-parse-clause-value : goal.returns-in_default-parse-clause-value
returns-in_default-parse-clause-value c = none_at _ _ _ (returns-in_default-parse-clause-only c)

pub returns-then-ne-clause-value : goal.returns-then-ne-clause-value
returns-then-ne-clause-value c = none_at _ _ _ (returns-then-ne-clause-only c)

pub returns-then-number-least-clause-value : goal.returns-then-number-least-clause-value
returns-then-number-least-clause-value c = none_at _ _ _ (returns-then-number-least-clause-only c)

pub returns-then-most-number-clause-value : goal.returns-then-most-number-clause-value
returns-then-most-number-clause-value c = none_at _ _ _ (returns-then-most-number-clause-only c)

pub returns-clause-value : goal.returns-clause-value
returns-clause-value c = found_at _ _ _ _ _ _ c.ranges.most.fits c.in-Ok.ensures.cases.0 c.format.ensures.text c.if-ne.ensures c.if-number-least.false c.if-most-number.false
