use Rattle.std.proofs.Common.{arith}
use Rattle.std.proofs.lemmas.Int.{ints}
use Rattle.pillbug_throws.proofs.landing.is_close.Goals as goal

pub returns-then-place-other : goal.returns-then-place-other
returns-then-place-other c h = absurd (let near = h.0.0 in let far = c.if-place-other.true in omega (arith, ints))

pub returns-then-other-place : goal.returns-then-other-place
returns-then-other-place c h = absurd (let near = h.0.1 in let far = c.if-other-place.true in omega (arith, ints))

pub returns-then-place-other-2 : goal.returns-then-place-other-2
returns-then-place-other-2 c h = absurd (let near = h.1.0 in let far = c.if-place-other-2.true in omega (arith, ints))

pub returns-then-other-place-2 : goal.returns-then-other-place-2
returns-then-other-place-2 c h = absurd (let near = h.1.1 in let far = c.if-other-place-2.true in omega (arith, ints))
