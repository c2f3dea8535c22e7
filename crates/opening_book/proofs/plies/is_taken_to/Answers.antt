use Rattle.std.proofs.Common.{sym, ◌∙◌, ap, arith, inl, inr, false, None, slice_index_or}
use Rattle.std.proofs.lemmas.Bool.{cases_eq}
use Rattle.symmetry.specs.Takes.{takes_by}
use Rattle.opening_book.proofs.PlyLaws.{taken_found, taken_none}
use Rattle.opening_book.proofs.plies.is_taken_to.Goals as goal

pub is_taken_by-requires-clause-within : goal.is_taken_by-requires-clause-within
is_taken_by-requires-clause-within c = λ t e. c.requires.within c.loop-index.index t e

pub returns-then-is_taken_by : goal.returns-then-is_taken_by
returns-then-is_taken_by c = sym (taken_found c.args.shifts.now c.args.from.now c.args.to.now c.loop-index.index c.loop-index-test.true (sym c.is_taken_by.ensures ∙ c.if-is_taken_by.true))

pub loop-index-preserved : goal.loop-index-preserved
loop-index-preserved c = λ s low. elim (cases_eq s c.loop-index.index) [
  | inl same ↦ ap (λ k. takes_by k (slice_index_or c.args.shifts.now k None) c.args.from.now c.args.to.now) same ∙ (sym c.is_taken_by.ensures ∙ c.if-is_taken_by.false)
  | inr other ↦ c.loop-index.invariant s (omega (arith, low, other))
]

pub returns : goal.returns
returns c = sym (taken_none c.args.shifts.now c.args.from.now c.args.to.now (λ s low. c.loop-index.invariant s (omega (arith, low, c.loop-index-test.false))))
