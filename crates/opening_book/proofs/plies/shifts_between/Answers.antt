use Rattle.std.proofs.Common.{arith, rules}
use Rattle.opening_book.proofs.PlyLaws.{next_shift, next_within, within_of}
use Rattle.opening_book.proofs.plies.shifts_between.Goals as goal

pub loop-index-preserved : goal.loop-index-preserved
loop-index-preserved c =
    let h = c.loop-index.invariant in
    let new = c.alike.ensures in
    let small = c.loop-index-test.true in
    record {
      long = search rules;
      shift = next_shift c.loop-index.shifts c.args.from.now c.args.to.now c.loop-index.index c.alike.result h.long small h.shift (rw c.at.ensures at new.shift);
      within = next_within c.loop-index.shifts c.loop-index.index c.alike.result h.long small h.within (within_of c.alike.result new.within);
    }

pub returns : goal.returns
returns c =
    let h = c.loop-index.invariant in
    record { shift = λ s low. h.shift s (omega (arith, low, c.loop-index-test.false)); within = h.within }
