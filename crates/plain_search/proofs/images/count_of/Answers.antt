use Rattle.plain_search.proofs.ImageSteps.{known-at}
use Rattle.plain_search.proofs.images.count_of.Goals as goal

pub returns-then-are_same : goal.returns-then-are_same
returns-then-are_same c =
    known-at c.args.known.now _ c.entry-item.result c.args.m.now c.loop-entry-test.true c.entry-item.is (c.are_same.ensures c.if-are_same.true)
