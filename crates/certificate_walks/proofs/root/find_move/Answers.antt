use Rattle.std.proofs.Common.{◌≡◌, rules, arith}
use Rattle.hive_model.specs.Stack.{level_of}
use Rattle.certificate_walks.proofs.PlaceLaws.{place-step, place-met, place-none}
use Rattle.certificate_walks.proofs.root.find_move.Goals as goal

pub loop-i-preserved : goal.loop-i-preserved
loop-i-preserved c = place-step c.args.m (level_of c.args.stack.now c.args.level) c.loop-i.i c.get.result c.loop-i.invariant c.get.ensures (search rules)

pub returns-then-eq : goal.returns-then-eq
returns-then-eq c =
    let same : c.args.m ≡ c.get.result = search rules in
    place-met c.args.m (level_of c.args.stack.now c.args.level) c.loop-i.i c.get.result c.loop-i.invariant c.get.ensures same

pub returns : goal.returns
returns c = place-none c.args.m (level_of c.args.stack.now c.args.level) c.loop-i.i c.loop-i.invariant (omega (arith, c.level_len-count.ensures, c.loop-i-test.false))
