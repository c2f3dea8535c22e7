use Rattle.std.proofs.Common.{rules, ◌≡◌}
use Rattle.uhp_session.proofs.TeamLaws.{all-pushed, length-pushed}
use Rattle.uhp_session.proofs.workers.searchers_of.Goals as goal

pub loop-made-preserved : goal.loop-made-preserved
loop-made-preserved c =
    let deep : c.in_ok-prepare.field-0 ≡ 64 = search rules in
    record {
      count = length-pushed c.loop-made.searchers.items c.push.new.self.items _ c.in_ok-push.ensures.items c.loop-made._made c.loop-made.invariant.count;
      prepared = all-pushed c.loop-made.searchers.items c.push.new.self.items _ c.in_ok-push.ensures.items (λ n. n ≡ 64) c.loop-made.invariant.prepared deep;
    }
