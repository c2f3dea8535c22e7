use Rattle.std.proofs.Common.{◌≡◌, ◌+◌, length, refl, arith}
use Rattle.uhp_session.proofs.TeamLaws.{all-popped, all-pushed, length-pushed}
use Rattle.uhp_session.proofs.workers.give_back.Goals as goal

pub loop-worker-preserved : goal.loop-worker-preserved
loop-worker-preserved g c =
    let ns = c.loop-worker.searchers.items in
    let ws = c.loop-worker.workers.items in
    let more : length c.push.new.self.items ≡ length ns + 1 = length-pushed ns c.push.new.self.items _ c.in_ok-push.ensures.items (length ns) refl in
    let fewer : length ws ≡ length c.pop.new.self.items + 1 = length-pushed c.pop.new.self.items ws c.in-Some.worker c.in-Some.ensures.items (length c.pop.new.self.items) refl in
    let all = all-popped ws c.pop.new.self.items c.in-Some.worker c.in-Some.ensures.items (λ w. w.searcher ≡ 64) c.loop-worker.invariant.left in
    record {
      count = omega (arith, more, fewer, c.loop-worker.invariant.count);
      prepared = all-pushed ns c.push.new.self.items _ c.in_ok-push.ensures.items (λ n. n ≡ 64) c.loop-worker.invariant.prepared all.1;
      left = all.0;
    }
