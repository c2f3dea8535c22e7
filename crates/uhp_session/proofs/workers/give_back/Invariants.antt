use Rattle.std.proofs.Common.{◌≡◌, ◌+◌, length, vec_len}
use Rattle.std.specs.List.{All}
use Rattle.uhp_session.proofs.workers.give_back.Given as goal

abbrev pub invariant-loop-worker : goal.invariant-loop-worker
invariant-loop-worker g l = record {
  count : length l.searchers.items + length l.workers.items ≡ length l.fn.workers.items;
  prepared : All (λ n. n ≡ 64) l.searchers.items;
  left : All (λ w. w.searcher ≡ 64) l.workers.items;
}

abbrev pub decreases-loop-worker : goal.decreases-loop-worker
decreases-loop-worker g l = vec_len l.workers
