use Rattle.std.proofs.Common.{◌≡◌, ◌+◌, length, vec_len}
use Rattle.std.specs.List.{All}
use Rattle.root_share.specs.Answer.{IsGameOf}
use Rattle.uhp_session.proofs.workers.workers_with.Given as goal

abbrev pub invariant-loop-searcher : goal.invariant-loop-searcher
invariant-loop-searcher g l = record {
  count : length l.workers.items + length l.searchers.items ≡ length l.fn.searchers.items;
  games : All (λ w. IsGameOf l.fn.game_type l.fn.moves l.fn.depth (g.G.Game.history w.game)) l.workers.items;
  prepared : All (λ w. w.searcher ≡ 64) l.workers.items;
  left : All (λ n. n ≡ 64) l.searchers.items;
}

abbrev pub decreases-loop-searcher : goal.decreases-loop-searcher
decreases-loop-searcher g l = vec_len l.searchers
