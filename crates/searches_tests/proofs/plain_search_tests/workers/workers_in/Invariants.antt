use Rattle.std.proofs.Common.{◌≡◌, ◌≤◌, length}
use Rattle.std.specs.List.{All}
use Rattle.root_share.specs.Answer.{IsGameOf}
use Rattle.searches_tests.proofs.plain_search_tests.workers.workers_in.Given as goal

abbrev pub invariant-loop-made : goal.invariant-loop-made
invariant-loop-made l = record {
  count : length l.workers.items ≡ l._made;
  games : All (λ w. IsGameOf l.fn.parsed.game_type l.fn.parsed.moves l.fn.depth w.game.history) l.workers.items;
  searchers : All (λ w. l.fn.depth ≤ w.searcher) l.workers.items;
}
