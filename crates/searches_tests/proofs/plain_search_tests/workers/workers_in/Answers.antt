use Rattle.std.proofs.Common.{rules, ◌≡◌, ◌≤◌}
use Rattle.root_share.specs.Answer.{IsGameOf}
use Rattle.uhp_session.proofs.TeamLaws.{all-pushed, length-pushed}
use Rattle.searches_tests.proofs.plain_search_tests.workers.workers_in.Goals as goal

pub loop-made-preserved : goal.loop-made-preserved
loop-made-preserved c =
    let kind : c.in_ok-game.game.history.game_type ≡ c.args.parsed.now.game_type = c.in_ok-game.ensures.kind in
    let made : c.in_ok-game.game.history.made ≡ c.args.parsed.now.moves = search rules in
    let room : c.args.depth ≤ c.in_ok-game.game.history.spare = c.in_ok-game.ensures.room in
    let deep : c.args.depth ≤ c.in_ok-searcher.searcher = search rules in
    record {
      count = length-pushed c.loop-made.workers.items c.push.new.self.items _ c.in_ok-push.ensures.items c.loop-made._made c.loop-made.invariant.count;
      games = all-pushed c.loop-made.workers.items c.push.new.self.items _ c.in_ok-push.ensures.items (λ w. IsGameOf c.args.parsed.now.game_type c.args.parsed.now.moves c.args.depth w.game.history)
          c.loop-made.invariant.games (record { game_type = kind; made = made; spare = room });
      searchers = all-pushed c.loop-made.workers.items c.push.new.self.items _ c.in_ok-push.ensures.items (λ w. c.args.depth ≤ w.searcher) c.loop-made.invariant.searchers deep;
    }
