use Rattle.std.proofs.Common.{rules, ◌≡◌, ◌+◌, ◌≤◌, length, refl, arith}
use Rattle.root_share.specs.Answer.{IsGameOf}
use Rattle.uhp_session.proofs.TeamLaws.{all-popped, all-pushed, length-pushed}
use Rattle.uhp_session.proofs.workers.workers_with.Goals as goal

pub loop-searcher-preserved : goal.loop-searcher-preserved
loop-searcher-preserved g c =
    let kind : (g.G.Game.history c.in_ok-game.game).game_type ≡ c.args.game_type = c.in_ok-game.ensures.kind in
    let made : (g.G.Game.history c.in_ok-game.game).made ≡ c.args.moves.now = search rules in
    let room : c.args.depth ≤ (g.G.Game.history c.in_ok-game.game).spare = c.in_ok-game.ensures.room in
    let ws = c.loop-searcher.workers.items in
    let ns = c.loop-searcher.searchers.items in
    let more : length c.push.new.self.items ≡ length ws + 1 = length-pushed ws c.push.new.self.items _ c.in_ok-push.ensures.items (length ws) refl in
    let fewer : length ns ≡ length c.pop.new.self.items + 1 = length-pushed c.pop.new.self.items ns c.in-Some.searcher c.in-Some.ensures.items (length c.pop.new.self.items) refl in
    let all = all-popped ns c.pop.new.self.items c.in-Some.searcher c.in-Some.ensures.items (λ n. n ≡ 64) c.loop-searcher.invariant.left in
    record {
      count = omega (arith, more, fewer, c.loop-searcher.invariant.count);
      games = all-pushed ws c.push.new.self.items _ c.in_ok-push.ensures.items (λ w. IsGameOf c.args.game_type c.args.moves.now c.args.depth (g.G.Game.history w.game))
          c.loop-searcher.invariant.games (record { game_type = kind; made = made; spare = room });
      prepared = all-pushed ws c.push.new.self.items _ c.in_ok-push.ensures.items (λ w. w.searcher ≡ 64) c.loop-searcher.invariant.prepared all.1;
      left = all.0;
    }
