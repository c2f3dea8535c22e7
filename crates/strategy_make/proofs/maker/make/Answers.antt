use Rattle.std.proofs.Common.{rules, ◌≡◌, sym, subst, true, false}
use Rattle.hive_model.specs.Lists.{IsOn}
use Rattle.hive_model.specs.Legal.{moves}
use Rattle.hive_model.specs.Games.{IsGame}
use Rattle.hive_model.specs.Histories.{position, History}
use Rattle.search_laws.proofs.MinimaxLaws.{value-fits}
use Rattle.certificate_indices.specs.Writing.{Wrote}
use Rattle.strategy_make.proofs.MakeLaws.{best-on, both-written, head-part, part-of, whole}
use Rattle.strategy_make.proofs.maker.make.Goals as goal

pub head_of-requires : goal.head_of-requires
head_of-requires g c =
    subst (λ (h : History). IsOn (moves (position h)) c.best_at-best.result.best) (sym c.best_at-best.ensures.game)
    (best-on (position (g.G.Game.history c.args.game.now)) c.args.depth c.best_at-best.result.best c.best_at-best.ensures.first)

pub returns-then-not-write_all-clause-written : goal.returns-then-not-write_all-clause-written
returns-then-not-write_all-clause-written g c =
    head-part (g.G.Game.history c.args.game.now) _ c.args.depth c.best_at-best.result.best c.best_at-best.result.value c.write_all.result c.items.result.now _ _ c.best_at-best.ensures.game (search rules)
    c.write_all.ensures.all c.write_all.ensures.part c.best_at-best.ensures.first c.best_at-best.ensures.worth (search rules)

pub write_least-requires-clause-small : goal.write_least-requires-clause-small
write_least-requires-clause-small g c = value-fits (position (g.G.Game.history c.args.game.now)) c.args.depth c.best_at-best.result.value c.requires.game.deep c.best_at-best.ensures.worth

pub write_least-requires-clause-legal : goal.write_least-requires-clause-legal
write_least-requires-clause-legal g c =
    subst (λ (h : History). IsOn (moves (position h)) c.best_at-best.result.best) (sym c.best_at-best.ensures.game)
    (best-on (position (g.G.Game.history c.args.game.now)) c.args.depth c.best_at-best.result.best c.best_at-best.ensures.first)

pub returns-then-not-write_least-clause-written : goal.returns-then-not-write_least-clause-written
returns-then-not-write_least-clause-written g c =
    let start = g.G.Game.history c.args.game.now in
    let m = c.best_at-best.result.best in
    let v = c.best_at-best.result.value in
    let all : Wrote c.write_least.result (whole start c.args.depth m v) (g.K.Sink.written c.args.sink.now) (g.K.Sink.written c.write_least.new.sink) =
    both-written start _ c.args.depth m v c.write_all.result c.write_least.result c.items.result.now _ _ _ c.best_at-best.ensures.game (search rules) c.write_all.ensures.all c.write_all.ensures.part (search rules) c.write_least.ensures.wrote in
    let cut : c.write_least.result ≡ false = search rules in
    part-of start c.args.depth m v _ _ c.best_at-best.ensures.first c.best_at-best.ensures.worth (subst (λ r. Wrote r (whole start c.args.depth m v) (g.K.Sink.written c.args.sink.now) (g.K.Sink.written c.write_least.new.sink)) cut all)

pub returns-clause-written : goal.returns-clause-written
returns-clause-written g c =
    let start = g.G.Game.history c.args.game.now in
    let m = c.best_at-best.result.best in
    let v = c.best_at-best.result.value in
    let all : Wrote c.write_least.result (whole start c.args.depth m v) (g.K.Sink.written c.args.sink.now) (g.K.Sink.written c.write_least.new.sink) =
    both-written start _ c.args.depth m v c.write_all.result c.write_least.result c.items.result.now _ _ _ c.best_at-best.ensures.game (search rules) c.write_all.ensures.all c.write_all.ensures.part (search rules) c.write_least.ensures.wrote in
    let done : c.write_least.result ≡ true = search rules in
    subst (λ r. Wrote r (whole start c.args.depth m v) (g.K.Sink.written c.args.sink.now) (g.K.Sink.written c.write_least.new.sink)) done all

pub returns-clause-best : goal.returns-clause-best
returns-clause-best g c =
    let start = g.G.Game.history c.args.game.now in
    record {
      first = c.best_at-best.ensures.first;
      worth = c.best_at-best.ensures.worth;
      claim = record {
        game = subst (λ (h : History). IsGame h.game_type h.made) c.best_at-best.ensures.game c.in-Ok.ensures.game;
        few = c.requires.game.few;
        legal = best-on (position start) c.args.depth c.best_at-best.result.best c.best_at-best.ensures.first;
        some = c.requires.game.some;
        deep = c.requires.game.deep;
        small = value-fits (position start) c.args.depth c.best_at-best.result.value c.requires.game.deep c.best_at-best.ensures.worth;
      };
    }
