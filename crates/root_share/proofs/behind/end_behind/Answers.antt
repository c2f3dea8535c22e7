use Rattle.std.proofs.Common.{◌≡◌, refl, ap, ◌∙◌, arith, neg_ℤ}
use Rattle.hive_model.specs.Games.{after}
use Rattle.hive_model.specs.Minimax.{value}
use Rattle.hive_model.specs.Histories.{position}
use Rattle.search_laws.proofs.Signs.{neg-fits, neg-is}
use Rattle.search_laws.proofs.HistoryLaws.{move-made, move-undone}
use Rattle.root_share.proofs.EndLaws.{open-behind, end-behind, end-small}
use Rattle.root_share.proofs.behind.end_behind.Goals as goal

pub returns-in-Some-clause-worth : goal.returns-in-Some-clause-worth
returns-in-Some-clause-worth g c =
    let start = g.G.Game.history c.args.game.now in
    let is : c.in-Some.worth ≡ value (after (position start) c.args.m) c.args.depth =
    end-behind start _ c.args.m _ _ c.args.depth c.in-Some.worth c.play.ensures.moved c.state.ensures.state c.side.ensures c.in-Some.ensures in
    neg-is c.in-Some.worth (end-small (after (position start) c.args.m) c.args.depth c.in-Some.worth c.requires.deep is) ∙ ap neg_ℤ is

pub returns-in-None-clause-worth : goal.returns-in-None-clause-worth
returns-in-None-clause-worth g c = open-behind (g.G.Game.history c.args.game.now) _ c.args.m _ _ c.args.depth c.play.ensures.moved c.state.ensures.state c.in-None.ensures

pub play-requires-clause-legal : goal.play-requires-clause-legal
play-requires-clause-legal g c = c.requires.legal

pub play-requires-clause-room : goal.play-requires-clause-room
play-requires-clause-room g c = c.requires.spare

pub undo-requires : goal.undo-requires
undo-requires g c = move-made (g.G.Game.history c.args.game.now) _ _ c.args.m c.play.ensures.moved refl

pub overflow_sub-result : goal.overflow_sub-result
overflow_sub-result g c =
    let start = g.G.Game.history c.args.game.now in
    let is : c.in-Some.worth ≡ value (after (position start) c.args.m) c.args.depth =
    end-behind start _ c.args.m _ _ c.args.depth c.in-Some.worth c.play.ensures.moved c.state.ensures.state c.side.ensures c.in-Some.ensures in
    neg-fits c.in-Some.worth (end-small (after (position start) c.args.m) c.args.depth c.in-Some.worth c.requires.deep is)

pub returns-in-Some-clause-game : goal.returns-in-Some-clause-game
returns-in-Some-clause-game g c = move-undone (g.G.Game.history c.args.game.now) _ _ _ c.args.m c.requires.spare c.play.ensures.moved refl c.undo.ensures.back

pub returns-in-Some-clause-played : goal.returns-in-Some-clause-played
returns-in-Some-clause-played g c = omega (arith, c.play.ensures.count, c.undo.ensures.count)

pub returns-in-None-clause-game : goal.returns-in-None-clause-game
returns-in-None-clause-game g c = move-undone (g.G.Game.history c.args.game.now) _ _ _ c.args.m c.requires.spare c.play.ensures.moved refl c.undo.ensures.back

pub returns-in-None-clause-played : goal.returns-in-None-clause-played
returns-in-None-clause-played g c = omega (arith, c.play.ensures.count, c.undo.ensures.count)
