use Rattle.std.proofs.Common.{refl, sym, subst, arith}
use Rattle.hive_model.specs.Lists.{IsOn}
use Rattle.hive_model.specs.Legal.{moves}
use Rattle.hive_model.specs.Histories.{position}
use Rattle.search_laws.proofs.LoopLaws.{level-in}
use Rattle.search_laws.proofs.MinimaxLaws.{moves-not_over}
use Rattle.search_laws.proofs.TurnLaws.{count-here, move-legal}
use Rattle.search_laws.proofs.HistoryLaws.{level-dropped}
use Rattle.grow_game.proofs.TurnLaws.{drawn-here, drawn-played}
use Rattle.grow_game.proofs.drawing.play_drawn.Goals as goal

pub draw-index-requires : goal.draw-index-requires
draw-index-requires g c =
    let start = g.G.Game.history c.args.game.now in
    let some = moves-not_over (position start) c.requires.goes_on in
    let count = count-here start start _ _ _ _ refl c.list.ensures.listed c.levels-level.ensures c.level_len-choices.ensures in
    omega (arith, some, count)

pub get-m-requires-clause-level : goal.get-m-requires-clause-level
get-m-requires-clause-level g c = level-in _ _ _ _ c.list.ensures.listed c.levels-level.ensures

pub play-requires-clause-legal : goal.play-requires-clause-legal
play-requires-clause-legal g c =
    let start = g.G.Game.history c.args.game.now in
    subst (λ m. IsOn (moves (position (g.G.Game.history c.list.new.self))) m) (sym c.again.ensures)
    (move-legal start start _ _ _ _ _ _ _ refl c.list.ensures.listed refl c.levels-level.ensures c.get-m.ensures c.list.ensures.same)

pub returns-clause-drawn : goal.returns-clause-drawn
returns-clause-drawn g c =
    drawn-here (g.G.Game.history c.args.game.now) _ _ _ _ _ _ _ c.list.ensures.listed c.levels-level.ensures c.level_len-choices.ensures c.draw-index.ensures.index c.get-m.ensures

pub returns-clause-choices : goal.returns-clause-choices
returns-clause-choices g c =
    let start = g.G.Game.history c.args.game.now in
    count-here start start _ _ _ _ refl c.list.ensures.listed c.levels-level.ensures c.level_len-choices.ensures

pub returns-clause-game : goal.returns-clause-game
returns-clause-game g c = drawn-played _ _ _ _ _ c.list.ensures.same c.again.ensures c.play.ensures.moved

pub returns-clause-stack : goal.returns-clause-stack
returns-clause-stack g c = level-dropped _ _ _ _ _ c.requires.room c.list.ensures.listed refl c.drop_level.ensures
