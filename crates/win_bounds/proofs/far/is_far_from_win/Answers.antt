use Rattle.hive_model.specs.Histories.{position}
use Rattle.win_bounds.proofs.ValueLaws.{far_worth}
use Rattle.win_bounds.proofs.far.is_far_from_win.Goals as goal

pub returns-clause-worth : goal.returns-clause-worth
returns-clause-worth g c =
    far_worth (position (g.G.Game.history c.args.game.now)) (g.G.Board.stacks c.args.game.now) c.side.result c.is_far_on.result
    (g.met.G.Game.on_board c.args.game.now) c.side.ensures c.is_far_on.ensures.board c.is_far_on.ensures.far
