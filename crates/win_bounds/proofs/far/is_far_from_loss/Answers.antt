use Rattle.hive_model.specs.Histories.{position}
use Rattle.win_bounds.proofs.ValueLaws.{safe_worth}
use Rattle.win_bounds.proofs.far.is_far_from_loss.Goals as goal

pub returns-clause-worth : goal.returns-clause-worth
returns-clause-worth g c =
    safe_worth (position (g.G.Game.history c.args.game.now)) (g.G.Board.stacks c.args.game.now) c.side.result c.is_home_on.result
    (g.met.G.Game.on_board c.args.game.now) c.side.ensures c.is_home_on.ensures.board c.is_home_on.ensures.far
