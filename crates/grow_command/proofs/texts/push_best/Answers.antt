use Rattle.hive_model.specs.Histories.{position}
use Rattle.grow_command.proofs.TextLaws.{told-legal}
use Rattle.grow_command.proofs.texts.push_best.Goals as goal

pub push_move-requires : goal.push_move-requires
push_move-requires g c = told-legal (position (g.G.Game.history c.args.game.now)) c.args.best c.in-Some.found c.requires c.in-Some.is
