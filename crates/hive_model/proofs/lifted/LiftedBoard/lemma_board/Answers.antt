use Rattle.hive_model.proofs.LiftLemmas.{lift_is_board}
use Rattle.hive_model.proofs.lifted.LiftedBoard.lemma_board.Goals as goal

pub returns : goal.returns
returns g c = lift_is_board (g.B.Board.stacks c.args.self.now.board.now) c.args.self.now.sound c.args.self.now.piece c.args.self.now.place c.args.self.now.level c.args.self.now.stands c.args.self.now.top
