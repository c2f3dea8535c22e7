use Rattle.bug_moves.proofs.KindLaws.{queen_reaches, beetle_reaches, ant_reaches}
use Rattle.bug_moves.proofs.reaching.reaches.Goals as goal

pub returns-in-Queen : goal.returns-in-Queen
returns-in-Queen g c = queen_reaches c.args.kind (g.B.Board.stacks c.args.board.now) c.args.from c.args.to c.in-Queen.is c.slides_to.ensures

pub returns-in-Beetle : goal.returns-in-Beetle
returns-in-Beetle g c = beetle_reaches c.args.kind (g.B.Board.stacks c.args.board.now) c.args.from c.args.to c.in-Beetle.is c.creeps_to.ensures

pub returns-in-Ant : goal.returns-in-Ant
returns-in-Ant g c = ant_reaches c.args.kind (g.B.Board.stacks c.args.board.now) c.args.from c.args.to c.in-Ant.is c.ant_comes_to.ensures
