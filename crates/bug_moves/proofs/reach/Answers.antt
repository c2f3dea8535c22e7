use Rattle.bug_moves.proofs.KindLaws.{queens, beetles, hoppers, spiders, ants, ladybugs}
use Rattle.bug_moves.proofs.reach.Goals as goal

pub returns-in-Queen : goal.returns-in-Queen
returns-in-Queen g c = queens c.args.kind (g.B.Board.stacks c.args.board.now) c.args.from c.args.out.now.items c.add_slides.new.out.items c.in-Queen.is c.requires.empty c.add_slides.ensures

pub returns-in-Beetle : goal.returns-in-Beetle
returns-in-Beetle g c = beetles c.args.kind (g.B.Board.stacks c.args.board.now) c.args.from c.args.out.now.items c.add_slides-in-Beetle.new.out.items c.in-Beetle.is c.requires.empty c.add_slides-in-Beetle.ensures

pub returns-in-Grasshopper : goal.returns-in-Grasshopper
returns-in-Grasshopper g c = hoppers c.args.kind (g.B.Board.stacks c.args.board.now) c.args.from c.args.out.now.items c.add_ways.new.out.items c.in-Grasshopper.is c.requires.empty c.add_ways.ensures

pub returns-in-Spider : goal.returns-in-Spider
returns-in-Spider g c = spiders c.args.kind (g.B.Board.stacks c.args.board.now) c.args.from c.args.out.now.items c.add_slides-in-Spider.new.out.items c.in-Spider.is c.requires.empty c.add_slides-in-Spider.ensures

pub returns-in-Ant : goal.returns-in-Ant
returns-in-Ant g c = ants c.args.kind (g.B.Board.stacks c.args.board.now) c.args.from c.args.out.now.items c.ant_ways.new.out.items c.in-Ant.is c.requires.empty c.ant_ways.ensures

pub returns-in-Ladybug : goal.returns-in-Ladybug
returns-in-Ladybug g c = ladybugs c.args.kind (g.B.Board.stacks c.args.board.now) c.args.from c.args.out.now.items c.add_ways-in-Ladybug.new.out.items c.in-Ladybug.is c.requires.empty c.add_ways-in-Ladybug.ensures
