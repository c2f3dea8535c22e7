use Rattle.board_game.proofs.AskLaws.{found_known}
use Rattle.board_game.proofs.lookahead.Lookahead.told_least.Goals as goal

pub find-requires-clause-lift : goal.find-requires-clause-lift
find-requires-clause-lift g c = record { loose = c.requires.can.2; one_hive = c.requires.can.6; left = c.requires.can.7 }

pub least_by-requires-clause-loose : goal.least_by-requires-clause-loose
least_by-requires-clause-loose g c = c.requires.can.2

pub least_by-requires-clause-within : goal.least_by-requires-clause-within
least_by-requires-clause-within g c = c.requires.can.3

pub returns-in-Some-clause-known : goal.returns-in-Some-clause-known
returns-in-Some-clause-known g c = found_known (g.B.Board.stacks c.args.board.now) c.args.side c.args.piece c.args.self.now c.find.new.self c.requires.known c.find.ensures.known c.find.ensures.asked c.find.ensures.reach c.find.ensures.placing

pub returns-in-None-clause-known : goal.returns-in-None-clause-known
returns-in-None-clause-known g c = found_known (g.B.Board.stacks c.args.board.now) c.args.side c.args.piece c.args.self.now c.find.new.self c.requires.known c.find.ensures.known c.find.ensures.asked c.find.ensures.reach c.find.ensures.placing
