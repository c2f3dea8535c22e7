use Rattle.std.proofs.Common.{sym}
use Rattle.board_game.proofs.KeptLaws.{shrunk_lifted}
use Rattle.board_game.proofs.moves_made.take.Goals as goal

pub removed_uncounted-requires-clause-shrunk : goal.removed_uncounted-requires-clause-shrunk
removed_uncounted-requires-clause-shrunk g c =
    shrunk_lifted (g.B.Board.stacks c.args.board.now) c.args.piece c.in-Some.field-0 c.requires.board c.requires.loose (sym c.in-Some.ensures.spot) (g.B.Board.stacks c.lift-place.new.self) c.lift-place.result c.args.keeper.now
    c.lift-place.ensures.lifted c.lift-place.ensures.place c.requires.one_hive c.requires.left c.requires.keeps
