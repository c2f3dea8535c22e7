use Rattle.hive_model.specs.Histories.{position}
use Rattle.book_command.proofs.RunLaws.{told_legal}
use Rattle.book_command.proofs.book_line.book_line.Goals as goal

pub line_of-requires : goal.line_of-requires
line_of-requires g c =
    let (games, is) = c.requires in
    told_legal (position (g.G.Game.history c.args.game.now)) games c.best.result (c.best.ensures (position (g.G.Game.history c.args.game.now)) games is)
