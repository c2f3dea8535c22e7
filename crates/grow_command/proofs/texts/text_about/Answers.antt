use Rattle.std.proofs.Common.{rules}
use Rattle.grow_command.proofs.TextLaws.{lines-pushed}
use Rattle.grow_command.proofs.texts.text_about.Goals as goal

pub returns : goal.returns
returns g c =
    let history = g.G.Game.history c.args.grown.now.game in
    lines-pushed c.args.seed history.game_type history.made c.args.grown.now.moves c.args.grown.now.undone c.new-text.result c.push_number.new.text c.push_line.new.text c.push_number-2.new.text c.push_line-2.new.text
    c.push_number-3.new.text c.push_number-4.new.text c.push_best.new.text c.push_game.new.out
    (search rules) (search rules) (search rules) (search rules) (search rules) (search rules) (search rules) (search rules) (search rules)
