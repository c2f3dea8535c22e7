use Rattle.std.proofs.Common.{rules}
use Rattle.win_commands.proofs.HeadLaws.{head-pushed}
use Rattle.win_commands.proofs.texts.head_of.Goals as goal

pub returns : goal.returns
returns g c =
    let start = g.G.Game.history c.args.game.now in
    head-pushed start.game_type start.made c.args.plies c.args.answer c.new-text.result c.push_line.new.text c.write_game.new.out c.push.new.self c.push_number.new.text c.push_answer.new.text
    c.new-text.ensures c.in_ok-push_line.ensures c.in_ok-write_game.ensures.written c.in_ok-push.ensures.pushed (search rules) (search rules)
