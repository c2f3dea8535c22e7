use Rattle.command_runs.proofs.OneGameLemmas.{long_given, text_given}
use Rattle.command_runs.proofs.asking.first_game.Goals as goal

pub returns-in-Line-clause-given : goal.returns-in-Line-clause-given
returns-in-Line-clause-given g c =
    let (bytes, takes, gives) = c.in-Line.ensures.fed in
    (bytes, record { takes = takes; within = c.in-Line.ensures.counts.bound; little = c.in-Line.ensures.little }, text_given g.G.Game.history c.game_of.result c.line.result.now c.next_line.new.self.last c.line.ensures gives c.game_of.ensures.game c.game_of.ensures.none)

pub returns-in-TooLong-clause-given : goal.returns-in-TooLong-clause-given
returns-in-TooLong-clause-given g c =
    let (bytes, takes, gives) = c.in-TooLong.ensures.fed in
    (bytes, record { takes = takes; within = c.in-TooLong.ensures.counts.bound; little = c.in-TooLong.ensures.little }, long_given c.bad.result gives c.bad.ensures)
