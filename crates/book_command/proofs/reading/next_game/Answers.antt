use Rattle.book_command.proofs.GivenLaws.{game_given, long_given, other_given}
use Rattle.book_command.proofs.reading.next_game.Goals as goal

pub returns-in-Ok-clause-given : goal.returns-in-Ok-clause-given
returns-in-Ok-clause-given g c =
    let (bytes, takes, gives) = c.in-Line.ensures.fed in (
      bytes,
      record { takes = takes; within = c.in-Line.ensures.counts.bound; little = c.in-Line.ensures.little },
      game_given (g.G.Game.history c.in-Ok.game) c.line.result.now c.next_line.new.self.last c.line.ensures gives c.in-Ok.ensures.game,
    )

pub returns-in-Err-clause-given : goal.returns-in-Err-clause-given
returns-in-Err-clause-given g c =
    let (bytes, takes, gives) = c.in-Line.ensures.fed in (
      bytes,
      record { takes = takes; within = c.in-Line.ensures.counts.bound; little = c.in-Line.ensures.little },
      other_given c.in-Err.none c.args.number c.line.result.now c.next_line.new.self.last c.line.ensures gives c.in-Err.ensures.none,
    )

pub returns-in-TooLong-clause-given : goal.returns-in-TooLong-clause-given
returns-in-TooLong-clause-given g c =
    let (bytes, takes, gives) = c.in-TooLong.ensures.fed in (
      bytes,
      record { takes = takes; within = c.in-TooLong.ensures.counts.bound; little = c.in-TooLong.ensures.little },
      long_given c.refused.result c.args.number gives c.refused.ensures,
    )
