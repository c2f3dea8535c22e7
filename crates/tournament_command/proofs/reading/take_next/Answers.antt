use Rattle.tournament_command.proofs.Gathering.{line_taken}
use Rattle.tournament_command.proofs.reading.take_next.Goals as goal

pub returns-in-Ok-clause-given : goal.returns-in-Ok-clause-given
returns-in-Ok-clause-given g c =
    let (bytes, takes, gives) = c.in-Line.ensures.fed in (
      bytes,
      record { takes = takes; within = c.in-Line.ensures.counts.bound; little = c.in-Line.ensures.little },
      line_taken c.args.programs.now c.args.format c.args.intake.now c.take.new.self c.line.result.now c.next_line.new.self.last c.line.ensures gives c.in-Ok.ensures.took,
    )
