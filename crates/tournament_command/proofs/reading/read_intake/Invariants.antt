use Rattle.std.proofs.Common.{◌≡◌, ◌-◌, length}
use Rattle.line_feed.specs.Feed.{input_limit, settled}
use Rattle.tournament_command.specs.Taking.{IsIntake}
use Rattle.tournament_command.proofs.Gathering.{Gathered}
use Rattle.tournament_command.proofs.reading.read_intake.Given as goal

abbrev pub invariant-lines : goal.invariant-lines
invariant-lines g l = record {
  gathered : Gathered l.programs l.format (g.S.Source.rest l.fn.input) (g.S.Source.rest l.input) l.reader l.intake;
  valid : IsIntake (length l.programs) l.format l.intake;
  reads : g.S.Source.read_faults l.input ≡ g.S.Source.read_faults l.fn.input;
}

abbrev pub decreases-lines : goal.decreases-lines
decreases-lines g l = input_limit - settled l.reader
