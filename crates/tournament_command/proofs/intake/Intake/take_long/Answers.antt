use Rattle.std.proofs.Common.{rules, ◌≡◌, inl, sym, subst}
use Rattle.io_edge.specs.Lines.{TooLong as LongLine}
use Rattle.tournament_command.specs.declared.phase.Phase.TheVariants.{Openings}
use Rattle.tournament_command.specs.Intakes.{take_line}
use Rattle.tournament_command.specs.Taking.{Refuses}
use Rattle.tournament_command.proofs.Longs.{long_refused}
use Rattle.tournament_command.proofs.intake.Intake.take_long.Goals as goal

pub returns-in-Openings-clause-refused : goal.returns-in-Openings-clause-refused
returns-in-Openings-clause-refused c =
    let open_ : c.args.self.now.phase ≡ Openings = search rules in
    subst (λ why. Refuses why (take_line c.args.programs.now c.args.format c.args.self.now LongLine)) (sym c.bad_next.ensures)
    (long_refused c.args.programs.now c.args.format c.args.self.now (inl open_))
