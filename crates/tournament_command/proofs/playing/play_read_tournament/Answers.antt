use Rattle.std.proofs.Common.{◌∙◌, [], ap, refl}
use Rattle.command_runs.specs.World.{sides, times as these_times, world}
use Rattle.tournament_command.specs.Formats.{terms_of}
use Rattle.tournament_command.proofs.Begins.{begun_run, never_reads, none_begun}
use Rattle.tournament_command.proofs.playing.play_read_tournament.Goals as goal

pub returns-in_default-clause-run : goal.returns-in_default-clause-run
returns-in_default-clause-run g c times =
    let written = g.K.Sink.written c.args.output.now in
    let engines = g.P.Spawner.engines c.args.spawner.now in
    none_begun c.args.programs.items c.as_slice.result.now c.args.format (world (sides (g.S.Source.rest c.args.input.now) written) times engines) (world (sides (g.S.Source.rest c.read_intake.new.input) written) times engines) c.in-Ok.intake c.as_slice.ensures.value c.in-Ok.ensures.told refl refl

pub returns-in-Ok-tournament_of-clause-run : goal.returns-in-Ok-tournament_of-clause-run
returns-in-Ok-tournament_of-clause-run g c times =
    let new = c.play_tournament.new in
    let rest = g.S.Source.rest c.read_intake.new.input in
    let is_terms = c.in-Ok-tournament_of.ensures ∙ ap (terms_of c.args.programs.items c.args.format) c.parts-openings.ensures.openings in
    begun_run c.args.programs.items c.as_slice.result.now c.args.format c.play_tournament.result
    (world (sides (g.S.Source.rest c.args.input.now) (g.K.Sink.written c.args.output.now)) times (g.P.Spawner.engines c.args.spawner.now))
    (world (sides rest (g.K.Sink.written new.output)) times (g.P.Spawner.engines new.spawner))
    c.in-Ok.intake c.in-Ok-tournament_of.tournament c.as_slice-in-Ok.result.now c.as_slice.ensures.value c.in-Ok.ensures.told is_terms (c.as_slice-in-Ok.ensures.value ∙ c.parts-openings.ensures.ends) (c.play_tournament.ensures.run rest times)

pub returns-in-Ok-tournament_of-clause-reads : goal.returns-in-Ok-tournament_of-clause-reads
returns-in-Ok-tournament_of-clause-reads g c =
    let cause = c.in-Ok.ensures.cause in
    let new = c.play_tournament.new in
    let rest = g.S.Source.rest c.args.input.now in
    let none = these_times 0 0 [] in
    let run = c.play_tournament.ensures.run rest none in
    record {
      later = cause.later;
      rose = λ e. absurd (never_reads c.in-Ok-tournament_of.tournament c.as_slice-in-Ok.result.now c.play_tournament.result (world (sides rest (g.K.Sink.written c.args.output.now)) none (g.P.Spawner.engines c.args.spawner.now)) (world (sides rest (g.K.Sink.written new.output)) none (g.P.Spawner.engines new.spawner)) run e);
      same = λ _. cause.same (λ wrong. cc);
    }
