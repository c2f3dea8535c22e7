-- The last round ends the run.
use Rattle.std.proofs.Common.{refl, ◌∙◌}
use Rattle.line_services.proofs.Progress.{no_memory, preface_cut, run_begin, run_ends, run_on}
use Rattle.line_services.proofs.service.serve.Goals as goal

pub returns-in_default-clause-run : goal.returns-in_default-clause-run
returns-in_default-clause-run g c engines = no_memory _ _ _ refl (record { last = refl; readings = refl; timed = refl })

pub returns-then-not-write_all-clause-run : goal.returns-then-not-write_all-clause-run
returns-then-not-write_all-clause-run g c engines =
    preface_cut g.V.LineService.service _ _ _ refl c.preface.ensures c.if-not-write_all.ensures.part (record { last = refl; readings = refl; timed = refl })

pub lines-init : goal.lines-init
lines-init g c = record {
  run = λ engines. run_begin g.V.LineService.service _ _ _ refl c.in-Ok.ensures c.requires c.preface.ensures c.if-not-write_all.ensures.all (record { last = refl; readings = refl; timed = refl });
  reads = refl;
  writes = c.if-not-write_all.ensures.cause.same (λ e. cc);
  clock = λ still. refl;
  timed = λ still. refl;
}

pub lines-preserved : goal.lines-preserved
lines-preserved g c = record {
  run = λ engines. run_on (c.lines.invariant.run engines) c.in_default-serve_line.ensures.round;
  reads = c.in_default-serve_line.ensures.reads.same (λ e. cc) ∙ c.lines.invariant.reads;
  writes = c.in_default-serve_line.ensures.writes.same (λ e. cc) ∙ c.lines.invariant.writes;
  clock = λ still. c.in_default-serve_line.ensures.still.clock still ∙ c.lines.invariant.clock still;
  timed = λ still. c.in_default-serve_line.ensures.still.timed still ∙ c.lines.invariant.timed still;
}

pub returns-in-Some-clause-run : goal.returns-in-Some-clause-run
returns-in-Some-clause-run g c engines =
    run_ends c.in-Some.stop c.has_refused.result c.status.result (c.lines.invariant.run engines) c.in-Some.ensures.round c.has_refused.ensures c.status.ensures
