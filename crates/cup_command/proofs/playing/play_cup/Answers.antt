-- What is written reports the cup that was played.
use Rattle.std.proofs.Common.{List, ℕ, subst}
use Rattle.command_runs.specs.Answered.{WritesAs}
use Rattle.command_runs.specs.declared.status.Status.TheVariants.{Done}
use Rattle.match_command.proofs.Starting.{none_failed}
use Rattle.cup_command.proofs.Ends.{told-as}
use Rattle.cup_command.proofs.playing.play_cup.Goals as goal

pub returns-in-Ok-clause-run : goal.returns-in-Ok-clause-run
returns-in-Ok-clause-run g c rest times =
    told-as _ _ _ c.end_with.result _ _ c.in-Ok.ensures.told
    (subst (λ (x : List ℕ). WritesAs x Done c.end_with.result (g.K.Sink.written c.args.output.now) (g.K.Sink.written c.end_with.new.output)) c.items.ensures c.end_with.ensures.told)

pub returns-in-Ok-clause-ends : goal.returns-in-Ok-clause-ends
returns-in-Ok-clause-ends g c = record {
  closed = c.in-Ok.ensures.closed;
  writes = c.end_with.ensures.cause;
  starts =
      none_failed c.items.result.now c.end_with.result (g.K.Sink.written c.args.output.now) (g.K.Sink.written c.end_with.new.output) _ _ c.end_with.ensures.told
      (c.in-Ok.ensures.cause.same (λ x. cc));
}
