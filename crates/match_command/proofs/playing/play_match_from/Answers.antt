-- What is written reports the match that was played.
use Rattle.std.proofs.Common.{List, ℕ, ◌∙◌, subst}
use Rattle.command_runs.specs.Answered.{WritesAs}
use Rattle.command_runs.specs.declared.status.Status.TheVariants.{Done}
use Rattle.match_command.proofs.Starting.{both_as, none_failed, none_open, told_as, told_from}
use Rattle.match_command.proofs.playing.play_match_from.Goals as goal

pub returns-in-Ok-clause-run : goal.returns-in-Ok-clause-run
returns-in-Ok-clause-run g c rest timed =
    told_as _ _ c.end_with.result _ _
    (told_from _ _ _ _ _ _ _ _ _ (c.in-Ok-play_and_close.ensures.played timed) c.in-Ok.ensures.started.next c.in-Ok-play_and_close.ensures.none_started.to_come c.in-Ok.ensures.started.sent c.in-Ok.ensures.started.failed)
    (subst (λ (x : List ℕ). WritesAs x Done c.end_with.result (g.K.Sink.written c.args.output.now) (g.K.Sink.written c.end_with.new.output)) c.items.ensures c.end_with.ensures.told)

pub returns-in-Ok-clause-started : goal.returns-in-Ok-clause-started
returns-in-Ok-clause-started g c =
    both_as c.items.result.now c.end_with.result (g.K.Sink.written c.args.output.now) (g.K.Sink.written c.end_with.new.output) _ _ _ _ c.end_with.ensures.told
    (c.in-Ok-play_and_close.ensures.none_started.started ∙ c.in-Ok.ensures.started.named)

pub returns-in-Ok-clause-ends : goal.returns-in-Ok-clause-ends
returns-in-Ok-clause-ends g c = record {
  closed =
      none_open (g.P.Spawner.engines c.args.spawner.now) (g.P.Spawner.engines c.start_both.new.spawner) (g.P.Spawner.engines c.play_and_close.new.spawner) _ _ _ _ _ _
      c.in-Ok.ensures.started.next c.in-Ok-play_and_close.ensures.none_started.to_come c.in-Ok.ensures.started.sent c.in-Ok-play_and_close.ensures.closes.2;
  writes = c.end_with.ensures.cause;
  starts =
      none_failed c.items.result.now c.end_with.result (g.K.Sink.written c.args.output.now) (g.K.Sink.written c.end_with.new.output) _ _ c.end_with.ensures.told
      (c.in-Ok-play_and_close.ensures.none_started.starts ∙ c.in-Ok.ensures.cause.same (λ x. cc));
}
