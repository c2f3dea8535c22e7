use Rattle.std.proofs.Common.{rules, ◌≡◌, ◌∷◌, ◌++◌, [], arith, ap, ◌∙◌, refl, subst}
use Rattle.std.proofs.lemmas.Result.{IfOk-weaker}
use Rattle.io_edge.specs.Starts.{Engines}
use Rattle.match_runner.specs.Wires.{Wire, wire}
use Rattle.cup.specs.Played.{Job}
use Rattle.cup_command.specs.Links.{ClosesLinks, all_links, links_of}
use Rattle.cup_command.proofs.Chains.{closes-append}
use Rattle.cup_command.proofs.Breaks.{gives-none, gives-one}
use Rattle.cup_command.proofs.Kept.{cause-moved, cause-none, cause-same, on-err, on-ok}
use Rattle.cup_command.proofs.links.start_black.Goals as goal

pub returns-in-Ok-clause-kept : goal.returns-in-Ok-clause-kept
returns-in-Ok-clause-kept g c =
    let b : Wire = wire (g.P.Engine.Source.rest c.in-Ok.black) (g.P.Engine.Sink.written c.in-Ok.black) (g.P.Engine.Source.read_faults c.in-Ok.black) (g.P.Engine.Sink.write_faults c.in-Ok.black) in
    IfOk-weaker c.keep_game.result _ _ (λ games kept. (b, record { reads = c.in-Ok.ensures.fresh.0; writes = c.in-Ok.ensures.fresh.1 }, search rules, kept ∙ ap (λ (j : Job). c.args.jobs.items ++ j ∷ []) c.new-job.ensures)) c.keep_game.ensures.kept

pub returns-in-Ok-clause-starts : goal.returns-in-Ok-clause-starts
returns-in-Ok-clause-starts g c =
    let then = g.P.Spawner.engines c.start.new.self in
    let now = g.P.Spawner.engines c.keep_game.new.spawner in
    on-ok _ _ (λ same. let kept : now ≡ then = ap g.P.Spawner.engines same in record {
      named = c.keep_game.ensures.none_started.started ∙ c.in-Ok.ensures.named;
      sent = ap (λ (e : Engines). e.sent) kept ∙ c.in-Ok.ensures.others.1;
      failed = ap (λ (e : Engines). e.engine_faults) kept ∙ c.in-Ok.ensures.others.0;
    }) c.keep_game.result c.keep_game.ensures.untouched

pub returns-in-Ok-clause-closed : goal.returns-in-Ok-clause-closed
returns-in-Ok-clause-closed g c =
    let w : Wire = wire (g.P.Engine.Source.rest c.args.white) (g.P.Engine.Sink.written c.args.white) (g.P.Engine.Source.read_faults c.args.white) (g.P.Engine.Sink.write_faults c.args.white) in
    let b : Wire = wire (g.P.Engine.Source.rest c.in-Ok.black) (g.P.Engine.Sink.written c.in-Ok.black) (g.P.Engine.Source.read_faults c.in-Ok.black) (g.P.Engine.Sink.write_faults c.in-Ok.black) in
    let sent = (g.P.Spawner.engines c.keep_game.new.spawner).sent in
    on-err _ _ (λ closes. gives-one _ _ (all_links c.args.jobs.items) w b _ _ c.keep_game.ensures.memory (search rules)
    (subst (λ told. ClosesLinks told sent (all_links c.args.jobs.items ++ (w ∷ (b ∷ [])))) (search rules) (subst (λ (j : Job). ClosesLinks (g.P.Spawner.engines c.start.new.self).sent sent (all_links c.args.jobs.items ++ links_of j)) c.new-job.ensures closes))
    (c.keep_game.ensures.none_started.started ∙ c.in-Ok.ensures.named))
    c.keep_game.result c.keep_game.ensures.closed

pub returns-in-Err-clause-closed : goal.returns-in-Err-clause-closed
returns-in-Err-clause-closed g c =
    let w : Wire = wire (g.P.Engine.Source.rest c.args.white) (g.P.Engine.Sink.written c.args.white) (g.P.Engine.Source.read_faults c.args.white) (g.P.Engine.Sink.write_faults c.args.white) in
    let old = (g.P.Spawner.engines c.args.spawner.now).sent in
    let begun = (g.P.Spawner.engines c.start.new.self).sent in
    let mid = (g.P.Spawner.engines c.close_links.new.spawner).sent in
    let new = (g.P.Spawner.engines c.close.new.self).sent in
    gives-none _ _ _ _ _ (omega arith) (search rules)
    (closes-append old mid new (all_links c.args.jobs.items) (w ∷ []) (subst (λ told. ClosesLinks told mid (all_links c.args.jobs.items)) (search rules) c.close_links.ensures.sent) (new, c.close.ensures.sent, refl))
    (search rules)

pub returns-in-Ok-clause-cause : goal.returns-in-Ok-clause-cause
returns-in-Ok-clause-cause g c = cause-none _ _ _ _ _ c.in-Ok.ensures.cause (λ x. cc) c.keep_game.ensures.memory c.keep_game.ensures.none_started.starts

pub returns-in-Err-clause-cause : goal.returns-in-Err-clause-cause
returns-in-Err-clause-cause g c = cause-same _ _ _ _ (cause-moved c.in-Err.fault _ _ _ c.in-Err.ensures.cause) (c.close.ensures.others.0 ∙ c.close_links.ensures.none_started.starts)
