use Rattle.std.proofs.Common.{rules, ◌∷◌, ◌∙◌, ℕ, List, [], arith, ap, refl}
use Rattle.std.proofs.lemmas.Result.{IfOk-weaker}
use Rattle.io_edge.specs.Outside.{with_last}
use Rattle.match_runner.specs.Wires.{Wire, wire}
use Rattle.cup_command.specs.Cup.{started_after, words_of}
use Rattle.cup_command.specs.Links.{all_links}
use Rattle.cup_command.proofs.Breaks.{gives-none, gives-same, one-before, started-more}
use Rattle.cup_command.proofs.Kept.{cause-moved, cause-same, cause-then, on-err, on-ok}
use Rattle.cup_command.proofs.links.start_game.Goals as goal

pub returns-in-Ok-clause-kept : goal.returns-in-Ok-clause-kept
returns-in-Ok-clause-kept g c =
    let w : Wire = wire (g.P.Engine.Source.rest c.in-Ok.white) (g.P.Engine.Sink.written c.in-Ok.white) (g.P.Engine.Source.read_faults c.in-Ok.white) (g.P.Engine.Sink.write_faults c.in-Ok.white) in
    IfOk-weaker c.start_black.result _ _ (λ games kept. (w, kept.0, record { reads = c.in-Ok.ensures.fresh.0; writes = c.in-Ok.ensures.fresh.1 }, kept.1, (_, c.in-Ok.ensures.next, (_, kept.2, refl)), kept.3)) c.start_black.ensures.kept

pub returns-in-Ok-clause-starts : goal.returns-in-Ok-clause-starts
returns-in-Ok-clause-starts g c =
    let first = c.in-Ok.ensures.named ∙ ap (λ (ws : List (List ℕ)). with_last (g.P.Spawner.engines c.args.spawner.now).started ws) c.words_of.ensures.words in
    on-ok _ _ (λ more. record {
      named =
          more.named ∙ (ap (λ (ws : List (List ℕ)). started_after (g.P.Spawner.engines c.start.new.self).started (ws ∷ [])) c.words_of-black.ensures.words
          ∙ (ap (λ told. started_after told (words_of c.args.programs.now c.args.game.black ∷ [])) first ∙ started-more (g.P.Spawner.engines c.args.spawner.now).started _ _));
      sent = more.sent ∙ c.in-Ok.ensures.others.1;
      failed = more.failed ∙ c.in-Ok.ensures.others.0;
    }) c.start_black.result c.start_black.ensures.starts

pub returns-in-Ok-clause-closed : goal.returns-in-Ok-clause-closed
returns-in-Ok-clause-closed g c =
    let w : Wire = wire (g.P.Engine.Source.rest c.in-Ok.white) (g.P.Engine.Sink.written c.in-Ok.white) (g.P.Engine.Source.read_faults c.in-Ok.white) (g.P.Engine.Sink.write_faults c.in-Ok.white) in
    let first = c.in-Ok.ensures.named ∙ ap (λ (ws : List (List ℕ)). with_last (g.P.Spawner.engines c.args.spawner.now).started ws) c.words_of.ensures.words in
    on-err _ _ (λ gives. one-before _ _ (words_of c.args.programs.now c.args.game.white) (all_links c.args.jobs.items) w _ _ _ c.in-Ok.ensures.next c.in-Ok.ensures.others.1 first
    (gives-same c.words_of-black.ensures.words gives)) c.start_black.result c.start_black.ensures.closed

pub returns-in-Ok-clause-cause : goal.returns-in-Ok-clause-cause
returns-in-Ok-clause-cause g c = cause-then _ _ _ _ _ c.in-Ok.ensures.cause (λ x. cc) c.start_black.ensures.cause

pub returns-in-Err-clause-closed : goal.returns-in-Err-clause-closed
returns-in-Err-clause-closed g c = gives-none _ _ _ _ _ (omega arith) (search rules) (search rules) (search rules)

pub returns-in-Err-clause-cause : goal.returns-in-Err-clause-cause
returns-in-Err-clause-cause g c = cause-same _ _ _ _ (cause-moved c.in-Err.fault _ _ _ c.in-Err.ensures.cause) c.close_links.ensures.none_started.starts
