-- The text of a cup reports what was played, and all engines are closed wherever the cup ends.
use Rattle.std.proofs.Common.{◌≡◌, ◌∙◌, List, length, drop, refl}
use Rattle.cup.specs.Played.{Job}
use Rattle.cup_command.proofs.Ends.{told-from}
use Rattle.cup_command.proofs.Breaks.{breaks, gives-all}
use Rattle.cup_command.proofs.Early.{early, early-all}
use Rattle.cup_command.proofs.Kept.{cause-moved, cause-memory, cause-ok, no-cause, no-failure, no-fault, same-fault}
use Rattle.cup_command.proofs.Steps.{as-many-after, none-kept-after, pairs-lent, ready-lent, take-front}
use Rattle.cup_command.proofs.playing.play.Goals as goal

pub returns-in-Ok-text-clause-told : goal.returns-in-Ok-text-clause-told
returns-in-Ok-text-clause-told g c =
    let old = g.P.Spawner.engines c.args.spawner.now in
    let between = g.P.Spawner.engines c.start_links.new.spawner in
    let new = g.P.Spawner.engines c.close_links.new.spawner in
    let news : List Job = c.run_and_tell-text.new.jobs in
    let many : length news ≡ c.in-Ok-start_links.jobs.len = c.run_and_tell-text.ensures.long ∙ c.deref_mut.ensures.len in
    let started = c.in-Ok-start_links.ensures in
    let shut = c.close_links.ensures in
    told-from c.args.programs.now c.args.setup c.as_slice-games.result.now c.in-Ok-start_links.jobs.items c.deref_mut.result.now news _ c.in-Ok-text.text
    old between new
    (c.as_slice-games.ensures.value ∙ c.in-Ok.ensures) started.kept started.ready c.deref_mut.ensures.value c.in-Ok-text.ensures.played (take-front c.in-Ok-start_links.jobs.len news _ many)
    started.next started.starts.sent started.starts.failed started.starts.named shut.sent shut.failed shut.none_started.to_come shut.none_started.started c.in-Ok-text.ensures.told

pub returns-in-Ok-text-clause-closed : goal.returns-in-Ok-text-clause-closed
returns-in-Ok-text-clause-closed g c =
    none-kept-after _ _ _ _ _ (g.P.Spawner.engines c.args.spawner.now) (g.P.Spawner.engines c.start_links.new.spawner) (g.P.Spawner.engines c.close_links.new.spawner) c.in-Ok-start_links.ensures.next c.in-Ok-start_links.ensures.starts.sent
    c.close_links.ensures.sent c.close_links.ensures.none_started.to_come c.run_and_tell-text.ensures.long c.deref_mut.ensures.len c.deref_mut.ensures.value

pub returns-in-Ok-start_links-clause-closed : goal.returns-in-Ok-start_links-clause-closed
returns-in-Ok-start_links-clause-closed g c =
    none-kept-after _ _ _ _ _ (g.P.Spawner.engines c.args.spawner.now) (g.P.Spawner.engines c.start_links.new.spawner) (g.P.Spawner.engines c.close_links.new.spawner) c.in-Ok-start_links.ensures.next c.in-Ok-start_links.ensures.starts.sent
    c.close_links.ensures.sent c.close_links.ensures.none_started.to_come c.run_and_tell-text.ensures.long c.deref_mut.ensures.len c.deref_mut.ensures.value

pub returns-clause-broken : goal.returns-clause-broken
returns-clause-broken g c =
    let old = g.P.Spawner.engines c.args.spawner.now in
    let new = g.P.Spawner.engines c.start_links.new.spawner in
    λ e.
    breaks _ c.args.programs.now old new
    (same-fault c.in-Err.fault _ e) c.in-Err.ensures.closed

pub returns-clause-closed : goal.returns-clause-closed
returns-clause-closed g c = gives-all _ _ (g.P.Spawner.engines c.args.spawner.now) (g.P.Spawner.engines c.start_links.new.spawner) c.in-Err.ensures.closed

pub returns-clause-early : goal.returns-clause-early
returns-clause-early g c =
    let old = g.P.Spawner.engines c.args.spawner.now in
    let new = g.P.Spawner.engines c.start_links.new.spawner in
    λ e.
    early _ c.args.programs.now old new
    c.in-Err.ensures.closed

pub returns-in-Ok-start_links-clause-early : goal.returns-in-Ok-start_links-clause-early
returns-in-Ok-start_links-clause-early g c =
    let news : List Job = c.run_and_tell-text.new.jobs in
    let started = c.in-Ok-start_links.ensures in
    let shut = c.close_links.ensures in
    λ e.
    early-all c.args.programs.now c.as_slice-games.result.now c.in-Ok-start_links.jobs.items _
    (g.P.Spawner.engines c.args.spawner.now) (g.P.Spawner.engines c.start_links.new.spawner) (g.P.Spawner.engines c.close_links.new.spawner)
    (c.as_slice-games.ensures.value ∙ c.in-Ok.ensures) started.kept
    (as-many-after c.in-Ok-start_links.jobs.len c.in-Ok-start_links.jobs.items c.deref_mut.result.now news (drop (length news) c.in-Ok-start_links.jobs.items) c.run_and_tell-text.ensures.long c.deref_mut.ensures.len c.deref_mut.ensures.value)
    started.next started.starts.sent started.starts.named shut.sent shut.none_started.to_come shut.none_started.started

pub returns-in-Ok-text-clause-broken : goal.returns-in-Ok-text-clause-broken
returns-in-Ok-text-clause-broken g c = λ e. no-fault c.in-Ok-text.text _ e

pub returns-in-Ok-text-clause-early : goal.returns-in-Ok-text-clause-early
returns-in-Ok-text-clause-early g c = λ e. no-fault c.in-Ok-text.text _ e

pub returns-in-Ok-text-clause-cause : goal.returns-in-Ok-text-clause-cause
returns-in-Ok-text-clause-cause g c =
    cause-ok c.in-Ok-start_links.jobs c.in-Ok-text.text (g.P.Spawner.engines c.args.spawner.now).start_faults (g.P.Spawner.engines c.start_links.new.spawner).start_faults (g.P.Spawner.engines c.close_links.new.spawner).start_faults c.in-Ok-start_links.ensures.cause c.close_links.ensures.none_started.starts

pub returns-in-Ok-start_links-clause-broken : goal.returns-in-Ok-start_links-clause-broken
returns-in-Ok-start_links-clause-broken g c = λ e. no-failure e

pub returns-in-Ok-start_links-clause-cause : goal.returns-in-Ok-start_links-clause-cause
returns-in-Ok-start_links-clause-cause g c =
    cause-memory c.in-Ok-start_links.jobs (g.P.Spawner.engines c.args.spawner.now).start_faults (g.P.Spawner.engines c.start_links.new.spawner).start_faults (g.P.Spawner.engines c.close_links.new.spawner).start_faults c.in-Ok-start_links.ensures.cause c.close_links.ensures.none_started.starts

pub returns-clause-cause : goal.returns-clause-cause
returns-clause-cause g c = cause-moved c.in-Err.fault _ _ _ c.in-Err.ensures.cause

pub run_and_tell-text-requires-clause-jobs : goal.run_and_tell-text-requires-clause-jobs
run_and_tell-text-requires-clause-jobs g c = λ κs outlive. pairs-lent c.deref_mut.result.now c.in-Ok-start_links.jobs.items c.as_slice-games.result.now c.deref_mut.ensures.value c.in-Ok-start_links.ensures.kept

pub run_and_tell-text-requires-clause-ready : goal.run_and_tell-text-requires-clause-ready
run_and_tell-text-requires-clause-ready g c = λ κs outlive. ready-lent c.args.setup c.deref_mut.result.now c.in-Ok-start_links.jobs.items c.deref_mut.ensures.value c.in-Ok-start_links.ensures.ready

pub run_and_tell-text-requires-clause-games : goal.run_and_tell-text-requires-clause-games
run_and_tell-text-requires-clause-games g c = λ κs outlive. c.as_slice-games.ensures.value ∙ c.in-Ok.ensures

pub returns-in_default-clause-broken : goal.returns-in_default-clause-broken
returns-in_default-clause-broken g c = λ e. no-failure e

pub returns-in_default-clause-cause : goal.returns-in_default-clause-cause
returns-in_default-clause-cause g c = no-cause _ _ _ (λ e. no-failure e) refl
