use Rattle.std.proofs.Common.{◌<◌, ◌∙◌, List, length, map, get_or, ap, sym, refl, subst}
use Rattle.std.proofs.lemmas.List.{get_or_default}
use Rattle.cup.specs.declared.pairing.Pairing.{Pairing}
use Rattle.cup.specs.Played.{pairing}
use Rattle.cup_command.specs.Links.{IsPaired}
use Rattle.cup_command.proofs.Breaks.{started-none}
use Rattle.cup_command.proofs.Steps.{gives-up, kept-end, kept-step, named-end, named-step, next-none, next-step, ready-none, ready-step}
use Rattle.cup_command.proofs.Pairs.{paired-at}
use Rattle.cup_command.proofs.Kept.{cause-before, no-cause}
use Rattle.cup_command.proofs.links.start_links.Goals as goal

pub start_game-requires-clause-paired : goal.start_game-requires-clause-paired
start_game-requires-clause-paired g c = λ κs outlive.
    let none : Pairing = record { white = 0; black = 0 } in
    subst (λ (gs : List Pairing). IsPaired (length c.args.programs.now) (get_or gs c.loop-place.place none)) (sym c.requires.games) (paired-at (length c.args.programs.now) c.loop-place.place none (subst (λ (gs : List Pairing). c.loop-place.place < length gs) c.requires.games c.loop-place-test.true))

pub loop-place-preserved : goal.loop-place-preserved
loop-place-preserved g c =
    let i = c.loop-place.place in
    let game : Pairing = get_or c.args.games.now i (record { white = 0; black = 0 }) in
    let (w, b, wf, bf, starts, more) = c.in-Ok.ensures.kept in
    let so = c.loop-place.invariant in
    let jobs = c.loop-place.jobs.items in
    let jobs_now = c.in-Ok.more.items in
    let low = c.loop-place-test.true in
    let same = get_or_default c.args.games.now i _ game low in
    record {
      kept = kept-step c.args.games.now jobs jobs_now i game c.args.setup w b low same so.kept more;
      ready = ready-step c.args.setup jobs jobs_now game w b wf bf so.ready more;
      next = next-step c.args.setup jobs jobs_now game w b _ _ _ so.next starts more;
      named = named-step c.args.programs.now c.args.games.now i game _ _ _ low same so.named c.in-Ok.ensures.starts.named;
      sent = c.in-Ok.ensures.starts.sent ∙ so.sent;
      failed = c.in-Ok.ensures.starts.failed ∙ so.failed;
      starts = c.in-Ok.ensures.cause.same (λ e. cc) ∙ so.starts;
    }

pub loop-place-init : goal.loop-place-init
loop-place-init g c =
    let none = c.new-jobs.ensures.items in
    record {
      kept = ap (map pairing) none;
      ready = ready-none c.args.setup c.new-jobs.result.items none;
      next = next-none (g.P.Spawner.engines c.args.spawner.now).to_come c.new-jobs.result.items none;
      named = started-none (g.P.Spawner.engines c.args.spawner.now).started;
      sent = refl;
      failed = refl;
      starts = refl;
    }

pub returns-clause-cause : goal.returns-clause-cause
returns-clause-cause g c = no-cause _ _ _ (λ e. cc) c.loop-place.invariant.starts

pub returns-clause-starts : goal.returns-clause-starts
returns-clause-starts g c = record {
  named =
      named-end c.args.programs.now c.args.games.now c.loop-place.place (g.P.Spawner.engines c.args.spawner.now).started (g.P.Spawner.engines c.loop-place.spawner).started c.requires.games c.loop-place-test.false c.loop-place.invariant.named;
  sent = c.loop-place.invariant.sent;
  failed = c.loop-place.invariant.failed;
}

pub returns-in-Err-clause-closed : goal.returns-in-Err-clause-closed
returns-in-Err-clause-closed g c =
    let i = c.loop-place.place in
    let game : Pairing = get_or c.args.games.now i (record { white = 0; black = 0 }) in
    let so = c.loop-place.invariant in
    let low = c.loop-place-test.true in
    gives-up _ c.args.programs.now c.args.games.now c.loop-place.jobs.items i game _ _ _ c.requires.games low (get_or_default c.args.games.now i _ game low) so.kept so.next so.sent so.named c.in-Err.ensures.closed

pub returns-in-Err-clause-cause : goal.returns-in-Err-clause-cause
returns-in-Err-clause-cause g c =
    cause-before _ (g.P.Spawner.engines c.args.spawner.now).start_faults (g.P.Spawner.engines c.loop-place.spawner).start_faults (g.P.Spawner.engines c.start_game.new.spawner).start_faults c.loop-place.invariant.starts c.in-Err.ensures.cause

pub returns-clause-kept : goal.returns-clause-kept
returns-clause-kept g c = kept-end c.args.games.now c.loop-place.jobs.items c.loop-place.place c.loop-place-test.false c.loop-place.invariant.kept

pub returns-clause-ready : goal.returns-clause-ready
returns-clause-ready g c = c.loop-place.invariant.ready

pub returns-clause-next : goal.returns-clause-next
returns-clause-next g c = c.loop-place.invariant.next
