use Rattle.std.proofs.Common.{rules, ◌≡◌, ◌+◌, ◌∷◌, [], List, ap, subst}
use Rattle.cup.specs.Engines.{Engine}
use Rattle.tournament_games.specs.Links.{AreStarted, all_links}
use Rattle.tournament_games.proofs.Starts.{shuts-all}
use Rattle.tournament_games.proofs.Steps.{begun-more, begun-none}
use Rattle.tournament_games.proofs.starting.start_wave.Goals as goal

pub loop-place-init : goal.loop-place-init
loop-place-init g c = begun-none c.args.tournament.now c.args.first c.new-jobs.result.items (g.P.Spawner.engines c.args.spawner.now) c.new-jobs.ensures.items

pub loop-place-preserved : goal.loop-place-preserved
loop-place-preserved g c =
    let (job, number, fixture, started, more) = c.in-Ok.ensures.kept in
    let mid = g.P.Spawner.engines c.loop-place.spawner in
    let now = g.P.Spawner.engines c.start_next.new.spawner in
    let from : c.from.result ≡ c.loop-place.place = search rules in
    begun-more c.args.tournament.now c.plan-plan.result c.args.first c.loop-place.place (c.args.first + c.from.result) c.fixture-fixture.result c.loop-place.jobs.items c.in-Ok.more.items job (g.P.Spawner.engines c.args.spawner.now) mid now
    c.plan-plan.ensures.value (ap (λ n. c.args.first + n) from) c.fixture-fixture.ensures.there c.fixture-fixture.ensures.engines number fixture more (subst (λ (es : List Engine). AreStarted es (job ∷ []) mid now) c.programs.ensures started) c.loop-place.invariant

pub returns-in-Err-clause-shut : goal.returns-in-Err-clause-shut
returns-in-Err-clause-shut g c =
    let started = c.loop-place.invariant.started in
    shuts-all (all_links c.loop-place.jobs.items) (g.P.Spawner.engines c.args.spawner.now) (g.P.Spawner.engines c.loop-place.spawner) (g.P.Spawner.engines c.start_next.new.spawner) started.starts started.sent c.in-Err.ensures.shut
