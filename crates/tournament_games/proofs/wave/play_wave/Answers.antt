use Rattle.std.proofs.Common.{◌≡◌, ◌+◌, ◌∙◌, List, length, ap, sym, subst, arith}
use Rattle.std.specs.List.{All}
use Rattle.std.proofs.lemmas.List.Elements.{length_all_zip}
use Rattle.cup_command.proofs.Kept.{on-ok}
use Rattle.tournament_core.specs.Schedules.{IsFixture}
use Rattle.tournament_games.specs.Games.{IsSettled, Job}
use Rattle.tournament_games.proofs.Waves.{always-err, fixtures-all, wave-shut, wave-told}
use Rattle.tournament_games.proofs.wave.play_wave.Goals as goal

pub tell_wave-text-requires-clause-fixtures : goal.tell_wave-text-requires-clause-fixtures
tell_wave-text-requires-clause-fixtures g c =
    let t = c.args.tournament.now in
    subst (λ (js : List Job). All (λ (j : Job). IsFixture c.args.tally.now.engines j.fixture) js) (sym c.as_slice.ensures.value)
    (subst (λ n. All (λ (j : Job). IsFixture n j.fixture) c.run_wave.new.jobs.items) (sym c.requires.engines)
    (fixtures-all t t.plan.engines c.in_ok-jobs.jobs.items c.run_wave.new.jobs.items c.run_wave.ensures c.in_ok-jobs.ensures.fixtures))

pub tell_wave-text-requires-clause-room : goal.tell_wave-text-requires-clause-room
tell_wave-text-requires-clause-room g c =
    let lent = ap (λ (js : List Job). length js) c.as_slice.ensures.value in
    let same = length_all_zip (IsSettled c.args.tournament.now) c.in_ok-jobs.jobs.items c.run_wave.new.jobs.items c.run_wave.ensures in
    let many = c.in_ok-jobs.ensures.many in
    let noted = c.requires.noted in
    let few = c.requires.few in
    omega (arith, lent, same, many, noted, few)

pub returns-clause-played : goal.returns-clause-played
returns-clause-played g c =
    let told = c.tell_wave-text.ensures in
    let shut = c.close_all.ensures in
    wave-told c.args.tournament.now c.args.first c.args.count c.in_ok-jobs.jobs.items c.run_wave.new.jobs.items c.as_slice.result.now c.args.tally.now c.tell_wave-text.new.tally
    (g.P.Spawner.engines c.args.spawner.now) (g.P.Spawner.engines c.start_wave.new.spawner) (g.P.Spawner.engines c.close_all.new.spawner) c.tell_wave-text.result
    c.as_slice.ensures.value c.in_ok-jobs.ensures.many c.in_ok-jobs.ensures.next c.in_ok-jobs.ensures.started c.run_wave.ensures shut.sent shut.failed shut.none_started told.told told.text told.noted

pub returns-clause-count : goal.returns-clause-count
returns-clause-count g c =
    let lent = ap (λ (js : List Job). length js) c.as_slice.ensures.value in
    let same = length_all_zip (IsSettled c.args.tournament.now) c.in_ok-jobs.jobs.items c.run_wave.new.jobs.items c.run_wave.ensures in
    let many = c.in_ok-jobs.ensures.many in
    let long : length c.as_slice.result.now ≡ c.args.count = omega (arith, lent, same, many) in
    on-ok _ _ (λ e. e ∙ ap (λ n. c.args.tally.now.games + n) long) c.tell_wave-text.result c.tell_wave-text.ensures.count

pub returns-clause-shut : goal.returns-clause-shut
returns-clause-shut g c =
    always-err c.tell_wave-text.result
    (wave-shut c.args.tournament.now c.in_ok-jobs.jobs.items c.run_wave.new.jobs.items (g.P.Spawner.engines c.args.spawner.now) (g.P.Spawner.engines c.start_wave.new.spawner) (g.P.Spawner.engines c.close_all.new.spawner)
    c.in_ok-jobs.ensures.started c.run_wave.ensures c.close_all.ensures.sent c.close_all.ensures.none_started)
