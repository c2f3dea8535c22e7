use Rattle.std.proofs.Common.{rules, arith, ◌≡◌, length}
use Rattle.std.specs.Vec.Iter.{into_iter_items, into_iter_len}
use Rattle.cup_command.proofs.Left.{left-failed, left-first, left-next, left-none}
use Rattle.cup_command.proofs.closing.close_links.Goals as goal

pub loop-job-init : goal.loop-job-init
loop-job-init g c =
    let long : into_iter_len c.into_iter-left.result ≡ length c.args.jobs.items = search rules in
    left-first c.args.jobs.items (into_iter_items c.into_iter-left.result) (into_iter_len c.into_iter-left.result) (g.P.Spawner.engines c.args.spawner.now) c.into_iter-left.ensures.rest long

pub loop-job-smaller : goal.loop-job-smaller
loop-job-smaller g c = let gone = c.in-Some.ensures.cases.1 in omega (arith, gone)

pub loop-job-preserved : goal.loop-job-preserved
loop-job-preserved g c =
    left-next c.args.jobs.items (into_iter_items c.loop-job.left) (into_iter_items c.next.new.self) c.in-Some.job (into_iter_len c.loop-job.left) (into_iter_len c.next.new.self)
    (g.P.Spawner.engines c.args.spawner.now) (g.P.Spawner.engines c.loop-job.spawner) (g.P.Spawner.engines c.close_game.new.spawner)
    c.loop-job.invariant c.in-Some.ensures.items c.in-Some.ensures.cases.1 c.close_game.ensures.sent c.close_game.ensures.failed c.close_game.ensures.none_started

pub returns-clause-sent : goal.returns-clause-sent
returns-clause-sent g c =
    left-none c.args.jobs.items (into_iter_items c.loop-job.left) (into_iter_len c.loop-job.left) (g.P.Spawner.engines c.args.spawner.now) (g.P.Spawner.engines c.loop-job.spawner) c.loop-job.invariant c.in_default.ensures.cases.0

pub returns-clause-failed : goal.returns-clause-failed
returns-clause-failed g c =
    left-failed c.args.jobs.items (into_iter_items c.loop-job.left) (into_iter_len c.loop-job.left) (g.P.Spawner.engines c.args.spawner.now) (g.P.Spawner.engines c.loop-job.spawner) c.loop-job.invariant c.in_default.ensures.cases.0

pub returns-clause-none_started : goal.returns-clause-none_started
returns-clause-none_started g c = c.loop-job.invariant.none_started

pub destroy_empty-requires : goal.destroy_empty-requires
destroy_empty-requires g c = c.in_default.ensures.cases.1
