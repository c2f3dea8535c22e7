use Rattle.tournament_games.proofs.Steps.{Begun}
use Rattle.tournament_games.proofs.starting.start_wave.Given as goal

abbrev pub invariant-loop-place : goal.invariant-loop-place
invariant-loop-place g l = Begun l.tournament l.first l.place l.jobs.items (g.P.Spawner.engines l.fn.spawner) (g.P.Spawner.engines l.spawner)
