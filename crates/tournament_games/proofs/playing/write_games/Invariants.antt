use Rattle.std.proofs.Common.{◌≡◌, ◌+◌, ◌-◌, ◌≤◌, List, length}
use Rattle.io_edge.specs.Outside.{Told}
use Rattle.command_runs.specs.World.{Times, sides, world}
use Rattle.tournament_games.specs.Games.{Job}
use Rattle.tournament_games.specs.Waves.{WroteGames}
use Rattle.tournament_games.proofs.playing.write_games.Given as goal

-- the games so far were played and written
abbrev pub invariant-loop-done : goal.invariant-loop-done
invariant-loop-done g l = record {
  within : l.done ≤ l.games;
  so_far : (rest : Told) (times : Times)
      → (olds news : List Job) × (l.done ≡ l.first + length news)
      × WroteGames l.tournament l.first olds news l.fn.tally l.tally (world (sides rest (g.K.Sink.written l.fn.output)) times (g.P.Spawner.engines l.fn.spawner)) (world (sides rest (g.K.Sink.written l.output)) times (g.P.Spawner.engines l.spawner));
  engines : l.tally.engines ≡ l.fn.tally.engines;
  noted : l.tally.games ≡ l.done;
  faults : g.K.Sink.write_faults l.output ≡ g.K.Sink.write_faults l.fn.output;
}

abbrev pub decreases-loop-done : goal.decreases-loop-done
decreases-loop-done g l = l.games - l.done
