use Rattle.std.proofs.Common.{◌≡◌, map, take}
use Rattle.std.specs.List.{All, flat_map}
use Rattle.cup.specs.Played.{pairing}
use Rattle.cup_command.specs.Cup.{game_words, started_after}
use Rattle.cup_command.specs.Links.{IsReady, StartsAll, all_links}
use Rattle.cup_command.proofs.links.start_links.Given as goal

abbrev pub invariant-loop-place : goal.invariant-loop-place
invariant-loop-place g l = record {
  kept : map pairing l.jobs.items ≡ take l.place l.games;
  ready : All (IsReady l.setup) l.jobs.items;
  next : StartsAll (g.P.Spawner.engines l.fn.spawner).to_come (g.P.Spawner.engines l.spawner).to_come (all_links l.jobs.items);
  named : (g.P.Spawner.engines l.spawner).started ≡ started_after (g.P.Spawner.engines l.fn.spawner).started (flat_map (game_words l.programs) (take l.place l.games));
  sent : (g.P.Spawner.engines l.spawner).sent ≡ (g.P.Spawner.engines l.fn.spawner).sent;
  failed : (g.P.Spawner.engines l.spawner).engine_faults ≡ (g.P.Spawner.engines l.fn.spawner).engine_faults;
  starts : (g.P.Spawner.engines l.spawner).start_faults ≡ (g.P.Spawner.engines l.fn.spawner).start_faults;
}
