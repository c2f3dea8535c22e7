use Rattle.std.proofs.Common.{◌≡◌, length}
use Rattle.std.specs.Vec.Iter.{into_iter_items, into_iter_len}
use Rattle.io_edge.specs.Outside.{ToldLists}
use Rattle.match_command.specs.Match.{StartsNone}
use Rattle.cup_command.specs.Links.{ClosesLinks, counted}
use Rattle.tournament_games.specs.Links.{all_links}
use Rattle.tournament_games.proofs.closing.close_all.Given as goal

abbrev pub invariant-loop-job : goal.invariant-loop-job
invariant-loop-job g l = record {
  long : into_iter_len l.left ≡ length (into_iter_items l.left);
  sent : (later : ToldLists) → ClosesLinks (g.P.Spawner.engines l.spawner).sent later (all_links (into_iter_items l.left)) → ClosesLinks (g.P.Spawner.engines l.fn.spawner).sent later (all_links l.fn.jobs.items);
  failed : counted (all_links (into_iter_items l.left)) (g.P.Spawner.engines l.spawner).engine_faults ≡ counted (all_links l.fn.jobs.items) (g.P.Spawner.engines l.fn.spawner).engine_faults;
  none_started : StartsNone (g.P.Spawner.engines l.fn.spawner) (g.P.Spawner.engines l.spawner);
}

abbrev pub decreases-loop-job : goal.decreases-loop-job
decreases-loop-job g l = into_iter_len l.left
