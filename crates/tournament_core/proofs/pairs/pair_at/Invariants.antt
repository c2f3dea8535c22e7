use Rattle.std.proofs.Common.{◌≡◌, ◌<◌, length}
use Rattle.std.specs.Prelude.{slice_get}
use Rattle.tournament_core.specs.Schedules.{all_pairs}
use Rattle.tournament_core.proofs.PairLemmas.{pairs_left}
use Rattle.tournament_core.proofs.pairs.pair_at.Given as goal

abbrev pub invariant-loop-first : goal.invariant-loop-first
invariant-loop-first l = record {
  there : slice_get (all_pairs l.engines) l.place ≡ slice_get (pairs_left l.engines l.first) l.left;
  within : l.left < length (pairs_left l.engines l.first);
}
