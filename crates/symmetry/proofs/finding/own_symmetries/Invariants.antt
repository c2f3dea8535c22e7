use Rattle.std.specs.Prelude.{◌<◌, length}
use Rattle.symmetry.specs.Own.{AreOwnBelow}
use Rattle.symmetry.proofs.finding.own_symmetries.Given as goal

abbrev pub invariant-loop-index : goal.invariant-loop-index
invariant-loop-index l = record {
  room : length l.own.items < l.index;
  own : AreOwnBelow l.index l.key l.own.items;
}
