use Rattle.std.proofs.Common.{◌≡◌, ◌≤◌, take}
use Rattle.hive_model.specs.Repetition.{count_same}
use Rattle.hive_model.proofs.repeats.count_same.Given as goal

abbrev pub invariant-loop-other : goal.invariant-loop-other
invariant-loop-other l = record {
  counted : l.times ≡ count_same l.key (take l.other-index l.keys);
  few : l.times ≤ l.other-index;
}
