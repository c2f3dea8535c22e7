use Rattle.std.proofs.Common.{◌≡◌, ◌++◌, map, take, length}
use Rattle.hive_model.specs.declared.places.Move.TheVariants.{To}
use Rattle.hive_model.specs.Stack.{without_level}
use Rattle.hand_rules.specs.Listing.{last_level}
use Rattle.hand_rules.proofs.bringing.push_each.Given as goal

abbrev pub invariant-loop-place : goal.invariant-loop-place
invariant-loop-place l = record {
  added : last_level l.out ≡ last_level l.fn.out ++ map (λ q. To l.piece q) (take l.place-index l.places);
  levels : length l.out.lists ≡ length l.fn.out.lists;
  others : without_level l.out ≡ without_level l.fn.out;
}
