use Rattle.std.proofs.Common.{◌≤◌, length, arith}
use Rattle.hand_rules.specs.Listing.{last_level}
use Rattle.hand_rules.proofs.LevelLaws.{moves_length, one_more_move, same_levels, same_others}
use Rattle.hand_rules.proofs.bringing.push_each.Goals as goal

pub push-requires-clause-room : goal.push-requires-clause-room
push-requires-clause-room c =
    let many = moves_length (last_level c.args.out.now) (last_level c.loop-place.out) c.args.piece c.args.places.now c.loop-place.place-index c.loop-place.invariant.added c.loop-place.auto.place-index-end in
    omega (arith, many, c.requires.room, c.loop-place-test.true)

pub loop-place-preserved : goal.loop-place-preserved
loop-place-preserved c =
    let some : 1 ≤ length c.loop-place.out.lists = omega (arith, c.requires.level, c.loop-place.invariant.levels) in
    record {
      added = one_more_move c.loop-place.out c.push.new.self c.args.out.now c.args.piece c.args.places.now c.loop-place.place-index c.push.ensures c.loop-place-test.true c.loop-place.invariant.added;
      levels = same_levels c.loop-place.out c.push.new.self c.args.out.now c.args.piece c.args.places.now c.loop-place.place-index c.push.ensures some c.loop-place.invariant.levels;
      others = same_others c.loop-place.out c.push.new.self c.args.out.now c.args.piece c.args.places.now c.loop-place.place-index c.push.ensures c.loop-place.invariant.others;
    }
