use Rattle.bug_moves.proofs.AtHive.{creep_at_hive}
use Rattle.bug_moves.proofs.Gaining.{room_for, gains_toward}
use Rattle.bug_moves.specs.Ways.{BeetleStep}
use Rattle.bug_moves.proofs.beetles.CreepGroundWay.add.Goals as goal

pub add_place-requires : goal.add_place-requires
add_place-requires g c =
    let b = g.B.Board.stacks c.args.board.now in
    record { room = room_for b c.step-place.result c.args.out.now.items c.requires.list (creep_at_hive b c.args.from c.step-place.result (c.may_creep.ensures.0 c.if-may_creep.true)) }

pub returns-then-may_creep : goal.returns-then-may_creep
returns-then-may_creep g c =
    let b = g.B.Board.stacks c.args.board.now in
    let creep = c.may_creep.ensures.0 c.if-may_creep.true in
    gains_toward b (BeetleStep b) c.args.from c.args.dir c.step-place.result c.args.out.now.items c.add_place.new.list.items c.requires.list (creep_at_hive b c.args.from c.step-place.result creep)
    c.step-place.ensures c.add_place.ensures creep
