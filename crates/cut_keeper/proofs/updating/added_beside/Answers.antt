use Rattle.std.proofs.Common.{◌≡◌, true, false, sym, ◌∙◌, subst, arith}
use Rattle.std.specs.Prelude.{IfSome}
use Rattle.hive_model.specs.Neighbours.{weight}
use Rattle.cut_keeper.proofs.KeepingLaws.{pending_none}
use Rattle.cut_keeper.proofs.ChangeLaws.{grown_pending, unmarked_before, empty_before}
use Rattle.cut_keeper.proofs.RingLaws.{three_suspects}
use Rattle.cut_keeper.proofs.updating.added_beside.Goals as goal

pub added_beside_one-requires-clause-grown : goal.added_beside_one-requires-clause-grown
added_beside_one-requires-clause-grown g c =
    let h = c.requires.grown in
    let stood = unmarked_before h.before (g.B.Board.stacks c.args.board.now) c.args.piece c.args.site.place h.sound c.requires.sound h.made c.args.marks.now c.give.new.self c.give.ensures.others h.stood in
    record { before = h.before; sound = h.sound; one_hive = h.one_hive; stood = stood; made = h.made; still = h.still }

pub added_beside_one-requires-clause-unmarked : goal.added_beside_one-requires-clause-unmarked
added_beside_one-requires-clause-unmarked g c set = let wrong : false ≡ true = c.give.ensures.given.0 set in cc

pub added_beside_one-requires-clause-ring : goal.added_beside_one-requires-clause-ring
added_beside_one-requires-clause-ring g c =
    let r = c.requires.ring in
    record { sound = r.sound; one_hive = r.one_hive; within = r.within; mask = sym (subst (λ o. IfSome o (λ d. c.args.site.mask ≡ weight d)) c.in-Some.is c.only_in.ensures.some) ∙ r.mask }

pub beside-requires-clause-pending : goal.beside-requires-clause-pending
beside-requires-clause-pending g c =
    let b = g.B.Board.stacks c.args.board.now in
    let h = c.requires.grown in
    let empty = empty_before h.before b c.args.piece c.args.site.place h.sound c.requires.sound h.made c.requires.low in
    let stood = unmarked_before h.before b c.args.piece c.args.site.place h.sound c.requires.sound h.made c.args.marks.now c.give.new.self c.give.ensures.others h.stood in
    grown_pending h.before b c.args.piece c.args.site.place h.sound c.requires.sound h.made empty h.one_hive c.give.new.self stood
    (λ set. let wrong : false ≡ true = c.give.ensures.given.0 set in cc) c.requires.arc c.args.site.mask c.requires.ring.mask (c.only_in.ensures.none c.in-None.is)

pub returns-in-None-clause-marks : goal.returns-in-None-clause-marks
returns-in-None-clause-marks g c = pending_none (g.B.Board.stacks c.args.board.now) c.args.site.place true c.beside.new.marks c.beside.ensures.pending

pub returns-in-None-clause-steps : goal.returns-in-None-clause-steps
returns-in-None-clause-steps g c =
    let few = three_suspects (g.B.Board.stacks c.args.board.now) c.args.site.place c.requires.arc in
    let steps = c.beside.ensures.steps in
    omega (arith, few, steps)
