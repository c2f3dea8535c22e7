use Rattle.std.proofs.Common.{◌≡◌, false, sym, ◌∙◌, subst, arith}
use Rattle.std.specs.Prelude.{IfSome}
use Rattle.hive_model.specs.Neighbours.{weight}
use Rattle.cut_keeper.proofs.KeepingLaws.{pending_none}
use Rattle.cut_keeper.proofs.ChangeLaws.{shrunk_pending}
use Rattle.cut_keeper.proofs.RingLaws.{three_suspects}
use Rattle.cut_keeper.proofs.updating.removed_beside.Goals as goal

pub removed_beside_one-requires-clause-ring : goal.removed_beside_one-requires-clause-ring
removed_beside_one-requires-clause-ring g c =
    let r = c.requires.ring in
    record { sound = r.sound; one_hive = r.one_hive; within = r.within; mask = sym (subst (λ o. IfSome o (λ d. c.args.site.mask ≡ weight d)) c.in-Some.is c.only_in.ensures.some) ∙ r.mask }

pub beside-requires-clause-pending : goal.beside-requires-clause-pending
beside-requires-clause-pending g c =
    let b = g.B.Board.stacks c.args.board.now in
    let h = c.requires.shrunk in
    shrunk_pending b h.before c.args.piece c.args.site.place c.requires.sound h.sound h.made c.requires.empty h.still c.args.marks.now h.stood c.requires.arc c.args.site.mask c.requires.ring.mask (c.only_in.ensures.none c.in-None.is)

pub returns-in-None-clause-marks : goal.returns-in-None-clause-marks
returns-in-None-clause-marks g c = pending_none (g.B.Board.stacks c.args.board.now) c.args.site.place false c.beside.new.marks c.beside.ensures.pending

pub returns-in-None-clause-steps : goal.returns-in-None-clause-steps
returns-in-None-clause-steps g c =
    let few = three_suspects (g.B.Board.stacks c.args.board.now) c.args.site.place c.requires.arc in
    let steps = c.beside.ensures.steps in
    omega (arith, few, steps)
