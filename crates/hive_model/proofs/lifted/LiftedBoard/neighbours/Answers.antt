use Rattle.std.proofs.Common.{◌≡◌, ◌∙◌, subst, arith}
use Rattle.std.specs.Prelude.{IfSome}
use Rattle.hive_model.specs.Places.{step}
use Rattle.hive_model.proofs.LiftedMasks.{mask_above, mask_apart, mask_less}
use Rattle.hive_model.proofs.lifted.LiftedBoard.neighbours.Goals as goal

pub returns-then-self-gt0-clause-mask : goal.returns-then-self-gt0-clause-mask
returns-then-self-gt0-clause-mask g c =
    let s = c.args.self.now in
    c.neighbours-mask.ensures.mask ∙ mask_above (g.B.Board.stacks s.board.now) s.sound s.piece s.place s.level s.stands s.top c.if-self-gt0.true c.args.place

pub returns-in-Some-clause-mask : goal.returns-in-Some-clause-mask
returns-in-Some-clause-mask g c =
    let s = c.args.self.now in
    let here = subst (λ o. IfSome o (λ d. step c.args.place d ≡ s.place)) c.in-Some.is c.towards.ensures.some in
    let low = c.if-self-gt0.false in
    let none : s.level ≡ 0 = omega (arith, low) in
    let less = mask_less (g.B.Board.stacks s.board.now) s.sound s.piece s.place s.level s.stands s.top none c.args.place c.in-Some.dir here in
    let mask = c.neighbours-mask.ensures.mask in
    let bit = c.bit.ensures.bit in
    omega (arith, less, mask, bit)

pub returns-in-None-clause-mask : goal.returns-in-None-clause-mask
returns-in-None-clause-mask g c =
    let s = c.args.self.now in
    c.neighbours-mask.ensures.mask ∙ mask_apart (g.B.Board.stacks s.board.now) s.sound s.piece s.place s.level s.stands s.top c.args.place (c.towards.ensures.none c.in-None.is)
