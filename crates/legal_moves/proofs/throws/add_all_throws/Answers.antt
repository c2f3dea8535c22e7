use Rattle.std.proofs.Common.{inl, inr}
use Rattle.legal_moves.specs.Going.{position_of}
use Rattle.legal_moves.proofs.Throwing.{both_throw, no_throw, not_beside}
use Rattle.legal_moves.proofs.throws.add_all_throws.Goals as goal

pub returns-clause-added : goal.returns-clause-added
returns-clause-added g c =
    let b = g.B.Board.stacks c.args.board.now in
    both_throw (position_of b c.args.turn.now) c.args.piece c.pillbug_of.result c.mosquito_of.result c.args.out.now.items c.add_throws.new.out.items c.add_throws-2.new.out.items c.pillbug_of.ensures c.mosquito_of.ensures c.add_throws.ensures.added c.add_throws-2.ensures.added

pub returns-then-not-is_set-clause-added : goal.returns-then-not-is_set-clause-added
returns-then-not-is_set-clause-added g c q =
    let p = position_of (g.B.Board.stacks c.args.board.now) c.args.turn.now in
    let none = not_beside p c.args.throwers.now c.args.piece c.requires.throwers c.is_set.result c.is_set.ensures c.if-not-is_set.true in (
      λ on. inl on,
      λ h. elim h [ inl old ↦ old | inr throw ↦ absurd (no_throw p c.args.piece none q throw) ],
    )
