use Rattle.std.proofs.Common.{inl, inr, refl}
use Rattle.legal_moves.proofs.Throwing.{room_for_throws, goals_with_throws, throws_listed}
use Rattle.legal_moves.proofs.throws.add_thrown.Goals as goal

pub add_all-requires-clause-room : goal.add_all-requires-clause-room
add_all-requires-clause-room g c =
    let b = g.B.Board.stacks c.args.board.now in
    let rest = c.args.turn.now.rest in
    let thrown = throws_listed b rest rest c.again.result c.args.thrower c.args.piece c.throws.new.out.items c.as_slice.result.now refl c.again.ensures c.requires.may c.throws.ensures c.as_slice.ensures.value in
    room_for_throws b c.requires.board rest c.args.thrower c.args.piece c.args.out.now.items c.as_slice.result.now c.requires.list (λ q on. (thrown q).0 on)

pub returns-clause-list : goal.returns-clause-list
returns-clause-list g c =
    let b = g.B.Board.stacks c.args.board.now in
    let rest = c.args.turn.now.rest in
    let thrown = throws_listed b rest rest c.again.result c.args.thrower c.args.piece c.throws.new.out.items c.as_slice.result.now refl c.again.ensures c.requires.may c.throws.ensures c.as_slice.ensures.value in
    goals_with_throws b rest c.args.thrower c.args.piece c.args.out.now.items c.add_all.new.out.items c.requires.list c.add_all.ensures.order (λ q on. elim ((c.add_all.ensures.added q).0 on) [ inl old ↦ inl old | inr new ↦ inr ((thrown q).0 new) ])

pub returns-clause-added : goal.returns-clause-added
returns-clause-added g c q =
    let b = g.B.Board.stacks c.args.board.now in
    let rest = c.args.turn.now.rest in
    let thrown = throws_listed b rest rest c.again.result c.args.thrower c.args.piece c.throws.new.out.items c.as_slice.result.now refl c.again.ensures c.requires.may c.throws.ensures c.as_slice.ensures.value in
    let added = c.add_all.ensures.added q in (
      λ on. elim (added.0 on) [ inl old ↦ inl old | inr new ↦ inr ((thrown q).0 new) ],
      λ h. elim h [ inl old ↦ added.1 (inl old) | inr new ↦ added.1 (inr ((thrown q).1 new)) ],
    )
