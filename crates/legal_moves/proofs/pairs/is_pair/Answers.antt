use Rattle.std.proofs.Common.{◌≡◌, true, false}
use Rattle.std.proofs.lemmas.Bool.{iff_false}
use Rattle.legal_moves.proofs.Pairing.{brought_pair, moved_pair, brought_within}
use Rattle.legal_moves.proofs.pairs.is_pair.Goals as goal

pub returns-then-not-may_bring : goal.returns-then-not-may_bring
returns-then-not-may_bring g c =
    let b = g.B.Board.stacks c.args.board.now in
    let t = c.args.turn.now in
    let none = iff_false c.may_bring.ensures c.if-not-may_bring.true in
    let law = moved_pair t.game_type b t.side t.number t.rest c.args.piece c.args.place none in
    (λ e. law.0 (c.is_moved.ensures.0 e), λ h. c.is_moved.ensures.1 (law.1 h))

pub returns-then-not-is_within : goal.returns-then-not-is_within
returns-then-not-is_within g c =
    let b = g.B.Board.stacks c.args.board.now in
    let t = c.args.turn.now in
    let may = c.may_bring.ensures.0 c.if-not-may_bring.false in
    let law = brought_pair t.game_type b t.side t.number t.rest c.args.piece c.args.place may in
    let far = iff_false c.is_within.ensures c.if-not-is_within.true in (
      λ e. let wrong : false ≡ true = e in absurd (cc),
      λ h. absurd (far (brought_within t.game_type b t.side t.number t.rest c.args.piece c.args.place c.requires may (law.1 h))),
    )

pub returns : goal.returns
returns g c =
    let b = g.B.Board.stacks c.args.board.now in
    let t = c.args.turn.now in
    let may = c.may_bring.ensures.0 c.if-not-may_bring.false in
    let law = brought_pair t.game_type b t.side t.number t.rest c.args.piece c.args.place may in
    (λ e. law.0 (c.may_place.ensures.0 e), λ h. c.may_place.ensures.1 (law.1 h))
