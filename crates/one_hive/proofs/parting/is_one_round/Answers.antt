use Rattle.one_hive.proofs.RoundLaws.{round_yes, round_no}
use Rattle.one_hive.proofs.parting.is_one_round.Goals as goal

pub returns : goal.returns
returns g c =
    let b = g.B.Board.stacks c.args.board.now in
    let met = c.walk_until-met.result in
    let e = c.walk_until-met.ensures in (
      λ h. round_yes b c.requires.board c.args.place c.args.start c.requires.start c.args.beside.now c.requires.beside met.places.items met.tops e.marked e.met c.requires.one_hive c.requires.occupied (c.has_all.ensures.0 h),
      λ one. c.has_all.ensures.1 (round_no b c.requires.board c.args.place c.args.start c.requires.start c.args.beside.now c.requires.beside met.places.items met.tops e.marked e.met e.end one),
    )
