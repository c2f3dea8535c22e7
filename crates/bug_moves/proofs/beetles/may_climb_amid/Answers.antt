use Rattle.std.proofs.Common.{◌≡◌, true, false}
use Rattle.std.proofs.lemmas.Bool.{iff_false}
use Rattle.bug_moves.proofs.AtHive.{climbing, climbs_free}
use Rattle.bug_moves.proofs.beetles.may_climb_amid.Goals as goal

pub returns-then-not-is_high : goal.returns-then-not-is_high
returns-then-not-is_high g c = (
  λ h. absurd (let wrong : false ≡ true = h in cc),
  λ climb. absurd (iff_false c.is_high.ensures c.if-not-is_high.true climb.high),
)

pub returns : goal.returns
returns g c =
    let b = g.B.Board.stacks c.args.board.now in (
      λ free. climbing b c.args.from c.args.to (c.is_high.ensures.0 c.if-not-is_high.false) (c.climb_amid.ensures.0 free),
      λ climb. c.climb_amid.ensures.1 (climbs_free b c.args.from c.args.to climb),
    )
