use Rattle.std.proofs.Common.{◌≡◌, ◌<◌, ◌∙◌, sym, ap, Some}
use Rattle.hive_model.specs.Boards.{spot_of}
use Rattle.hive_model.specs.Throws.{throws_from}
use Rattle.hive_model.proofs.PlaceLemmas.{wider_on_board}
use Rattle.hive_model.proofs.BoardLemmas.{spot_of_stands, spot_within}
use Rattle.hive_model.proofs.ThrowLaws.{thrower_from, from_thrower}
use Rattle.pillbug_throws.proofs.throwers.may_throw.Goals as goal

pub throws_from-requires : goal.throws_from-requires
throws_from-requires g c = wider_on_board c.in-Some.spot.place (spot_within (g.B.Board.stacks c.args.board.now) c.in-Some.ensures.board c.args.piece c.in-Some.spot (sym c.in-Some.ensures.spot))

pub returns-in-Some : goal.returns-in-Some
returns-in-Some g c =
    let b = g.B.Board.stacks c.args.board.now in
    let spot : spot_of b c.args.piece ≡ Some c.in-Some.spot = sym c.in-Some.ensures.spot in
    let small : c.args.piece < 28 = c.in-Some.ensures.board.pieces c.in-Some.spot.place c.in-Some.spot.level c.args.piece (spot_of_stands b c.args.piece c.in-Some.spot spot) in (
      λ h. thrower_from b c.args.rest c.args.piece small (ap (throws_from b c.args.rest c.args.piece) spot ∙ sym c.throws_from.ensures ∙ h),
      λ t. c.throws_from.ensures ∙ ap (throws_from b c.args.rest c.args.piece) (sym spot) ∙ from_thrower b c.args.rest c.args.piece t,
    )
