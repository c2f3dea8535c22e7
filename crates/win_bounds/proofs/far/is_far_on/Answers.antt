use Rattle.std.proofs.Common.{sym, ap, ◌∙◌}
use Rattle.hive_model.specs.Pieces.{queen_of}
use Rattle.hive_model.specs.Boards.{spot_of}
use Rattle.hive_model.proofs.BoardLemmas.{spot_within}
use Rattle.hive_model.proofs.PlaceLemmas.{wider_on_board}
use Rattle.win_bounds.specs.FarFromWin.{is_far_spot}
use Rattle.win_bounds.proofs.far.is_far_on.Goals as goal

pub is_far_place-requires : goal.is_far_place-requires
is_far_place-requires g c =
    wider_on_board _ (spot_within (g.B.Board.stacks c.args.board.now) c.spot.ensures.board c.queen.result c.in-Some.spot (sym c.in-Some.ensures.spot))

pub returns-in-Some-clause-far : goal.returns-in-Some-clause-far
returns-in-Some-clause-far g c =
    let b = g.B.Board.stacks c.args.board.now in
    c.is_far_place.ensures
    ∙ ap (is_far_spot b c.args.side) (sym c.in-Some.is ∙ c.spot.ensures.spot ∙ ap (spot_of b) (c.queen.ensures ∙ ap queen_of c.other.ensures))
