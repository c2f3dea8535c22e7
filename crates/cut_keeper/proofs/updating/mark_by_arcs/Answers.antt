use Rattle.std.proofs.Common.{sym, subst}
use Rattle.hive_model.specs.Hive.{IsSeparating}
use Rattle.hive_model.proofs.PlaceLemmas.{wider, wider_on_board}
use Rattle.hive_model.proofs.BoardLemmas.{spot_within}
use Rattle.cut_keeper.proofs.KeepingLaws.{spot_occupied, top_stands, top_on_board}
use Rattle.cut_keeper.proofs.updating.mark_by_arcs.Goals as goal

pub returns-in-Some-clause-here : goal.returns-in-Some-clause-here
returns-in-Some-clause-here g c p top =
    let b = g.B.Board.stacks c.args.board.now in
    let at = top_stands b c.spot.ensures.board c.args.piece c.in-Some.spot (sym c.in-Some.ensures.spot) p top in
    let set = c.give.ensures.given in
    let cut = c.is_separating_on-is_separating.ensures in
    (λ h. subst (IsSeparating b) at (cut.0 (set.0 h)), λ s. set.1 (cut.1 (subst (IsSeparating b) (sym at) s)))

pub is_separating_on-is_separating-requires-clause-occupied : goal.is_separating_on-is_separating-requires-clause-occupied
is_separating_on-is_separating-requires-clause-occupied g c = spot_occupied (g.B.Board.stacks c.args.board.now) c.args.piece c.in-Some.spot (sym c.in-Some.ensures.spot)

pub returns-in_default-clause-here : goal.returns-in_default-clause-here
returns-in_default-clause-here g c p top = absurd (top_on_board (g.B.Board.stacks c.args.board.now) c.spot.ensures.board c.args.piece (sym c.in_default.ensures.spot) p top)

pub is_separating_on-is_separating-requires-clause-within : goal.is_separating_on-is_separating-requires-clause-within
is_separating_on-is_separating-requires-clause-within g c = wider _ (wider_on_board _ (spot_within (g.B.Board.stacks c.args.board.now) c.spot.ensures.board c.args.piece c.in-Some.spot (sym c.in-Some.ensures.spot)))
