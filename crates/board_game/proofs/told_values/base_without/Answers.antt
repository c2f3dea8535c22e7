use Rattle.std.proofs.Common.{◌∙◌, sym, ap, subst}
use Rattle.hive_model.specs.Boards.{lift, without_at}
use Rattle.hive_model.specs.Hive.{OneHive}
use Rattle.hive_model.proofs.BoardLemmas.{spot_within}
use Rattle.hive_model.proofs.PlaceLemmas.{wider_on_board}
use Rattle.leaf_worth.specs.Bases.{IsFound}
use Rattle.cut_keeper.specs.Keeping.{Keeps}
use Rattle.board_game.proofs.TellLaws.{lifted_top, lifted_without, spot_there}
use Rattle.board_game.proofs.KeptLaws.{shrunk_lifted}
use Rattle.board_game.proofs.told_values.base_without.Goals as goal

pub returns-in-Some : goal.returns-in-Some
returns-in-Some g c =
    let same = lifted_without (g.B.Board.stacks c.args.board.now) c.args.piece _ (sym c.spot.ensures.spot ∙ c.in-Some.is) c.requires.loose in
    subst (λ b. IsFound b c.args.side c.of_hive.result) (c.new-left.ensures ∙ same) c.of_hive.ensures

pub removed_uncounted-requires-clause-shrunk : goal.removed_uncounted-requires-clause-shrunk
removed_uncounted-requires-clause-shrunk g c =
    let b = g.B.Board.stacks c.args.board.now in
    let stands = sym c.spot.ensures.spot ∙ c.in-Some.is in
    shrunk_lifted b c.args.piece c.in-Some.spot c.spot.ensures.board c.requires.loose stands (lift (g.B.Board.stacks c.new-left.result.board.now) c.new-left.result.piece) c.in-Some.spot.place c.again-known.result
    c.new-left.ensures (spot_there b c.args.piece c.in-Some.spot stands) c.requires.one_hive c.requires.left (subst (Keeps b) (sym c.again-known.ensures) c.requires.may.keeps)

pub returns-in-None : goal.returns-in-None
returns-in-None g c =
    let b = g.B.Board.stacks c.args.board.now in
    let off = sym c.spot.ensures.spot ∙ c.in-None.is in
    subst (λ d. IsFound d c.args.side c.again.result) (sym (ap (without_at b) off)) (subst (IsFound b c.args.side) (sym c.again.ensures) c.requires.whole)

pub new-left-requires : goal.new-left-requires
new-left-requires g c = lifted_top (g.B.Board.stacks c.args.board.now) c.args.piece c.in-Some.spot (sym c.spot.ensures.spot ∙ c.in-Some.is) c.requires.loose

pub removed_uncounted-requires-clause-within : goal.removed_uncounted-requires-clause-within
removed_uncounted-requires-clause-within g c = wider_on_board _ (spot_within (g.B.Board.stacks c.args.board.now) c.spot.ensures.board c.args.piece c.in-Some.spot (sym c.spot.ensures.spot ∙ c.in-Some.is))

pub of_hive-requires-clause-keeps : goal.of_hive-requires-clause-keeps
of_hive-requires-clause-keeps g c = c.removed_uncounted.ensures

pub of_hive-requires-clause-one_hive : goal.of_hive-requires-clause-one_hive
of_hive-requires-clause-one_hive g c =
    let same = lifted_without (g.B.Board.stacks c.args.board.now) c.args.piece _ (sym c.spot.ensures.spot ∙ c.in-Some.is) c.requires.loose in
    subst OneHive (sym (c.new-left.ensures ∙ same)) c.requires.left
