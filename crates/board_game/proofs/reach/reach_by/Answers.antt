use Rattle.std.proofs.Common.{◌∙◌, sym, ap, subst}
use Rattle.hive_model.specs.Boards.{lift, without_at}
use Rattle.hive_model.specs.declared.pieces.Colour.TheVariants.{White, Black}
use Rattle.leaf_worth.specs.Bases.{IsFound}
use Rattle.board_game.proofs.TellLaws.{lifted_top, lifted_without, lifted_gone, lifted_open}
use Rattle.board_game.proofs.ReachLaws.{reach_whole}
use Rattle.board_game.proofs.reach.reach_by.Goals as goal

pub new-requires : goal.new-requires
new-requires g c = lifted_top (g.B.Board.stacks c.args.board.now) c.args.piece _ (sym c.spot.ensures.spot ∙ c.in-Some.is) c.requires.loose

pub reach_without-requires-clause-found : goal.reach_without-requires-clause-found
reach_without-requires-clause-found g c =
    let same = lifted_without (g.B.Board.stacks c.args.board.now) c.args.piece _ (sym c.spot.ensures.spot ∙ c.in-Some.is) c.requires.loose in
    subst (λ b. IsFound b c.args.side c.args.base.now) (sym (c.new.ensures ∙ same)) c.requires.found

pub reach_without-requires-clause-absent : goal.reach_without-requires-clause-absent
reach_without-requires-clause-absent g c = lifted_gone (g.B.Board.stacks c.args.board.now) c.args.piece _ (sym c.spot.ensures.spot ∙ c.in-Some.is) c.requires.loose c.spot.ensures.board _ c.new.ensures

pub reach_without-requires-clause-white : goal.reach_without-requires-clause-white
reach_without-requires-clause-white g c = lifted_open (g.B.Board.stacks c.args.board.now) c.args.piece _ (sym c.spot.ensures.spot ∙ c.in-Some.is) c.requires.loose c.spot.ensures.board _ c.new.ensures White c.requires.white

pub reach_without-requires-clause-black : goal.reach_without-requires-clause-black
reach_without-requires-clause-black g c = lifted_open (g.B.Board.stacks c.args.board.now) c.args.piece _ (sym c.spot.ensures.spot ∙ c.in-Some.is) c.requires.loose c.spot.ensures.board _ c.new.ensures Black c.requires.black

pub returns-in-Some-clause-reach : goal.returns-in-Some-clause-reach
returns-in-Some-clause-reach g c =
    let same = lifted_without (g.B.Board.stacks c.args.board.now) c.args.piece _ (sym c.spot.ensures.spot ∙ c.in-Some.is) c.requires.loose in
    reach_whole (g.B.Board.stacks c.args.board.now) (lift (g.B.Board.stacks c.new.result.board.now) c.new.result.piece) c.args.piece c.args.side c.reach_without.result c.reach_without.ensures.piece (c.new.ensures ∙ same) c.reach_without.ensures.reach

pub returns-in-None-clause-reach : goal.returns-in-None-clause-reach
returns-in-None-clause-reach g c =
    let b = g.B.Board.stacks c.args.board.now in
    let off = sym c.spot.ensures.spot ∙ c.in-None.is in
    reach_whole b b c.args.piece c.args.side c.reach_without-in-None.result c.reach_without-in-None.ensures.piece (sym (ap (without_at b) off)) c.reach_without-in-None.ensures.reach
