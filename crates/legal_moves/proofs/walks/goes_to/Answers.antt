use Rattle.std.proofs.Common.{◌∙◌, sym}
use Rattle.hive_model.specs.Boards.{lift}
use Rattle.legal_moves.proofs.Walking.{top_stands, spot_mapped, mosquito_goes, itself_goes}
use Rattle.legal_moves.proofs.walks.goes_to.Goals as goal

pub returns-in_default : goal.returns-in_default
returns-in_default g c = top_stands (g.B.Board.stacks c.args.board.now) c.args.piece c.spot.result c.spot.ensures.spot c.requires.top c.in_default.not-Some

pub copies_to-requires : goal.copies_to-requires
copies_to-requires g c = spot_mapped (g.B.Board.stacks c.args.board.now) c.args.piece c.in-Some.spot c.requires.board (sym c.spot.ensures.spot ∙ c.in-Some.is)

pub reaches-requires : goal.reaches-requires
reaches-requires g c = record {
  kind = c.in_default-kind.not-Mosquito;
  within = spot_mapped (g.B.Board.stacks c.args.board.now) c.args.piece c.in-Some.spot c.requires.board (sym c.spot.ensures.spot ∙ c.in-Some.is);
}

pub returns-in-Mosquito : goal.returns-in-Mosquito
returns-in-Mosquito g c =
    let b = g.B.Board.stacks c.args.board.now in
    let lifted = c.new-lifted.result in
    let stands = sym c.spot.ensures.spot ∙ c.in-Some.is in
    mosquito_goes b (lift (g.B.Board.stacks lifted.board.now) lifted.piece) c.args.piece c.in-Some.spot stands c.new-lifted.ensures c.args.place (sym c.kind.ensures ∙ c.in-Mosquito.is) c.copies_to.result c.copies_to.ensures

pub returns-in_default-kind : goal.returns-in_default-kind
returns-in_default-kind g c =
    let b = g.B.Board.stacks c.args.board.now in
    let lifted = c.new-lifted.result in
    let stands = sym c.spot.ensures.spot ∙ c.in-Some.is in
    itself_goes b (lift (g.B.Board.stacks lifted.board.now) lifted.piece) c.args.piece c.in-Some.spot stands c.new-lifted.ensures c.args.place c.kind.result c.kind.ensures c.in_default-kind.not-Mosquito c.reaches.result c.reaches.ensures
