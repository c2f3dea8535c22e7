use Rattle.std.proofs.Common.{◌∙◌, sym, arith}
use Rattle.hive_model.specs.Boards.{lift}
use Rattle.legal_moves.proofs.Walking.{top_stands, spot_mapped, mosquito_many, itself_many}
use Rattle.legal_moves.proofs.walks.count_goes.Goals as goal

pub returns-in_default : goal.returns-in_default
returns-in_default g c = top_stands (g.B.Board.stacks c.args.board.now) c.args.piece c.spot.result c.spot.ensures.spot c.requires.top c.in_default.not-Some

pub mosquito_reach-requires-clause-within : goal.mosquito_reach-requires-clause-within
mosquito_reach-requires-clause-within g c =
    spot_mapped (g.B.Board.stacks c.args.board.now) c.args.piece c.in-Some.spot c.requires.board (sym c.spot.ensures.spot ∙ c.in-Some.is)

pub count_reach-requires : goal.count_reach-requires
count_reach-requires g c = record {
  kind = c.in_default-kind.not-Mosquito;
  within = spot_mapped (g.B.Board.stacks c.args.board.now) c.args.piece c.in-Some.spot c.requires.board (sym c.spot.ensures.spot ∙ c.in-Some.is);
}

pub returns-in-Mosquito : goal.returns-in-Mosquito
returns-in-Mosquito g c =
    let b = g.B.Board.stacks c.args.board.now in
    let lifted = c.new-lifted.result in
    let stands = sym c.spot.ensures.spot ∙ c.in-Some.is in
    mosquito_many b (lift (g.B.Board.stacks lifted.board.now) lifted.piece) c.args.piece c.in-Some.spot stands c.new-lifted.ensures c.len.result (sym c.kind.ensures ∙ c.in-Mosquito.is) (record {
      places = c.mosquito_reach.new.out.items;
      all = c.mosquito_reach.ensures;
      few = (let v = c.len.ensures.value in let f = c.len.ensures.fits in omega (arith, v, f));
      many = sym c.len.ensures.value;
    })

pub returns-in_default-kind : goal.returns-in_default-kind
returns-in_default-kind g c =
    let b = g.B.Board.stacks c.args.board.now in
    let lifted = c.new-lifted.result in
    let stands = sym c.spot.ensures.spot ∙ c.in-Some.is in
    itself_many b (lift (g.B.Board.stacks lifted.board.now) lifted.piece) c.args.piece c.in-Some.spot stands c.new-lifted.ensures c.count_reach.result c.kind.result c.kind.ensures c.in_default-kind.not-Mosquito c.count_reach.ensures
