use Rattle.hive_model.specs.Boards.{is_occupied}
use Rattle.hive_model.specs.Neighbours.{ring}
use Rattle.gates.proofs.Toward.{slides_amid_ring}
use Rattle.gates.proofs.slides.slides_from_empty.Goals as goal

pub returns-clause-slides : goal.returns-clause-slides
returns-clause-slides g c =
    let b = g.B.Board.stacks c.args.board.now in
    slides_amid_ring b c.args.from c.slides_amid.result c.requires.empty (c.slides_amid.ensures.slides (ring (is_occupied b) c.args.from) c.neighbours.ensures.mask)
