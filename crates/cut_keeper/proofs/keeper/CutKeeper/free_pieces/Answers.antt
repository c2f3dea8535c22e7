use Rattle.std.proofs.Common.{◌∙◌, ap}
use Rattle.cut_keeper.specs.Keeping.{Kept}
use Rattle.cut_keeper.proofs.TopLaws.{free_from}
use Rattle.cut_keeper.proofs.keeper.CutKeeper.free_pieces.Goals as goal

pub returns : goal.returns
returns g c =
    let k = c.args.self.now in
    free_from (g.B.Board.stacks c.args.board.now) c.lemma_board.ensures c.bits.result c.bits-2.result c.bits-3.result k.tops k.high k.marks
    (c.bits.ensures.marks ∙ ap (λ (v : Kept). v.tops) c.self.view_is) (c.bits-2.ensures.marks ∙ ap (λ (v : Kept). v.high) c.self.view_is) (c.bits-3.ensures.marks ∙ ap (λ (v : Kept). v.marks) c.self.view_is)
    c.bits.ensures.few c.bits-3.ensures.few c.requires.2 c.requires.3 c.requires.1
