use Rattle.std.proofs.Common.{◌≡◌, Bool, true, false, sym, ◌∙◌, ap}
use Rattle.std.specs.Prelude.{Some, slice_get}
use Rattle.cut_keeper.specs.Keeping.{Kept}
use Rattle.cut_keeper.proofs.KeepingLaws.{unmarked_uncut, marked_cut}
use Rattle.cut_keeper.proofs.keeper.CutKeeper.is_cut_below.Goals as goal

pub returns-then-not-is_set : goal.returns-then-not-is_set
returns-then-not-is_set g c = (
  λ h. let wrong : false ≡ true = h in absurd (cc),
  λ cut. absurd (unmarked_uncut (g.B.Board.stacks c.args.board.now) c.args.self.now.marks c.args.place c.args.top c.requires.keeps.1 c.requires.top
      (ap (λ (k : Kept). slice_get k.marks c.args.top) (sym c.self.view_is) ∙ c.is_set.ensures ∙ ap (λ (t : Bool). Some t) c.if-not-is_set.true) cut),
)

pub returns : goal.returns
returns g c =
    marked_cut (g.B.Board.stacks c.args.board.now) c.args.self.now.marks c.args.place c.args.top c.height.result c.requires.keeps.1 c.height.ensures c.requires.top
    (ap (λ (k : Kept). slice_get k.marks c.args.top) (sym c.self.view_is) ∙ c.is_set.ensures ∙ ap (λ (t : Bool). Some t) c.if-not-is_set.false)
