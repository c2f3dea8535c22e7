use Rattle.std.proofs.Common.{sym, ◌∙◌, subst}
use Rattle.hive_model.specs.Steps.{GroundStep}
use Rattle.bug_moves.proofs.reaching.slides_to.Goals as goal

pub returns : goal.returns
returns g c =
    let b = g.B.Board.stacks c.args.board.now in
    let slides = c.slides_from.ensures.slides c.in-Some.dir in (
      (λ e. subst (GroundStep b c.args.from) c.in-Some.ensures.some (slides.0 (sym c.has_dir.ensures ∙ e))),
      (λ ground. c.has_dir.ensures ∙ slides.1 (subst (GroundStep b c.args.from) (sym c.in-Some.ensures.some) ground)),
    )
