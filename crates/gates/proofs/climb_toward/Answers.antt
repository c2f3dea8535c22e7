use Rattle.std.proofs.Common.{◌∙◌, sym}
use Rattle.std.proofs.lemmas.Bool.{not-true, not_from_false}
use Rattle.gates.proofs.Toward.{free_toward, toward_free}
use Rattle.gates.proofs.climb_toward.Goals as goal

pub returns : goal.returns
returns g c =
    let b = g.B.Board.stacks c.args.board.now in (
      λ h. free_toward b c.args.from c.args.dir c.args.to c.requires.leads (sym c.is_blocked.ensures ∙ not-true _ h),
      λ h. not_from_false _ (c.is_blocked.ensures ∙ toward_free b c.args.from c.args.dir c.args.to c.requires.leads h),
    )
