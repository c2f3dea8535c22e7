use Rattle.certificate_indices.proofs.WriteLaws.{child-kept}
use Rattle.certificate_indices.proofs.writing.is_kept_below.Goals as goal

pub returns-clause-kept : goal.returns-clause-kept
returns-clause-kept g c = child-kept _ _ c.args.m c.args.depth c.args.limit c.is_kept-kept.result c.play.ensures.moved c.is_kept-kept.ensures.kept
