use Rattle.std.proofs.Common.{◌∙◌, ap, count_ones, refl}
use Rattle.arcs.specs.Masks.{arcs, is_first, mask_by, six}
use Rattle.arcs.proofs.EachMask.{same_at}
use Rattle.arcs.proofs.masks.arcs.Goals as goal

pub returns : goal.returns
unfolding lib.Count.ones
returns c = ap count_ones c.first_bits.ensures ∙ same_at (λ m. count_ones (mask_by (is_first m) six)) arcs refl c.args.mask c.requires
