use Rattle.std.proofs.Common.{◌∙◌, ap₂, bit_or, refl}
use Rattle.arcs.specs.Masks.{arc_ends, is_first, is_last, mask_by, six}
use Rattle.arcs.proofs.EachMask.{same_at}
use Rattle.arcs.proofs.masks.arc_ends.Goals as goal

pub returns : goal.returns
returns c = ap₂ bit_or c.first_bits.ensures c.last_bits.ensures ∙ same_at (λ m. bit_or (mask_by (is_first m) six) (mask_by (is_last m) six)) arc_ends refl c.args.mask c.requires
