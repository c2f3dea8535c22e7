use Rattle.std.proofs.Common.{◌-◌, ◌*◌, ◌/◌, ◌%◌, bit_and, bit_or, refl}
use Rattle.arcs.specs.Masks.{is_last, mask_by, six}
use Rattle.arcs.proofs.EachMask.{same_at}
use Rattle.arcs.proofs.masks.last_bits.Goals as goal

pub returns : goal.returns
returns c = same_at (λ m. bit_and m (255 - bit_or (m / 2) (m * 32 % 256))) (λ m. mask_by (is_last m) six) refl c.args.mask c.requires
