use Rattle.std.proofs.Common.{bit_xor, ◌∙◌, ap, ℕ}
use Rattle.hive_model.specs.Neighbours.{weight}
use Rattle.torus_board.proofs.Turns.{mask_turned}
use Rattle.torus_board.proofs.rings.turned.Goals as goal

pub returns : goal.returns
returns c r s is here others =
    ap (bit_xor c.args.mask) c.bit.ensures.bit ∙ ap (λ (m : ℕ). bit_xor m (weight c.args.dir)) is ∙ mask_turned r s c.args.dir here others
