use Rattle.std.proofs.Common.{sym, ◌∙◌}
use Rattle.hive_model.proofs.PlaceLemmas.{same_place}
use Rattle.torus_board.proofs.RingLaws.{its_mask}
use Rattle.torus_board.proofs.rings.mask_in.Goals as goal

pub returns-then-is : goal.returns-then-is
returns-then-is c = record {
  mask = λ b high ringed. its_mask c.args.side b c.args.rings.now ringed c.args.place c.index_in.result c.index_in.ensures.index c.ring_in-ring.result c.ring_in-ring.ensures
      (same_place c.ring_in-ring.result.place c.args.place (sym c.is.ensures ∙ c.if-is.true));
}
