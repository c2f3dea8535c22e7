use Rattle.std.proofs.Common.{◌≡◌, false, sym, ◌∙◌}
use Rattle.hive_model.specs.Boards.{is_occupied}
use Rattle.hive_model.specs.Neighbours.{ring}
use Rattle.cut_keeper.specs.Rings.{is_suspect}
use Rattle.leaf_worth.proofs.SpotsAfter.{all_dirs}
use Rattle.quiet_reply.proofs.places.all_are_ends.Goals as goal

pub returns : goal.returns
returns c b p e t =
    let r = ring (is_occupied b) p in
    all_dirs (λ d. is_suspect r d ≡ false) (sym (c.is_suspect.ensures r e) ∙ c.if-is_suspect.false) (sym (c.is_suspect-2.ensures r e) ∙ c.if-is_suspect-2.false) (sym (c.is_suspect-3.ensures r e) ∙ c.if-is_suspect-3.false)
    (sym (c.is_suspect-4.ensures r e) ∙ c.if-is_suspect-4.false) (sym (c.is_suspect-5.ensures r e) ∙ c.if-is_suspect-5.false) (sym (c.is_suspect-6.ensures r e) ∙ c.if-is_suspect-6.false)
