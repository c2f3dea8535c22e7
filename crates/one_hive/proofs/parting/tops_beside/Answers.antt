use Rattle.std.proofs.Common.{false, refl, subst, [], ◌∷◌}
use Rattle.std.specs.Prelude.{replicate}
use Rattle.hive_model.specs.declared.places.Dir.TheVariants.{E, NE, NW, W, SW, SE}
use Rattle.hive_model.specs.Places.{step}
use Rattle.one_hive.specs.Visits.{IsSet}
use Rattle.one_hive.proofs.Marking.{none_set}
use Rattle.one_hive.proofs.RoundLaws.{tops_none, tops_more, tops_all, every_dir}
use Rattle.one_hive.proofs.parting.tops_beside.Goals as goal

pub returns : goal.returns
returns g c =
    let b = g.B.Board.stacks c.args.board.now in
    let q = c.args.place in
    let none = tops_none b q c.new-marks.result (λ x h. none_set (replicate 28 false) refl x (subst (λ ms. IsSet ms x) c.new-marks.ensures h)) in
    let one = tops_more b q [] E (step q E) c.new-marks.result c.mark_toward.new.marks refl none c.mark_toward.ensures in
    let two = tops_more b q (E ∷ []) NE (step q NE) c.mark_toward.new.marks c.mark_toward-2.new.marks refl one c.mark_toward-2.ensures in
    let three = tops_more b q (NE ∷ E ∷ []) NW (step q NW) c.mark_toward-2.new.marks c.mark_toward-3.new.marks refl two c.mark_toward-3.ensures in
    let four = tops_more b q (NW ∷ NE ∷ E ∷ []) W (step q W) c.mark_toward-3.new.marks c.mark_toward-4.new.marks refl three c.mark_toward-4.ensures in
    let five = tops_more b q (W ∷ NW ∷ NE ∷ E ∷ []) SW (step q SW) c.mark_toward-4.new.marks c.mark_toward-5.new.marks refl four c.mark_toward-5.ensures in
    let six = tops_more b q (SW ∷ W ∷ NW ∷ NE ∷ E ∷ []) SE (step q SE) c.mark_toward-5.new.marks c.mark_toward-6.new.marks refl five c.mark_toward-6.ensures in
    tops_all b q (SE ∷ SW ∷ W ∷ NW ∷ NE ∷ E ∷ []) c.mark_toward-6.new.marks every_dir six
