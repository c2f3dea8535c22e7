use Rattle.std.proofs.Common.{sym, ◌∙◌}
use Rattle.hive_model.proofs.PlaceLemmas.{same_place, wider}
use Rattle.bug_moves.proofs.AtHive.{ground_at_hive, apart}
use Rattle.bug_moves.proofs.Gaining.{gains_toward, gains_no_step, gains_no_slide, slide_step, slide_room, no_slide}
use Rattle.bug_moves.specs.Ways.{ThirdStep}
use Rattle.bug_moves.proofs.spiders.ThirdGroundWay.add.Goals.{then-is-via-then-is, then-is-via-else-is+then-is-2}
use Rattle.bug_moves.proofs.spiders.ThirdGroundWay.add.Goals as goal

pub step-to-requires : goal.step-to-requires
step-to-requires g c = wider _ c.requires.within

pub returns-then-not-has_dir : goal.returns-then-not-has_dir
returns-then-not-has_dir g c =
    let b = g.B.Board.stacks c.args.board.now in
    gains_no_slide b (ThirdStep b c.args.self.now.start c.args.self.now.first) c.args.from c.args.dir c.args.out.now.items c.requires.list (λ q s. s.0)
    (no_slide b c.args.from c.args.slides c.args.dir c.requires.slides c.has_dir.ensures c.if-not-has_dir.true)

pub returns-then-is : goal.returns-then-is
returns-then-is g c =
    let b = g.B.Board.stacks c.args.board.now in
    gains_no_step b (ThirdStep b c.args.self.now.start c.args.self.now.first) c.args.from c.args.dir c.step-to.result c.args.out.now.items c.requires.list c.step-to.ensures
    (λ (ground, first, second). elim c.then-is.branch [
      | then-is-via-then-is w ↦ absurd (first (sym (same_place c.step-to.result c.args.self.now.start (sym c.is.ensures ∙ w.if-is.true))))
      | then-is-via-else-is+then-is-2 w ↦ absurd (second (sym (same_place c.step-to.result c.args.self.now.first (sym w.is-else-is.ensures ∙ w.if-is-2.true))))
    ])

pub add_place-requires : goal.add_place-requires
add_place-requires g c =
    let b = g.B.Board.stacks c.args.board.now in
    record { room = slide_room b c.args.from c.args.slides c.args.dir c.step-to.result c.args.out.now.items c.requires.list c.requires.slides c.has_dir.ensures c.if-not-has_dir.false c.step-to.ensures }

pub returns : goal.returns
returns g c =
    let b = g.B.Board.stacks c.args.board.now in
    let ground = slide_step b c.args.from c.args.slides c.args.dir c.step-to.result c.requires.slides c.has_dir.ensures c.if-not-has_dir.false c.step-to.ensures in
    gains_toward b (ThirdStep b c.args.self.now.start c.args.self.now.first) c.args.from c.args.dir c.step-to.result c.args.out.now.items c.add_place.new.list.items c.requires.list (ground_at_hive b c.args.from c.step-to.result ground)
    c.step-to.ensures c.add_place.ensures
    (ground, apart c.step-to.result c.args.self.now.start c.is.ensures c.if-is.false, apart c.step-to.result c.args.self.now.first c.is-else-is.ensures c.if-is-2.false)
