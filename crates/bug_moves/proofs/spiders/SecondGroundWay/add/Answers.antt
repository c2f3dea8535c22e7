use Rattle.std.proofs.Common.{sym, ◌∙◌}
use Rattle.hive_model.proofs.PlaceLemmas.{same_place, wider}
use Rattle.bug_moves.proofs.AtHive.{apart}
use Rattle.bug_moves.specs.Ways.{StepAway, ThirdToward}
use Rattle.bug_moves.proofs.Gaining.{ground_within, gains_onward, gains_not_onward, slide_step, no_slide}
use Rattle.bug_moves.proofs.spiders.SecondGroundWay.add.Goals as goal

pub step-to-requires : goal.step-to-requires
step-to-requires g c = wider _ c.requires.within

pub returns-then-not-has_dir : goal.returns-then-not-has_dir
returns-then-not-has_dir g c =
    let b = g.B.Board.stacks c.args.board.now in
    gains_not_onward b (StepAway b c.args.self.now.start c.args.from) (ThirdToward b c.args.self.now.start c.args.from) c.args.from c.args.dir c.args.out.now.items c.requires.list
    (λ s. no_slide b c.args.from c.args.slides c.args.dir c.requires.slides c.has_dir.ensures c.if-not-has_dir.true s.1)

pub returns-then-is : goal.returns-then-is
returns-then-is g c =
    let b = g.B.Board.stacks c.args.board.now in
    gains_not_onward b (StepAway b c.args.self.now.start c.args.from) (ThirdToward b c.args.self.now.start c.args.from) c.args.from c.args.dir c.args.out.now.items c.requires.list
    (λ s. s.0 (sym (same_place c.step-to.result c.args.self.now.start (sym c.is.ensures ∙ c.if-is.true)) ∙ c.step-to.ensures))

pub add_slides-requires-clause-within : goal.add_slides-requires-clause-within
add_slides-requires-clause-within g c =
    let b = g.B.Board.stacks c.args.board.now in
    ground_within b c.args.from c.step-to.result c.args.out.now.items c.requires.list (slide_step b c.args.from c.args.slides c.args.dir c.step-to.result c.requires.slides c.has_dir.ensures c.if-not-has_dir.false c.step-to.ensures)

pub returns : goal.returns
returns g c =
    let b = g.B.Board.stacks c.args.board.now in
    gains_onward b (StepAway b c.args.self.now.start c.args.from) (ThirdToward b c.args.self.now.start c.args.from) c.args.from c.args.dir c.step-to.result c.args.out.now.items c.add_slides.new.out.items c.step-to.ensures
    (apart c.step-to.result c.args.self.now.start c.is.ensures c.if-is.false, slide_step b c.args.from c.args.slides c.args.dir c.step-to.result c.requires.slides c.has_dir.ensures c.if-not-has_dir.false c.step-to.ensures) c.add_slides.ensures
