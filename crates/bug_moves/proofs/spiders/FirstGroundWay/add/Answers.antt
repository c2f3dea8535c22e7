use Rattle.hive_model.specs.Steps.{GroundStep}
use Rattle.hive_model.proofs.PlaceLemmas.{wider}
use Rattle.bug_moves.specs.Ways.{SecondToward}
use Rattle.bug_moves.proofs.Gaining.{ground_within, gains_onward, gains_not_onward, slide_step, no_slide}
use Rattle.bug_moves.proofs.spiders.FirstGroundWay.add.Goals as goal

pub step-to-requires : goal.step-to-requires
step-to-requires g c = wider _ c.requires.within

pub add_slides-requires-clause-within : goal.add_slides-requires-clause-within
add_slides-requires-clause-within g c =
    let b = g.B.Board.stacks c.args.board.now in
    ground_within b c.args.from c.step-to.result c.args.out.now.items c.requires.list (slide_step b c.args.from c.args.slides c.args.dir c.step-to.result c.requires.slides c.has_dir.ensures c.if-has_dir.true c.step-to.ensures)

pub returns-then-has_dir : goal.returns-then-has_dir
returns-then-has_dir g c =
    let b = g.B.Board.stacks c.args.board.now in
    gains_onward b (GroundStep b c.args.from) (SecondToward b c.args.from) c.args.from c.args.dir c.step-to.result c.args.out.now.items c.add_slides.new.out.items c.step-to.ensures (slide_step b c.args.from c.args.slides c.args.dir c.step-to.result c.requires.slides c.has_dir.ensures c.if-has_dir.true c.step-to.ensures) c.add_slides.ensures

pub returns-else-has_dir : goal.returns-else-has_dir
returns-else-has_dir g c =
    let b = g.B.Board.stacks c.args.board.now in
    gains_not_onward b (GroundStep b c.args.from) (SecondToward b c.args.from) c.args.from c.args.dir c.args.out.now.items c.requires.list
    (no_slide b c.args.from c.args.slides c.args.dir c.requires.slides c.has_dir.ensures c.if-has_dir.false)
