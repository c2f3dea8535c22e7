use Rattle.hive_model.specs.Steps.{GroundStep}
use Rattle.hive_model.proofs.PlaceLemmas.{wider}
use Rattle.bug_moves.proofs.AtHive.{ground_at_hive}
use Rattle.bug_moves.proofs.Gaining.{gains_toward, gains_no_slide, slide_step, slide_room, no_slide}
use Rattle.bug_moves.proofs.queens.SlideGroundWay.add.Goals as goal

pub step-to-requires : goal.step-to-requires
step-to-requires g c = wider _ c.requires.within

pub add_place-requires : goal.add_place-requires
add_place-requires g c =
    let b = g.B.Board.stacks c.args.board.now in
    record { room = slide_room b c.args.from c.args.slides c.args.dir c.step-to.result c.args.out.now.items c.requires.list c.requires.slides c.has_dir.ensures c.if-has_dir.true c.step-to.ensures }

pub returns-then-has_dir : goal.returns-then-has_dir
returns-then-has_dir g c =
    let b = g.B.Board.stacks c.args.board.now in
    let ground = slide_step b c.args.from c.args.slides c.args.dir c.step-to.result c.requires.slides c.has_dir.ensures c.if-has_dir.true c.step-to.ensures in
    gains_toward b (GroundStep b) c.args.from c.args.dir c.step-to.result c.args.out.now.items c.add_place.new.list.items c.requires.list (ground_at_hive b c.args.from c.step-to.result ground)
    c.step-to.ensures c.add_place.ensures ground

pub returns-else-has_dir : goal.returns-else-has_dir
returns-else-has_dir g c =
    let b = g.B.Board.stacks c.args.board.now in
    gains_no_slide b (GroundStep b) c.args.from c.args.dir c.args.out.now.items c.requires.list (λ q s. s) (no_slide b c.args.from c.args.slides c.args.dir c.requires.slides c.has_dir.ensures c.if-has_dir.false)
