use Rattle.std.proofs.Common.{refl, sym, ◌∙◌}
use Rattle.std.proofs.lemmas.Bool.{iff_false}
use Rattle.hive_model.proofs.PlaceLemmas.{same_place}
use Rattle.bug_moves.proofs.AtHive.{climb_at_hive, apart}
use Rattle.bug_moves.proofs.Gaining.{gains_toward, gains_no_step}
use Rattle.bug_moves.proofs.HopLaws.{occupied_not}
use Rattle.bug_moves.proofs.TakenLaws.{is_taken, is_empty}
use Rattle.bug_moves.specs.Ways.{StepDown}
use Rattle.hive_model.specs.Places.{step}
use Rattle.bug_moves.proofs.ladybugs.DownWay.add.Goals as goal

pub returns-then-has_dir : goal.returns-then-has_dir
returns-then-has_dir g c =
    let b = g.B.Board.stacks c.args.board.now in
    let to = step c.args.from c.args.dir in
    gains_no_step b (StepDown b c.args.self.now.start) c.args.from c.args.dir to c.args.out.now.items c.requires.list refl
    (λ s. absurd (occupied_not b to s.0 (is_taken b c.args.from c.args.dir to c.args.taken c.requires.taken refl c.has_dir.ensures c.if-has_dir.true)))

pub returns-then-is : goal.returns-then-is
returns-then-is g c =
    let b = g.B.Board.stacks c.args.board.now in
    gains_no_step b (StepDown b c.args.self.now.start) c.args.from c.args.dir c.step-to.result c.args.out.now.items c.requires.list c.step-to.ensures
    (λ s. absurd (s.1 (sym (same_place c.step-to.result c.args.self.now.start (sym c.is.ensures ∙ c.if-is.true)))))

pub returns-then-not-may_climb_amid : goal.returns-then-not-may_climb_amid
returns-then-not-may_climb_amid g c =
    let b = g.B.Board.stacks c.args.board.now in
    gains_no_step b (StepDown b c.args.self.now.start) c.args.from c.args.dir c.step-to.result c.args.out.now.items c.requires.list c.step-to.ensures
    (λ s. absurd (iff_false c.may_climb_amid.ensures c.if-not-may_climb_amid.true s.2))

pub returns : goal.returns
returns g c =
    let b = g.B.Board.stacks c.args.board.now in
    let climb = c.may_climb_amid.ensures.0 c.if-not-may_climb_amid.false in
    gains_toward b (StepDown b c.args.self.now.start) c.args.from c.args.dir c.step-to.result c.args.out.now.items c.add_place.new.list.items c.requires.list (climb_at_hive b c.args.from c.step-to.result climb)
    c.step-to.ensures c.add_place.ensures
    (is_empty b c.args.from c.args.dir c.step-to.result c.args.taken c.requires.taken c.step-to.ensures c.has_dir.ensures c.if-has_dir.false, apart c.step-to.result c.args.self.now.start c.is.ensures c.if-is.false, climb)
