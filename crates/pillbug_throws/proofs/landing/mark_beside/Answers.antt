use Rattle.std.proofs.Common.{◌≤◌, ◌<◌, length, inl, inr, sym, ◌∙◌, ap, arith}
use Rattle.hive_model.specs.declared.places.Dir.TheVariants.{E}
use Rattle.hive_model.specs.Places.{step, dirs}
use Rattle.hive_model.specs.Boards.{top_at}
use Rattle.hive_model.proofs.RuleLaws.{dir_on}
use Rattle.one_hive.proofs.Walking.{on_take_next}
use Rattle.pillbug_throws.proofs.ThrowParts.{loose_top, whole}
use Rattle.pillbug_throws.proofs.landing.mark_beside.Goals as goal

pub loop-dir-init : goal.loop-dir-init
loop-dir-init g c = record { beside = λ d on. absurd on; kept = λ x set. set }

pub loop-dir-preserved : goal.loop-dir-preserved
loop-dir-preserved g c =
    let b = g.B.Board.stacks c.args.board.now in
    let low : c.loop-dir.dir-index < length dirs = omega (arith, c.loop-dir-test.true) in
    record {
      beside = λ d on x top. elim (on_take_next dirs c.loop-dir.dir-index E d low on) [
        | inl before ↦ (c.mark_top.ensures x).1 (inr (c.loop-dir.invariant.beside d before x top))
        | inr this ↦ (c.mark_top.ensures x).1 (inl (ap (top_at b) (c.step.ensures ∙ ap (step c.args.over) (sym this)) ∙ top))
      ];
      kept = λ x set. (c.mark_top.ensures x).1 (inr (c.loop-dir.invariant.kept x set));
    }

pub returns-clause-beside : goal.returns-clause-beside
returns-clause-beside g c rest x loose =
    let (d, top) = loose_top (g.B.Board.stacks c.args.board.now) rest c.args.over x loose in
    let most : length dirs ≤ c.loop-dir.dir-index = omega (arith, c.loop-dir-test.false) in
    c.loop-dir.invariant.beside d (whole dirs c.loop-dir.dir-index most d (dir_on d)) x top
