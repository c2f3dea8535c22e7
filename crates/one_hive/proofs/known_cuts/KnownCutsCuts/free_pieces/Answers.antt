use Rattle.std.proofs.Common.{◌≡◌, ◌≢◌, ◌↔◌, ℕ, Bool, ◌∙◌, sym, ap, subst, arith, below_more}
use Rattle.std.specs.Prelude.{None, IsTrue}
use Rattle.hive_model.specs.Evaluation.{is_free_piece}
use Rattle.one_hive.specs.Visits.{IsSet}
use Rattle.one_hive.proofs.FreeMarks.{marks_mask}
use Rattle.one_hive.proofs.known_cuts.KnownCutsCuts.free_pieces.Goals as goal

pub loop-x-preserved : goal.loop-x-preserved
loop-x-preserved g c =
    let b = g.B.Board.stacks c.args.self.now.board.now in
    let free = is_free_piece b None in
    below_more _ _
    (λ y low.
    let apart : y ≢ c.at-in-loop-x.result = (λ e. let same : y ≡ c.loop-x.x = e ∙ c.at-in-loop-x.ensures in omega (arith, low, same)) in
    let kept = c.give.ensures.others y apart in
    let was = c.loop-x.invariant y low in
    (λ h. was.0 (kept.0 h), λ h. kept.1 (was.1 h)))
    (subst (λ (y : ℕ). IsSet c.give.new.self y ↔ IsTrue (free y)) c.at-in-loop-x.ensures
    (let is : c.is_free_among-is_free.result ≡ free c.at-in-loop-x.result = c.is_free_among-is_free.ensures ∙ ap free (c.at.ensures ∙ sym c.at-in-loop-x.ensures) in
    subst (λ (t : Bool). IsSet c.give.new.self c.at-in-loop-x.result ↔ IsTrue t) is c.give.ensures.given))

pub returns : goal.returns
returns g c =
    marks_mask c.bits.result _ (is_free_piece (g.B.Board.stacks c.args.self.now.board.now) None) c.bits.ensures.marks c.bits.ensures.few
    (λ y low. c.loop-x.invariant y (omega (arith, low, c.loop-x-test.false)))
