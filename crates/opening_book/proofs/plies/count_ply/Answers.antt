use Rattle.std.proofs.Common.{◌≡◌, ◌≢◌, ℕ, ◌+◌, sym, ◌∙◌, ap, arith, Some}
use Rattle.std.specs.Prelude.{slice_get, slice_index}
use Rattle.hive_model.specs.declared.places.Move.{Move}
use Rattle.hive_model.proofs.GetLemmas.{get_within}
use Rattle.opening_book.specs.Plies.{is_taken_to, one_if}
use Rattle.opening_book.proofs.PlyLaws.{get_of_or, count_next, set_here, set_others}
use Rattle.opening_book.proofs.plies.count_ply.Goals.{then-is_taken_to, else-is_taken_to}
use Rattle.opening_book.proofs.plies.count_ply.Goals as goal

pub loop-i-preserved : goal.loop-i-preserved
loop-i-preserved c =
    let moves = c.args.moves.now in
    let bit = λ (m : Move). one_if (is_taken_to c.args.shifts.now c.args.played.now m) in
    let i = c.loop-i.i in
    let now = c.loop-i.counts in
    let x = c.index-moves-i.result in
    let at : slice_get moves i ≡ Some x = get_of_or moves i x c.loop-i-test.true c.index-moves-i.is in
    let h = c.loop-i.invariant in
    elim c.if-is_taken_to.branch [
      | then-is_taken_to w ↦
          let next = c.if-is_taken_to.counts in
          let here : slice_index next i ≡ slice_index now i + bit x =
          ap (λ xs. slice_index xs i) w.counts-is ∙ set_here now i (slice_index now i + 1) (omega (arith, c.loop-i-test.true, c.loop-i.auto.counts, c.requires.long)) ∙ ap (λ b. slice_index now i + one_if b) (sym (sym c.is_taken_to.ensures ∙ w.if-is_taken_to.true)) in
          let others : (j : ℕ) → j ≢ i → slice_index next j ≡ slice_index now j = λ j other. ap (λ xs. slice_index xs j) w.counts-is ∙ set_others now i (slice_index now i + 1) j other in
          record {
            done = count_next moves c.args.counts.now now next i bit x at h.done h.left here others;
            left = λ j up. others j (λ e. absurd (omega (arith, up, e))) ∙ h.left j (omega (arith, up));
          }
      | else-is_taken_to w ↦
          let next = c.if-is_taken_to.counts in
          let here : slice_index next i ≡ slice_index now i + bit x =
          let none : bit x ≡ 0 = ap one_if (sym c.is_taken_to.ensures ∙ w.if-is_taken_to.false) in
          let same : slice_index next i ≡ slice_index now i = ap (λ xs. slice_index xs i) w.counts-is in
          omega (arith, none, same) in
          let others : (j : ℕ) → j ≢ i → slice_index next j ≡ slice_index now j = λ j other. ap (λ xs. slice_index xs j) w.counts-is in
          record {
            done = count_next moves c.args.counts.now now next i bit x at h.done h.left here others;
            left = λ j up. others j (λ e. absurd (omega (arith, up, e))) ∙ h.left j (omega (arith, up));
          }
    ]

pub returns : goal.returns
returns c = λ j m e. c.loop-i.invariant.done j m (omega (arith, get_within c.args.moves.now j m e, c.loop-i-test.false)) e
