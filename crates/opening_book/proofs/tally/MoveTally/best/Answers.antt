use Rattle.std.proofs.Common.{◌≡◌, ◌<◌, subst, sym, ◌∙◌, ap, arith, length, List, ℕ, Some}
use Rattle.std.specs.Prelude.{slice_get}
use Rattle.opening_book.specs.Book.{Counts}
use Rattle.opening_book.specs.Plies.{IsMost}
use Rattle.opening_book.proofs.PlyLaws.{get_of_or}
use Rattle.opening_book.proofs.TallyLaws.{no_move, book_move}
use Rattle.opening_book.proofs.tally.MoveTally.best.Goals as goal

pub returns-then-most-eq0 : goal.returns-then-most-eq0
returns-then-most-eq0 c = λ p games h.
    let value : c.as_slice.result.now ≡ c.args.self.now.counts = c.as_slice.ensures.value ∙ ap (λ (t : Counts). t.counts) c.self.view_is in
    let most : IsMost c.args.self.now.counts (length c.args.self.now.counts) c.most_made-place.result.0 c.most_made-place.result.1 =
    subst (λ (xs : List ℕ). IsMost xs (length xs) c.most_made-place.result.0 c.most_made-place.result.1) value c.most_made-place.ensures in
    no_move p games c.args.self.now h c.most_made-place.result.0 c.most_made-place.result.1 most c.if-most-eq0.true

pub returns : goal.returns
returns c = λ p games h.
    let value : c.as_slice.result.now ≡ c.args.self.now.counts = c.as_slice.ensures.value ∙ ap (λ (t : Counts). t.counts) c.self.view_is in
    let moves : c.self.inside.moves.items ≡ c.args.self.now.moves = ap (λ (t : Counts). t.moves) c.self.view_is in
    let most : IsMost c.args.self.now.counts (length c.args.self.now.counts) c.most_made-place.result.0 c.most_made-place.result.1 =
    subst (λ (xs : List ℕ). IsMost xs (length xs) c.most_made-place.result.0 c.most_made-place.result.1) value c.most_made-place.ensures in
    let some : 0 < c.most_made-place.result.1 = omega (arith, c.if-most-eq0.false) in
    let at : slice_get c.self.inside.moves.items c.most_made-place.result.0 ≡ Some c.again.result =
    let here = c.most_made-place.ensures.here some in
    let low : c.most_made-place.result.0 < length c.self.inside.moves.items = omega (arith, here.0, ap length c.as_slice.ensures.value, c.self.invariant.long) in
    get_of_or c.self.inside.moves.items c.most_made-place.result.0 c.index.result.now low c.index.ensures ∙ ap Some (sym c.again.ensures) in
    book_move p games c.args.self.now h c.most_made-place.result.0 c.most_made-place.result.1 most c.again.result some (ap (λ ms. slice_get ms c.most_made-place.result.0) (sym moves) ∙ at)
