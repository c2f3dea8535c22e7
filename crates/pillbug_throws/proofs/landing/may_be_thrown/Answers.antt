use Rattle.std.proofs.Common.{◌≡◌, ◌∙◌, sym, subst, true, false, Some}
use Rattle.hive_model.specs.declared.places.Spot.{Spot}
use Rattle.hive_model.proofs.PlaceLemmas.{wider_on_board}
use Rattle.hive_model.proofs.BoardLemmas.{spot_within}
use Rattle.pillbug_throws.specs.Throwing.{IsLoose}
use Rattle.pillbug_throws.proofs.ThrowParts.{spot_occupied}
use Rattle.pillbug_throws.proofs.Closeness.{neighbours_close}
use Rattle.pillbug_throws.proofs.landing.may_be_thrown.Goals as goal

pub is_close-requires-clause-other : goal.is_close-requires-clause-other
is_close-requires-clause-other g c = wider_on_board c.in-Some.from.place (spot_within (g.B.Board.stacks c.args.board.now) c.in-Some.ensures.board c.args.piece c.in-Some.from (sym c.in-Some.ensures.spot))

pub is_loose-requires-clause-occupied : goal.is_loose-requires-clause-occupied
is_loose-requires-clause-occupied g c = spot_occupied (g.B.Board.stacks c.args.board.now) c.args.piece c.in-Some.from (sym c.in-Some.ensures.spot)

pub returns-then-not-is_close : goal.returns-then-not-is_close
returns-then-not-is_close g c = (
  λ e. let wrong : false ≡ true = e in absurd (cc),
  λ (a, stands, loose).
      let e : Some c.in-Some.from ≡ Some a = c.in-Some.ensures.spot ∙ stands in
      let same : a ≡ c.in-Some.from = cc in
      let here = subst (λ (s : Spot). IsLoose (g.B.Board.stacks c.args.board.now) c.args.rest c.args.over c.args.piece s.place) same loose in
      let wrong : false ≡ true = sym c.if-not-is_close.true ∙ c.is_close.ensures (neighbours_close c.args.over c.in-Some.from.place here.beside) in absurd (cc),
)

pub returns : goal.returns
returns g c = (
  λ e. (c.in-Some.from, sym c.in-Some.ensures.spot, c.is_loose.ensures.0 e),
  λ (a, stands, loose).
      let e : Some c.in-Some.from ≡ Some a = c.in-Some.ensures.spot ∙ stands in
      let same : a ≡ c.in-Some.from = cc in
      c.is_loose.ensures.1 (subst (λ (s : Spot). IsLoose (g.B.Board.stacks c.args.board.now) c.args.rest c.args.over c.args.piece s.place) same loose),
)
