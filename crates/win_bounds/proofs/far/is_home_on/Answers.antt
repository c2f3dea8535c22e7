use Rattle.std.proofs.Common.{◌≡◌, Bool, true, false, ◌&&◌, refl, sym, ap, ◌∙◌}
use Rattle.std.specs.Prelude.{nat_eq}
use Rattle.std.proofs.lemmas.Bool.{eq-eqb, eqb-true, false_from_ne_true}
use Rattle.hive_model.specs.Boards.{spot_of}
use Rattle.hive_model.proofs.BoardLemmas.{spot_within}
use Rattle.hive_model.proofs.PlaceLemmas.{wider_on_board}
use Rattle.win_bounds.specs.FarFromWin.{is_far_place, is_home_spot}
use Rattle.win_bounds.proofs.far.is_home_on.Goals as goal

both_false : (a b : Bool) → a ≡ false → a ≡ (a && b)
both_false true b e = let wrong : true ≡ false = e in absurd (cc)
both_false false b e = refl

pub is_far_place-requires : goal.is_far_place-requires
is_far_place-requires g c =
    wider_on_board _ (spot_within (g.B.Board.stacks c.args.board.now) c.spot.ensures.board c.queen.result c.in-Some.spot (sym c.in-Some.ensures.spot))

pub returns-then-spot-eq0-clause-far : goal.returns-then-spot-eq0-clause-far
returns-then-spot-eq0-clause-far g c =
    let b = g.B.Board.stacks c.args.board.now in
    c.is_far_place.ensures ∙ ap (λ t. t && is_far_place b c.args.side c.in-Some.spot.place) (sym (eq-eqb c.in-Some.spot.level 0 c.if-spot-eq0.true))
    ∙ ap (is_home_spot b c.args.side) (sym c.in-Some.is ∙ c.spot.ensures.spot ∙ ap (spot_of b) c.queen.ensures)

pub returns-else-spot-eq0-clause-far : goal.returns-else-spot-eq0-clause-far
returns-else-spot-eq0-clause-far g c =
    let b = g.B.Board.stacks c.args.board.now in
    both_false (nat_eq c.in-Some.spot.level 0) (is_far_place b c.args.side c.in-Some.spot.place)
    (false_from_ne_true _ (λ e. c.if-spot-eq0.false (eqb-true c.in-Some.spot.level 0 e)))
    ∙ ap (is_home_spot b c.args.side) (sym c.in-Some.is ∙ c.spot.ensures.spot ∙ ap (spot_of b) c.queen.ensures)
