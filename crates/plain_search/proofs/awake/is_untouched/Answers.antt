use Rattle.std.proofs.Common.{sym, ◌∙◌, ap, subst, arith, refl, ℕ, ◌≤◌, ◌≡◌}
use Rattle.std.specs.Prelude.{Some}
use Rattle.hive_model.specs.declared.pieces.Kind.TheVariants.{Mosquito, Pillbug}
use Rattle.hive_model.specs.Boards.{Stacks, IsBoard, spot_of}
use Rattle.hive_model.specs.Pieces.{IsNumber, piece_of, other_side}
use Rattle.hive_model.specs.Histories.{position}
use Rattle.plain_search.proofs.MetLaws.{apart_rest, some_piece, other_colour}
use Rattle.plain_search.proofs.awake.is_untouched.Goals as goal

pub returns-then-is_apart : goal.returns-then-is_apart
returns-then-is_apart g c = λ h.
    let p = position (g.G.Game.history c.args.game.now) in
    let pillbug : c.new.result ≡ Some (piece_of c.side-side.result Pillbug 0) = some_piece c.new.result (IsNumber Pillbug 0) _ c.new.ensures (omega arith, λ _. refl) in
    let mosquito : c.new-then-is_apart.result ≡ Some (piece_of c.side-side.result Mosquito 0) = some_piece c.new-then-is_apart.result (IsNumber Mosquito 0) _ c.new-then-is_apart.ensures (omega arith, λ _. refl) in
    let board = g.met.G.Game.on_board c.args.game.now in
    let theirs = other_colour _ _ (sym c.is.ensures ∙ c.if-is.false) in
    apart_rest p c.args.rest c.in-Some.spot (subst IsBoard board c.in-Some.ensures.board) c.requires (sym c.colour.ensures ∙ theirs ∙ ap other_side c.side-side.ensures)
    (ap (λ (b : Stacks). spot_of b c.args.rest) (sym board) ∙ sym c.in-Some.ensures.spot)
    (λ t at. c.is_apart.ensures c.if-is_apart.true _ t (pillbug ∙ ap (λ d. Some (piece_of d Pillbug 0)) c.side-side.ensures) at)
    (λ t at. c.is_apart-then-is_apart.ensures h _ t (mosquito ∙ ap (λ d. Some (piece_of d Mosquito 0)) c.side-side.ensures) at)
