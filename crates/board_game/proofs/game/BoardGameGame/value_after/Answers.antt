use Rattle.std.proofs.Common.{◌≡◌, ℕ, List, sym, ◌∙◌, ap, subst}
use Rattle.std.specs.Prelude.{Some, IfSome, slice_get, vec_len}
use Rattle.hive_model.specs.Positions.{Position, opening}
use Rattle.hive_model.specs.Pieces.{other_side}
use Rattle.hive_model.specs.Games.{replay}
use Rattle.hive_model.specs.Minimax.{value}
use Rattle.rule_laws.specs.Soundness.{side_after}
use Rattle.rule_laws.proofs.Games.{games_count}
use Rattle.leaf_worth.specs.Hands.{IsPlainInHand}
use Rattle.board_game.specs.Asked.{IsKnown}
use Rattle.board_game.specs.declared.in_hand.Placed.{Placed}
use Rattle.board_game.proofs.AskLaws.{may_go, may_ask, then_is, turned_is}
use Rattle.board_game.proofs.PlacedLaws.{told_placed, more_placed, noted_worth}
use Rattle.board_game.proofs.game.BoardGameGame.value_after.Goals as goal

pub returns-in-Some-clause-value : goal.returns-in-Some-clause-value
returns-in-Some-clause-value g c =
    let i = c.self.inside in
    let v = c.self.invariant in
    let p = replay (opening i.game_type) i.made.items in
    let b = g.B.Board.stacks i.board in
    let t = c.in-Some.known in
    let plain : IsPlainInHand b c.in-To.piece = c.is_plain_in_hand-is_plain.ensures c.if-is_plain.true in
    let found = subst (λ o. IfSome o (λ (t : Placed). (k : ℕ) × (slice_get c.as_slice.result.now k ≡ Some t) × (t.place ≡ c.in-To.place))) c.in-Some.is c.noted.ensures in
    let there : slice_get i.placements.items found.0 ≡ Some t = ap (λ (l : List Placed). slice_get l found.0) (sym c.as_slice.ensures.value) ∙ found.1 in
    let side : other_side p.side ≡ other_side (side_after (vec_len i.made)) = ap other_side ((games_count i.game_type i.made.items).side ∙ ap side_after (sym i.made.ok.0)) in
    let told = noted_worth b (other_side (side_after (vec_len i.made))) t (v.10 found.0 t there) c.in-To.place found.2 p (sym v.0.board_is) side c.in-To.piece plain in
    subst (λ (a : Position). IfSome t.told (λ w. w ≡ value a 0)) (then_is i.game_type (g.B.Board.stacks i.board) i.made.items i.from.items i.spare i.count c.args.self.now c.args.m c.self.invariant.0 c.self.view_is c.in-To.piece c.in-To.place c.in-To.is) told

pub told_value-told-requires-clause-can : goal.told_value-told-requires-clause-can
told_value-told-requires-clause-can g c =
    let i = c.self.inside in
    may_go i.game_type (g.B.Board.stacks i.board) i.made.items i.from.items i.spare i.count c.args.self.now c.args.m c.self.invariant.0 c.self.view_is c.requires c.in-To.piece c.in-To.place c.in-To.is

pub told_value-told-requires-clause-known : goal.told_value-told-requires-clause-known
told_value-told-requires-clause-known g c =
    let i = c.self.inside in
    let side : c.other-side.result ≡ other_side (side_after (vec_len i.made)) = c.other-side.ensures ∙ ap other_side (c.side_after.ensures ∙ ap side_after c.len.ensures) in
    subst (λ z. IsKnown (g.B.Board.stacks i.board) z i.ahead) (sym side) c.self.invariant.9

pub told_value-told-requires-clause-may : goal.told_value-told-requires-clause-may
told_value-told-requires-clause-may g c =
    let i = c.self.inside in
    may_ask i.game_type (g.B.Board.stacks i.board) i.made.items i.from.items i.spare i.count c.args.self.now c.args.m c.self.invariant.0 c.self.view_is c.requires i.keeper c.self.invariant.5

pub returns-then-is_plain-2-clause-value : goal.returns-then-is_plain-2-clause-value
returns-then-is_plain-2-clause-value g c =
    let i = c.self.inside in
    let side = turned_is i.game_type i.made.items c.other-side.result c.len.result (c.other-side.ensures ∙ ap other_side c.side_after.ensures) (c.len.ensures ∙ i.made.ok.0) in
    let told = c.told_value-told.ensures.value (replay (opening i.game_type) i.made.items) (sym c.self.invariant.0.board_is) side in
    subst (λ (p : Position). IfSome c.told_value-told.result (λ v. v ≡ value p 0)) (then_is i.game_type (g.B.Board.stacks i.board) i.made.items i.from.items i.spare i.count c.args.self.now c.args.m c.self.invariant.0 c.self.view_is c.in-To.piece c.in-To.place c.in-To.is) told

pub returns-else-is_plain-2-clause-value : goal.returns-else-is_plain-2-clause-value
returns-else-is_plain-2-clause-value g c =
    let i = c.self.inside in
    let side = turned_is i.game_type i.made.items c.other-side.result c.len.result (c.other-side.ensures ∙ ap other_side c.side_after.ensures) (c.len.ensures ∙ i.made.ok.0) in
    let told = c.told_value-told.ensures.value (replay (opening i.game_type) i.made.items) (sym c.self.invariant.0.board_is) side in
    subst (λ (p : Position). IfSome c.told_value-told.result (λ v. v ≡ value p 0)) (then_is i.game_type (g.B.Board.stacks i.board) i.made.items i.from.items i.spare i.count c.args.self.now c.args.m c.self.invariant.0 c.self.view_is c.in-To.piece c.in-To.place c.in-To.is) told

pub invariant_of-self : goal.invariant_of-self
invariant_of-self g c =
    let i = c.self.inside in
    let v = c.self.invariant in
    let b = g.B.Board.stacks i.board in
    let s = other_side (side_after (vec_len i.made)) in
    let side : c.other-side.result ≡ s = c.other-side.ensures ∙ ap other_side (c.side_after.ensures ∙ ap side_after c.len.ensures) in
    let may = may_go i.game_type (g.B.Board.stacks i.board) i.made.items i.from.items i.spare i.count c.args.self.now c.args.m c.self.invariant.0 c.self.view_is c.requires c.in-To.piece c.in-To.place c.in-To.is in
    let plain : IsPlainInHand b c.in-To.piece = c.is_plain_in_hand-is_plain.ensures c.if-is_plain-2.true in
    let placed = told_placed b may.0 s c.in-To.piece c.in-To.place c.told_value-told.result plain may.3 (λ p on turned. c.told_value-told.ensures.value p on (turned ∙ sym side)) in (
      v.0,
      v.1,
      v.2,
      v.3,
      v.4,
      v.5,
      v.6,
      v.7,
      v.8,
      subst (λ z. IsKnown b z c.told_value-told.new.self) side c.told_value-told.ensures.known,
      more_placed b s i.placements.items c.note.new.placements.items (record { place = c.in-To.place; told = c.told_value-told.result }) v.10 placed c.note.ensures,
    )

pub invariant_of-self-else-is_plain-2 : goal.invariant_of-self-else-is_plain-2
invariant_of-self-else-is_plain-2 g c =
    let i = c.self.inside in
    let v = c.self.invariant in
    let b = g.B.Board.stacks i.board in
    let s = other_side (side_after (vec_len i.made)) in
    let side : c.other-side.result ≡ s = c.other-side.ensures ∙ ap other_side (c.side_after.ensures ∙ ap side_after c.len.ensures) in (
      v.0,
      v.1,
      v.2,
      v.3,
      v.4,
      v.5,
      v.6,
      v.7,
      v.8,
      subst (λ z. IsKnown b z c.told_value-told.new.self) side c.told_value-told.ensures.known,
      v.10,
    )
