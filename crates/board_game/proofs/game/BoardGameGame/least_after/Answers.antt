use Rattle.std.proofs.Common.{◌≡◌, ◌≤ℤ◌, sym, ◌∙◌, ap, subst}
use Rattle.std.specs.Prelude.{IfSome, vec_len}
use Rattle.hive_model.specs.Positions.{Position, opening}
use Rattle.hive_model.specs.Pieces.{other_side}
use Rattle.hive_model.specs.Games.{replay}
use Rattle.hive_model.specs.Minimax.{value}
use Rattle.rule_laws.specs.Soundness.{side_after}
use Rattle.board_game.specs.Asked.{IsKnown}
use Rattle.board_game.proofs.AskLaws.{may_go, may_ask, then_is, turned_is}
use Rattle.board_game.proofs.game.BoardGameGame.least_after.Goals as goal

pub told_least-requires-clause-can : goal.told_least-requires-clause-can
told_least-requires-clause-can g c =
    let i = c.self.inside in
    may_go i.game_type (g.B.Board.stacks i.board) i.made.items i.from.items i.spare i.count c.args.self.now c.args.m c.self.invariant.0 c.self.view_is c.requires c.in-To.piece c.in-To.place c.in-To.is

pub told_least-requires-clause-known : goal.told_least-requires-clause-known
told_least-requires-clause-known g c =
    let i = c.self.inside in
    let side : c.other-side.result ≡ other_side (side_after (vec_len i.made)) = c.other-side.ensures ∙ ap other_side (c.side_after.ensures ∙ ap side_after c.len.ensures) in
    subst (λ z. IsKnown (g.B.Board.stacks i.board) z i.ahead) (sym side) c.self.invariant.9

pub told_least-requires-clause-may : goal.told_least-requires-clause-may
told_least-requires-clause-may g c =
    let i = c.self.inside in
    may_ask i.game_type (g.B.Board.stacks i.board) i.made.items i.from.items i.spare i.count c.args.self.now c.args.m c.self.invariant.0 c.self.view_is c.requires i.keeper c.self.invariant.5

pub returns-clause-least : goal.returns-clause-least
returns-clause-least g c =
    let i = c.self.inside in
    let side = turned_is i.game_type i.made.items c.other-side.result c.len.result (c.other-side.ensures ∙ ap other_side c.side_after.ensures) (c.len.ensures ∙ i.made.ok.0) in
    let told = c.told_least.ensures.least (replay (opening i.game_type) i.made.items) (sym c.self.invariant.0.board_is) side in
    subst (λ (p : Position). IfSome c.told_least.result (λ v. v ≤ℤ value p 0)) (then_is i.game_type (g.B.Board.stacks i.board) i.made.items i.from.items i.spare i.count c.args.self.now c.args.m c.self.invariant.0 c.self.view_is c.in-To.piece c.in-To.place c.in-To.is) told

pub invariant_of-self : goal.invariant_of-self
invariant_of-self g c =
    let i = c.self.inside in
    let v = c.self.invariant in
    let b = g.B.Board.stacks i.board in
    let s = other_side (side_after (vec_len i.made)) in
    let side : c.other-side.result ≡ s = c.other-side.ensures ∙ ap other_side (c.side_after.ensures ∙ ap side_after c.len.ensures) in (
      v.0,
      v.1,
      v.2,
      v.3,
      v.4,
      v.5,
      v.6,
      v.7,
      v.8,
      subst (λ z. IsKnown b z c.told_least.new.self) side c.told_least.ensures.known,
      v.10,
    )
