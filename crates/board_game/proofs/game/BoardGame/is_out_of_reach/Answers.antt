use Rattle.std.proofs.Common.{◌≤ℤ◌, neg_ℤ, rules, w32, sym, ◌∙◌, ap, subst}
use Rattle.std.proofs.lemmas.Int.{to_z-of_z}
use Rattle.hive_model.specs.declared.places.Move.{Move}
use Rattle.hive_model.specs.Histories.{position}
use Rattle.hive_model.specs.Games.{replay}
use Rattle.hive_model.specs.Legal.{moves}
use Rattle.hive_model.specs.Lists.{IsOn}
use Rattle.hive_model.specs.Minimax.{value}
use Rattle.hive_model.specs.Pieces.{other_side}
use Rattle.hive_model.specs.Positions.{Position, opening}
use Rattle.board_game.specs.Replayed.{PlayedHistory, CanBeTaken}
use Rattle.board_game.proofs.AskLaws.{may_go, may_ask, then_is, turned_is}
use Rattle.board_game.proofs.ReachLaws.{goes_so, said_of}
use Rattle.board_game.proofs.game.BoardGame.is_out_of_reach.Goals as goal

pub reach_of-reach-requires-clause-may : goal.reach_of-reach-requires-clause-may
reach_of-reach-requires-clause-may g c =
    let i = c.self.inside in
    may_ask i.game_type (g.B.Board.stacks i.board) i.made.items i.from.items i.spare i.count c.args.self.now c.args.m.now c.self.invariant.0 c.self.view_is c.requires i.keeper c.self.invariant.5

pub reach_of-reach-requires-clause-lift : goal.reach_of-reach-requires-clause-lift
reach_of-reach-requires-clause-lift g c =
    let i = c.self.inside in
    let may = may_go i.game_type (g.B.Board.stacks i.board) i.made.items i.from.items i.spare i.count c.args.self.now c.args.m.now c.self.invariant.0 c.self.view_is c.requires c.in-To.piece c.in-To.place c.in-To.is in
    record { loose = may.2; one_hive = may.6; left = may.7 }

pub is_out_of_reach-requires-clause-loose : goal.is_out_of_reach-requires-clause-loose
is_out_of_reach-requires-clause-loose g c =
    let i = c.self.inside in
    let may = may_go i.game_type (g.B.Board.stacks i.board) i.made.items i.from.items i.spare i.count c.args.self.now c.args.m.now c.self.invariant.0 c.self.view_is c.requires c.in-To.piece c.in-To.place c.in-To.is in
    subst (CanBeTaken (g.B.Board.stacks i.board)) (sym c.reach_of-reach.ensures.piece) may.2

pub returns-clause-futile : goal.returns-clause-futile
returns-clause-futile g c = λ out.
    let i = c.self.inside in
    let b = g.B.Board.stacks i.board in
    let p = replay (opening i.game_type) i.made.items in
    let may = may_go i.game_type b i.made.items i.from.items i.spare i.count c.args.self.now c.args.m.now c.self.invariant.0 c.self.view_is c.requires c.in-To.piece c.in-To.place c.in-To.is in
    let legal = subst (λ (u : PlayedHistory). IsOn (moves (position u.history)) c.args.m.now) (sym c.self.view_is) c.requires in
    let listed = subst (λ (m : Move). IsOn (moves p) m) c.in-To.is legal in
    let side = turned_is i.game_type i.made.items c.other-side.result c.len.result (c.other-side.ensures ∙ ap other_side c.side_after.ensures) (c.len.ensures ∙ i.made.ok.0) in
    let goes = goes_so p b c.in-To.piece c.in-To.place (sym c.self.invariant.0.board_is) may listed in
    let few = said_of p c.in-To.piece c.reach_of-reach.result.piece c.in-To.place c.args.alpha _ c.reach_of-reach.ensures.piece (to_z-of_z w32 c.args.alpha (search rules)) (c.is_out_of_reach.ensures out p (sym c.self.invariant.0.board_is) side) goes in
    subst (λ (a : Position). neg_ℤ (value a 0) ≤ℤ c.args.alpha) (then_is i.game_type b i.made.items i.from.items i.spare i.count c.args.self.now c.args.m.now c.self.invariant.0 c.self.view_is c.in-To.piece c.in-To.place c.in-To.is) few
