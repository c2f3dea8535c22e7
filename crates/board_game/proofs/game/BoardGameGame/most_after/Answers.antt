use Rattle.std.proofs.Common.{◌≡◌, ◌+◌, ◌≤◌, sym, subst}
use Rattle.std.specs.Prelude.{vec_len, vec_capacity}
use Rattle.hive_model.specs.Boards.{Stacks}
use Rattle.hive_model.specs.Pieces.{other_side}
use Rattle.hive_model.specs.Positions.{opening}
use Rattle.cut_keeper.specs.Keeping.{Keeps}
use Rattle.rule_laws.specs.Soundness.{side_after}
use Rattle.board_game.specs.Asked.{IsKnown}
use Rattle.board_game.specs.InHand.{ArePlaced}
use Rattle.board_game.specs.Kept.{AreKept}
use Rattle.board_game.specs.Replayed.{IsReplayed}
use Rattle.board_game.proofs.AskLaws.{may_make}
use Rattle.board_game.proofs.game.BoardGameGame.most_after.Goals as goal

pub reply_behind-requires : goal.reply_behind-requires
reply_behind-requires g c =
    let i = c.self.inside in
    may_make i.game_type (g.B.Board.stacks i.board) i.made.items i.from.items i.spare i.count c.args.self.now c.args.m c.self.invariant.0 c.self.view_is c.requires

pub invariant_of-self : goal.invariant_of-self
invariant_of-self g c =
    let i = c.self.inside in
    subst (λ (b : Stacks).
    IsReplayed i.game_type b i.made.items i.from.items × (vec_len i.made + i.spare ≤ 5064) × (vec_len i.from ≡ vec_len i.made) × (vec_len i.made + i.spare ≤ vec_capacity i.made) × (vec_len i.made + i.spare ≤ vec_capacity i.from)
    × Keeps b i.keeper × AreKept (opening i.game_type) i.made.items i.before.items × (vec_len i.before ≡ vec_len i.made) × (vec_len i.made + i.spare ≤ vec_capacity i.before)
    × IsKnown b (other_side (side_after (vec_len i.made))) i.ahead
    × ArePlaced b (other_side (side_after (vec_len i.made))) i.placements.items) (sym c.reply_behind.ensures.same) c.self.invariant

pub invariant_of-self-2 : goal.invariant_of-self-2
invariant_of-self-2 g c =
    let i = c.self.inside in
    subst (λ (b : Stacks).
    IsReplayed i.game_type b i.made.items i.from.items × (vec_len i.made + i.spare ≤ 5064) × (vec_len i.from ≡ vec_len i.made) × (vec_len i.made + i.spare ≤ vec_capacity i.made) × (vec_len i.made + i.spare ≤ vec_capacity i.from)
    × Keeps b i.keeper × AreKept (opening i.game_type) i.made.items i.before.items × (vec_len i.before ≡ vec_len i.made) × (vec_len i.made + i.spare ≤ vec_capacity i.before)
    × IsKnown b (other_side (side_after (vec_len i.made))) i.ahead
    × ArePlaced b (other_side (side_after (vec_len i.made))) i.placements.items) (sym c.reply_behind.ensures.same) c.self.invariant
