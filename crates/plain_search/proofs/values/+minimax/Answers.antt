use Rattle.std.proofs.Common.{rules, ◌≡◌, Some, refl, sym, arith, ◌∙◌, ℤ, to_z}
use Rattle.std.specs.List.{slice_get}
use mir.Val.{SFits}
use mir.Syntax.{w32}
use Rattle.hive_model.specs.Legal.{moves}
use Rattle.hive_model.specs.Histories.{position}
use Rattle.search_laws.proofs.MinimaxLaws.{value-begin}
use Rattle.search_laws.proofs.Signs.{neg-fits, neg-is}
use Rattle.search_laws.proofs.TurnLaws.{move-here}
use Rattle.search_laws.proofs.NodeLaws.{node-listed, node-reply, reply-room, before-then}
use Rattle.plain_search.proofs.WorthSteps.{reply-worth, value-small, best-step, raised-to}
use Rattle.plain_search.proofs.values.+minimax.Goals as goal

pub minimax-loop-i-init : goal.minimax-loop-i-init
minimax-loop-i-init g t c = record {
  before = record { game = c.list.ensures.same ∙ c.leaf_value.ensures.same; stack = refl };
  rest = value-begin _ _ c.in_default.ensures.leaf c.requires.room.deep;
}

pub minimax-reply-requires : goal.minimax-reply-requires
minimax-reply-requires g t c κs within =
    let start = g.G.Game.history c.args.game.now in
    let same = c.leaf_value.ensures.same in
    let node = node-listed start _ start _ _ c.args.depth c.levels-level.result c.requires.room c.in_default.ensures.leaf same (sym same) c.list.ensures.listed c.levels-level.ensures in (
      search rules,
      (within, node-reply start _ _ _ c.args.depth c.levels-level.result c.loop-i.i c.get-m.result node c.loop-i.invariant.before c.get-m.ensures),
    )

pub reply-minimax-worth-requires : goal.reply-minimax-worth-requires
reply-minimax-worth-requires g t c κs within = (search rules, (within, reply-room _ _ _ c.args.m _ c.requires.can c.play.ensures.moved))

pub minimax-loop-i-preserved : goal.minimax-loop-i-preserved
minimax-loop-i-preserved g t c =
    let turn = c.loop-i.invariant in
    let start = g.G.Game.history c.args.game.now in
    let best : ℤ = to_z w32 c.loop-i.best-bits in
    let fits : SFits w32 c.reply.result = search rules in
    let here : slice_get (moves (position start)) c.loop-i.i ≡ Some c.get-m.result =
    move-here _ _ _ _ _ _ _ _ c.leaf_value.ensures.same c.list.ensures.listed turn.before.stack c.levels-level.ensures c.get-m.ensures in
    let raised = raised-to c.loop-i.best-bits c.reply.result c.max-best.result fits (search rules) c.max-best.ensures.value in
    record {
      before = before-then _ _ _ _ _ _ turn.before c.reply.ensures.before;
      rest = best-step start _ c.args.depth c.loop-i.i c.get-m.result best c.reply.result _ _ turn.before.game here turn.rest c.reply.ensures.worth raised;
    }

pub reply-overflow_sub-result : goal.reply-overflow_sub-result
reply-overflow_sub-result g t c = neg-fits _ (value-small _ _ _ (omega (arith, c.requires.can.deep)) c.minimax-worth.ensures.worth)

pub reply-returns-clause-worth : goal.reply-returns-clause-worth
reply-returns-clause-worth g t c =
    reply-worth _ _ c.args.m _ _ _ c.play.ensures.moved c.minimax-worth.ensures.worth (neg-is _ (value-small _ _ _ (omega (arith, c.requires.can.deep)) c.minimax-worth.ensures.worth))
