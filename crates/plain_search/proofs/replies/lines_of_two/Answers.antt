use Rattle.std.proofs.Common.{rules, ◌≡◌, ◌+◌, ◌^◌, ◌<◌, Some, refl, ◌∙◌, arith}
use Rattle.std.specs.List.{slice_get}
use Rattle.hive_model.specs.Legal.{moves}
use Rattle.hive_model.specs.Histories.{position}
use Rattle.search_laws.proofs.TurnLaws.{move-here, move-legal}
use Rattle.plain_search.proofs.CountSteps.{count-begin, count-step, count-fits}
use Rattle.plain_search.proofs.ReplySteps.{counted-none, counted-now, replies-now}
use Rattle.plain_search.proofs.replies.lines_of_two.Goals as goal

pub loop-i-init : goal.loop-i-init
loop-i-init g c = record {
  same = c.list.ensures.same;
  known = counted-none _ _ c.new-counted.ensures;
  rest = count-begin _ 2 (omega arith);
}

pub replies_to-requires-clause-legal : goal.replies_to-requires-clause-legal
replies_to-requires-clause-legal g c =
    let start = g.G.Game.history c.args.game.now in
    move-legal start start _ _ _ _ _ _ _ refl c.list.ensures.listed refl c.levels-level.ensures c.get-m.ensures c.loop-i.invariant.same

pub overflow_add-total : goal.overflow_add-total
overflow_add-total g c =
    let turn = c.loop-i.invariant in
    let start = g.G.Game.history c.args.game.now in
    let here : slice_get (moves (position start)) c.loop-i.i ≡ Some c.get-m.result = move-here start start _ _ _ _ _ _ refl c.list.ensures.listed refl c.levels-level.ensures c.get-m.ensures in
    let small : c.loop-i.total + c.replies_to.result < 2 ^ 128 =
    count-fits (position start) 2 c.loop-i.i c.loop-i.total c.get-m.result _ here (replies-now start _ _ _ turn.same c.replies_to.ensures.count) turn.rest (omega arith) c.requires.few in
    search rules

pub loop-i-preserved : goal.loop-i-preserved
loop-i-preserved g c =
    let turn = c.loop-i.invariant in
    let start = g.G.Game.history c.args.game.now in
    let here : slice_get (moves (position start)) c.loop-i.i ≡ Some c.get-m.result = move-here start start _ _ _ _ _ _ refl c.list.ensures.listed refl c.levels-level.ensures c.get-m.ensures in
    record {
      same = c.replies_to.ensures.game ∙ turn.same;
      known = counted-now start _ _ turn.same c.replies_to.ensures.known;
      rest = count-step (position start) 2 c.loop-i.i c.loop-i.total c.get-m.result _ here (replies-now start _ _ _ turn.same c.replies_to.ensures.count) turn.rest;
    }
