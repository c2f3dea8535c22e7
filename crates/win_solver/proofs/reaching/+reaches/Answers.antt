use Rattle.std.proofs.Common.{rules, ◌≡◌, refl, ℤ, pos, ◌-ℤ◌, ◌-◌, Some, sym, ap, arith, ◌∙◌, to_z, of_z}
use Rattle.std.specs.Prelude.{int_le}
use Rattle.std.specs.List.{slice_get}
use Rattle.std.proofs.lemmas.Int.{ints, to_z-of_z}
use mir.Syntax.{w32}
use Rattle.hive_model.specs.Legal.{moves}
use Rattle.hive_model.specs.Minimax.{value}
use Rattle.hive_model.specs.Histories.{position}
use Rattle.search_laws.proofs.NodeLaws.{node-listed, node-reply, reply-room, before-then}
use Rattle.win_solver.specs.Asked.{CanBeAsked}
use Rattle.search_laws.proofs.HintLaws.{here-in}
use Rattle.win_solver.proofs.ReachLaws.{some-reaches, one-reaches, any-step, reply-is, child-reaches}
use Rattle.win_solver.proofs.reaching.+reaches.Goals as goal

-- the number as the code keeps it
asked-again : (least : ℤ) → CanBeAsked least → CanBeAsked (to_z w32 (of_z w32 least))
asked-again least asked = record { low = omega (arith, ints, asked.low, asked.high); high = omega (arith, ints, asked.low, asked.high) }

pub first_reply-loop-i-init : goal.first_reply-loop-i-init
first_reply-loop-i-init g t c = record {
  before = c.hinted_reply-hinted.ensures.before;
  rest = some-reaches (position (g.G.Game.history c.args.game.now)) c.args.depth _ c.requires.node.inner;
}

pub first_reply-reply_reaches-requires : goal.first_reply-reply_reaches-requires
first_reply-reply_reaches-requires g t c κs within = (
  search rules,
  (
    within,
    (
      asked-again _ c.requires.asked,
      node-reply (g.G.Game.history c.args.game.now) _ _ _ c.args.depth c.args.level c.loop-i.i c.get-m.result c.requires.node c.loop-i.invariant.before c.get-m.ensures,
    ),
  ),
)

pub first_reply-returns-then-reply_reaches-clause-found : goal.first_reply-returns-then-reply_reaches-clause-found
first_reply-returns-then-reply_reaches-clause-found g t c =
    let turn = c.loop-i.invariant in
    let start = g.G.Game.history c.args.game.now in
    let number : to_z w32 (of_z w32 c.args.least) ≡ c.args.least = to_z-of_z w32 c.args.least (search rules) in
    let here : slice_get (moves (position start)) c.loop-i.i ≡ Some c.get-m.result = here-in _ _ _ _ _ _ turn.before.stack c.requires.node.listed c.get-m.ensures in
    let met = reply-is start _ (c.args.depth - 1) _ c.get-m.result c.reply_reaches.result turn.before.game c.reply_reaches.ensures.reached in
    sym (one-reaches (position start) c.args.depth c.loop-i.i _ c.get-m.result c.requires.node.inner here (sym met ∙ c.if-reply_reaches.true))
    ∙ ap (λ n. int_le n (value (position start) c.args.depth)) number

pub first_reply-loop-i-preserved : goal.first_reply-loop-i-preserved
first_reply-loop-i-preserved g t c =
    let turn = c.loop-i.invariant in
    let start = g.G.Game.history c.args.game.now in
    let here : slice_get (moves (position start)) c.loop-i.i ≡ Some c.get-m.result = here-in _ _ _ _ _ _ turn.before.stack c.requires.node.listed c.get-m.ensures in
    let met = reply-is start _ (c.args.depth - 1) _ c.get-m.result c.reply_reaches.result turn.before.game c.reply_reaches.ensures.reached in
    record {
      before = before-then _ _ _ _ _ _ turn.before c.reply_reaches.ensures.before;
      rest = any-step _ (moves (position start)) c.loop-i.i c.get-m.result _ here (sym met ∙ c.if-reply_reaches.false) turn.rest;
    }

pub hinted_reply-reply_reaches-requires : goal.hinted_reply-reply_reaches-requires
hinted_reply-reply_reaches-requires g t c κs within = (
  search rules,
  (
    within,
    (
      asked-again _ c.requires.asked,
      node-reply (g.G.Game.history c.args.game.now) _ _ _ c.args.depth c.args.level c.in_ok-place.place c.get-m.result c.requires.node (record { game = refl; stack = refl }) c.get-m.ensures,
    ),
  ),
)

pub hinted_reply-returns-then-reply_reaches-clause-found : goal.hinted_reply-returns-then-reply_reaches-clause-found
hinted_reply-returns-then-reply_reaches-clause-found g t c =
    let start = g.G.Game.history c.args.game.now in
    let number : to_z w32 (of_z w32 c.args.least) ≡ c.args.least = to_z-of_z w32 c.args.least (search rules) in
    let here : slice_get (moves (position start)) c.in_ok-place.place ≡ Some c.get-m.result = sym (ap (λ ms. slice_get ms c.in_ok-place.place) c.requires.node.listed) ∙ c.get-m.ensures in
    λ _.
    sym (ap (λ n. int_le n (value (position start) c.args.depth)) number)
    ∙ one-reaches (position start) c.args.depth c.in_ok-place.place _ c.get-m.result c.requires.node.inner here (sym c.reply_reaches.ensures.reached ∙ c.if-reply_reaches.true)

pub reply_reaches-returns-clause-reached : goal.reply_reaches-returns-clause-reached
reply_reaches-returns-clause-reached g t c =
    child-reaches _ _ c.args.m c.args.depth c.args.least _ c.reaches-answered.result c.play.ensures.moved
    (omega (arith, ints, c.requires.asked.low, c.requires.asked.high, c.ranges.least.sfits)) c.reaches-answered.ensures.reached

pub reply_reaches-reaches-answered-requires : goal.reply_reaches-reaches-answered-requires
reply_reaches-reaches-answered-requires g t c κs within =
    let asked : CanBeAsked (to_z w32 (of_z w32 (pos 1 -ℤ to_z w32 (of_z w32 c.args.least)))) = record {
      low = omega (arith, ints, c.requires.asked.low, c.requires.asked.high);
      high = omega (arith, ints, c.requires.asked.low, c.requires.asked.high);
    } in (
      search rules,
      (within, (asked, reply-room _ _ _ c.args.m _ c.requires.can c.play.ensures.moved)),
    )

pub find_reply-first_reply-reply-requires : goal.find_reply-first_reply-reply-requires
find_reply-first_reply-reply-requires g t c κs within =
    let start = g.G.Game.history c.args.game.now in (
      search rules,
      (
        within,
        (
          asked-again _ c.requires.asked,
          node-listed start start _ _ _ c.args.depth c.levels-level.result c.requires.room c.requires.inner refl c.list.ensures.same c.list.ensures.listed c.levels-level.ensures,
        ),
      ),
    )
