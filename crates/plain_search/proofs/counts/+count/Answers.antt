use Rattle.std.proofs.Common.{rules, ◌≡◌, ◌+◌, ◌-◌, ◌^◌, ◌<◌, Some, refl, arith}
use Rattle.std.specs.List.{slice_get}
use Rattle.hive_model.specs.Legal.{moves}
use Rattle.hive_model.specs.Histories.{position}
use Rattle.search_laws.proofs.TurnLaws.{move-here, move-legal}
use Rattle.search_laws.specs.Nodes.{CanReply}
use Rattle.search_laws.proofs.NodeLaws.{reply-room, before-then}
use Rattle.plain_search.proofs.PlySteps.{levels-left, spare-before}
use Rattle.plain_search.proofs.CountSteps.{count-begin, count-step, count-fits, count-one, count-none, behind-few, behind-count, count-now, few-now}
use Rattle.symmetry.proofs.KeptBoards.{legal_placed}
use Rattle.plain_search.proofs.ImageSteps.{image-count, again-count, known-none, known-now, known-then, own-then}
use Rattle.plain_search.proofs.counts.+count.Goals as goal

pub lines_behind-lines_from-lines-requires : goal.lines_behind-lines_from-lines-requires
lines_behind-lines_from-lines-requires g t c κs within = (
  search rules,
  (
    within,
    (
      omega arith,
      (behind-few _ _ c.args.m _ c.play.ensures.moved c.requires.few, reply-room _ _ _ c.args.m _ c.requires.can c.play.ensures.moved),
    ),
  ),
)

pub lines_behind-returns-clause-count : goal.lines_behind-returns-clause-count
lines_behind-returns-clause-count g t c = behind-count _ _ _ _ _ c.play.ensures.moved c.lines_from-lines.ensures.count

pub lines_once-known_count-requires : goal.lines_once-known_count-requires
lines_once-known_count-requires g t c = legal_placed _ c.args.m c.lemma_sound.ensures.sound.board c.requires.can.legal

pub lines_once-returns-in-Some-clause-count : goal.lines_once-returns-in-Some-clause-count
lines_once-returns-in-Some-clause-count g t c =
    image-count (g.G.Game.history c.args.game.now) c.args.own.now c.args.known.now.items c.as_slice.result.now c.args.m c.args.plies _ _ c.lemma_sound.ensures.game c.plies-few.ensures.plies
    c.plies-few.ensures.few c.requires.deep c.requires.own c.requires.known c.requires.can.legal c.as_slice.ensures.value c.in-Some.ensures

pub lines_once-returns-clause-known : goal.lines_once-returns-clause-known
lines_once-returns-clause-known g t c = c.note.ensures _ _ c.requires.known (again-count _ c.args.m _ _ _ c.again.ensures c.lines_behind-count.ensures.count)

pub lines_from-returns-then-plies-eq0-clause-count : goal.lines_from-returns-then-plies-eq0-clause-count
lines_from-returns-then-plies-eq0-clause-count g t c = count-none _ _ c.if-plies-eq0.true

pub lines_from-returns-then-plies-eq1-clause-count : goal.lines_from-returns-then-plies-eq1-clause-count
lines_from-returns-then-plies-eq1-clause-count g t c = count-one _ _ _ c.if-plies-eq1.true c.count_moves-count.ensures.counted

pub lines_from-loop-i-init : goal.lines_from-loop-i-init
lines_from-loop-i-init g t c = record {
  before = record { game = c.list.ensures.same; stack = refl };
  known = known-none _ _ _ c.new-known.ensures;
  rest = count-begin _ _ (omega arith);
}

pub lines_from-lines_once-total-requires : goal.lines_from-lines_once-total-requires
lines_from-lines_once-total-requires g t c κs within =
    let turn = c.loop-i.invariant in
    let start = g.G.Game.history c.args.game.now in
    let can : CanReply c.get-m.result (c.args.plies - 1) (g.G.Game.history c.loop-i.game) c.loop-i.stack = record {
      legal = move-legal start start _ _ _ _ _ _ _ refl c.list.ensures.listed turn.before.stack c.levels-level.ensures c.get-m.ensures turn.before.game;
      deep = omega arith;
      spare = spare-before _ _ _ turn.before.game c.requires.room.spare (omega arith);
      free = levels-left _ _ _ _ _ turn.before.stack c.list.ensures.listed c.requires.room.free;
    } in
    let own = own-then start (g.G.Game.history c.loop-i.game) _ c.as_slice-own.result.now turn.before.game c.as_slice-own.ensures.value c.symmetries_of-own.ensures in
    let known = known-then start _ _ _ turn.before.game turn.known in (
      search rules,
      (within, (omega arith, (few-now _ _ _ turn.before.game c.requires.few (omega arith), (can, (own, known))))),
    )

pub lines_from-overflow_add-total : goal.lines_from-overflow_add-total
lines_from-overflow_add-total g t c =
    let turn = c.loop-i.invariant in
    let start = g.G.Game.history c.args.game.now in
    let here : slice_get (moves (position start)) c.loop-i.i ≡ Some c.get-m.result =
    move-here start start _ _ _ _ _ _ refl c.list.ensures.listed turn.before.stack c.levels-level.ensures c.get-m.ensures in
    let small : c.loop-i.total + c.lines_once-total.result < 2 ^ 128 =
    count-fits (position start) c.args.plies c.loop-i.i c.loop-i.total c.get-m.result _ here (count-now _ _ _ _ _ turn.before.game c.lines_once-total.ensures.count) turn.rest c.requires.deep c.requires.few in
    search rules

pub lines_from-loop-i-preserved : goal.lines_from-loop-i-preserved
lines_from-loop-i-preserved g t c =
    let turn = c.loop-i.invariant in
    let start = g.G.Game.history c.args.game.now in
    let here : slice_get (moves (position start)) c.loop-i.i ≡ Some c.get-m.result =
    move-here start start _ _ _ _ _ _ refl c.list.ensures.listed turn.before.stack c.levels-level.ensures c.get-m.ensures in
    record {
      before = before-then _ _ _ _ _ _ turn.before c.lines_once-total.ensures.before;
      known = known-now start _ _ _ turn.before.game c.lines_once-total.ensures.known;
      rest = count-step (position start) c.args.plies c.loop-i.i c.loop-i.total c.get-m.result _ here (count-now _ _ _ _ _ turn.before.game c.lines_once-total.ensures.count) turn.rest;
    }
