use Rattle.std.proofs.Common.{rules, ◌≡◌, pos, ◌-ℤ◌, arith}
use Rattle.std.proofs.lemmas.Int.{to_z-of_z}
use mir.Syntax.{w32}
use Rattle.search_laws.proofs.Signs.{neg-fits, neg-is}
use Rattle.search_laws.specs.Laws.{IsSmall}
use Rattle.search_laws.proofs.HistoryLaws.{move-made, move-undone}
use Rattle.root_share.proofs.ChildLaws.{small-found, tested-found, room-behind, beta-behind, child-plays}
use Rattle.root_share.proofs.ReadyLaws.{depth-of}
use Rattle.root_share.proofs.beside.value_until_raised.Goals as goal

pub window_behind-behind-requires : goal.window_behind-behind-requires
window_behind-behind-requires g c = rw (to_z-of_z w32 c.args.bound (search rules)) c.requires.bound

pub play-requires-clause-legal : goal.play-requires-clause-legal
play-requires-clause-legal g c = c.requires.child.legal

pub play-requires-clause-room : goal.play-requires-clause-room
play-requires-clause-room g c = omega (arith, c.requires.child.spare)

pub value_until-found-requires-clause-window : goal.value_until-found-requires-clause-window
value_until-found-requires-clause-window g c = record {
  open_ = c.window_behind-behind.ensures.open_;
  alpha = search rules;
  beta = c.window_behind-behind.ensures.highest;
}

pub value_until-found-requires-clause-room : goal.value_until-found-requires-clause-room
value_until-found-requires-clause-room g c = record {
  prepared = c.requires.child.enough;
  spare = room-behind (g.G.Game.history c.args.worker.now.game) _ c.args.m _ c.play.ensures.moved c.requires.child.spare;
}

pub undo-requires : goal.undo-requires
undo-requires g c = move-made (g.G.Game.history c.args.worker.now.game) _ _ c.args.m c.play.ensures.moved c.value_until-found.ensures.game

pub overflow_sub-result : goal.overflow_sub-result
overflow_sub-result g c =
    neg-fits _ (small-found (pos 0) c.args.depth c.args.bound _ _ _ (omega (arith, c.requires.child.deep)) c.requires.bound.low c.requires.bound.high c.window_behind-behind.ensures.alpha
    (beta-behind c.args.bound _ _ (to_z-of_z w32 c.args.bound (search rules)) c.window_behind-behind.ensures.beta) c.in-Some.ensures.found)

pub returns-in-Some-clause-tested : goal.returns-in-Some-clause-tested
returns-in-Some-clause-tested g c =
    let beta : c.window_behind-behind.result.beta ≡ pos 1 -ℤ c.args.bound = beta-behind c.args.bound _ _ (to_z-of_z w32 c.args.bound (search rules)) c.window_behind-behind.ensures.beta in
    let deep = c.requires.child.deep in
    let small : IsSmall 1000100 c.in-Some.value = small-found (pos 0) c.args.depth c.args.bound _ _ _ (omega (arith, deep)) c.requires.bound.low c.requires.bound.high c.window_behind-behind.ensures.alpha beta c.in-Some.ensures.found in
    tested-found (g.G.Game.history c.args.worker.now.game) _ c.args.m c.args.depth c.args.bound c.in-Some.value _ _ (omega (arith, deep)) c.play.ensures.moved c.window_behind-behind.ensures.alpha beta (neg-is _ small) c.in-Some.ensures.found

pub returns-in-Some-clause-worker : goal.returns-in-Some-clause-worker
returns-in-Some-clause-worker g c = record {
  game = move-undone (g.G.Game.history c.args.worker.now.game) _ _ _ c.args.m (omega (arith, c.requires.child.spare)) c.play.ensures.moved c.value_until-found.ensures.game c.undo.ensures.back;
  searcher = c.value_until-found.ensures.searcher;
  plays = child-plays _ _ _ _ c.args.bound _ _ _ _ _ c.play.ensures.moved c.window_behind-behind.ensures.alpha (beta-behind c.args.bound _ _ (to_z-of_z w32 c.args.bound (search rules)) c.window_behind-behind.ensures.beta) c.play.ensures.count c.value_until-found.ensures.played c.undo.ensures.count;
}

pub halve-other-requires : goal.halve-other-requires
halve-other-requires g c = record { seat = c.requires.seat }

pub new-bell-requires-clause-seat : goal.new-bell-requires-clause-seat
new-bell-requires-clause-seat g c = c.halve-other.ensures.other

pub new-bell-requires-clause-deep : goal.new-bell-requires-clause-deep
new-bell-requires-clause-deep g c = rw (depth-of c.halve-other.ensures.view) c.requires.known

pub returns-in-Some-clause-seat : goal.returns-in-Some-clause-seat
returns-in-Some-clause-seat g c = c.halve-other.ensures.seat

pub returns-in-Some-clause-view : goal.returns-in-Some-clause-view
returns-in-Some-clause-view g c = c.halve-other.ensures.same

pub returns-clause-tested : goal.returns-clause-tested
returns-clause-tested g c = tt

pub returns-clause-seat : goal.returns-clause-seat
returns-clause-seat g c = c.halve-other.ensures.seat

pub returns-clause-view : goal.returns-clause-view
returns-clause-view g c = c.halve-other.ensures.same

pub returns-clause-worker : goal.returns-clause-worker
returns-clause-worker g c = record {
  game = move-undone (g.G.Game.history c.args.worker.now.game) _ _ _ c.args.m (omega (arith, c.requires.child.spare)) c.play.ensures.moved c.value_until-found.ensures.game c.undo.ensures.back;
  searcher = c.value_until-found.ensures.searcher;
  plays = child-plays _ _ _ _ c.args.bound _ _ _ _ _ c.play.ensures.moved c.window_behind-behind.ensures.alpha (beta-behind c.args.bound _ _ (to_z-of_z w32 c.args.bound (search rules)) c.window_behind-behind.ensures.beta) c.play.ensures.count c.value_until-found.ensures.played c.undo.ensures.count;
}
