use Rattle.std.proofs.Common.{rules, ◌≡◌, refl, sym, ◌∙◌, to_z, of_z}
use Rattle.std.proofs.lemmas.Int.{to_z-of_z}
use mir.Syntax.{w32}
use Rattle.hive_model.specs.Histories.{position}
use Rattle.root_share.proofs.ReadyLaws.{begin-still, may-search, root-of, top-of, depth-of, depth-known, latest-read, bound-read-is}
use Rattle.root_share.proofs.PlaysLaws.{child-more}
use Rattle.root_share.proofs.TakenLaws.{closed-since, tried-closed}
use Rattle.root_share.proofs.beside.try_beside.Goals as goal

pub look-bound-requires-clause-seat : goal.look-bound-requires-clause-seat
look-bound-requires-clause-seat g c = c.requires.may.begin.seated

pub look-bound-requires-clause-deep : goal.look-bound-requires-clause-deep
look-bound-requires-clause-deep g c = rw c.requires.may.begin.ready.agreed c.requires.may.begin.ready.deep

pub close_child-found-requires-clause-may : goal.close_child-found-requires-clause-may
close_child-found-requires-clause-may g c =
    let read = c.look-bound.ensures in
    record {
      begin = begin-still _ _ _ _ _ _ c.requires.may.begin read.seat (root-of read.view) (depth-of read.view ∙ c.requires.may.begin.ready.agreed) refl refl;
      here = rw (root-of c.look-bound.ensures.view) c.requires.may.here;
    }

pub close_child-found-requires-clause-bound : goal.close_child-found-requires-clause-bound
close_child-found-requires-clause-bound g c =
    latest-read _ _ _ _ _ _ _ c.look-bound.ensures.view (to_z-of_z w32 c.look-bound.result (search rules)) c.requires.may.begin.ready.agreed c.look-bound.ensures.most

pub returns-then-bound-gtminus1000090-clause-tried : goal.returns-then-bound-gtminus1000090-clause-tried
returns-then-bound-gtminus1000090-clause-tried g c =
    let read = c.look-bound.ensures in
    let kept : to_z w32 (of_z w32 c.look-bound.result) ≡ c.look-bound.result = to_z-of_z w32 c.look-bound.result (search rules) in
    tried-closed _ _ _ _ _ c.requires.may.here (closed-since _ _ _ _ c.args.seat.now _ _ _ c.close_child-found.ensures.closed (root-of read.view) (rw kept read.grows))

pub returns-then-bound-gtminus1000090-clause-worker : goal.returns-then-bound-gtminus1000090-clause-worker
returns-then-bound-gtminus1000090-clause-worker g c =
    let made = c.close_child-found.ensures.worker in
    let kept : to_z w32 (of_z w32 c.look-bound.result) ≡ c.look-bound.result = to_z-of_z w32 c.look-bound.result (search rules) in
    record {
      game = made.game;
      searcher = made.searcher;
      plays = child-more _ _ c.args.work.now.depth c.args.child.now.m c.args.seat.now.me.0.top c.look-bound.result _ _ (root-of c.look-bound.ensures.view) c.look-bound.ensures.grows (rw kept at made.plays);
    }

pub value_until_raised-left-requires-clause-seat : goal.value_until_raised-left-requires-clause-seat
value_until_raised-left-requires-clause-seat g c = c.look-bound.ensures.seat

pub value_until_raised-left-requires-clause-known : goal.value_until_raised-left-requires-clause-known
value_until_raised-left-requires-clause-known g c = rw (depth-of c.look-bound.ensures.view, c.requires.may.begin.ready.agreed) c.requires.may.begin.ready.deep

pub value_until_raised-left-requires-clause-child : goal.value_until_raised-left-requires-clause-child
value_until_raised-left-requires-clause-child g c = may-search _ _ _ _ _ c.args.child.now _ c.requires.may.begin.ready c.requires.may.here c.again.ensures

pub value_until_raised-left-requires-clause-bound : goal.value_until_raised-left-requires-clause-bound
value_until_raised-left-requires-clause-bound g c =
    bound-read-is c.args.seat.now.me.0.root _ _ _ _ (to_z-of_z w32 c.look-bound.result (search rules)) c.requires.may.begin.ready.agreed c.requires.may.begin.ready.deep c.look-bound.ensures.least c.look-bound.ensures.most

pub returns-in_default-clause-tried : goal.returns-in_default-clause-tried
returns-in_default-clause-tried g c =
    let made = c.value_until_raised-left.ensures in
    let view = made.view ∙ c.look-bound.ensures.view in
    record {
      knows = record { seated = made.seat; root = root-of view; depth = depth-of view ∙ c.requires.may.begin.ready.agreed };
      came = tt;
      grows = rw (top-of view) c.look-bound.ensures.grows;
    }

pub returns-in_default-clause-worker : goal.returns-in_default-clause-worker
returns-in_default-clause-worker g c =
    let made = c.value_until_raised-left.ensures.worker in
    let kept : to_z w32 (of_z w32 c.look-bound.result) ≡ c.look-bound.result = to_z-of_z w32 c.look-bound.result (search rules) in
    record {
      game = made.game;
      searcher = made.searcher;
      plays = child-more _ (position (g.G.Game.history c.args.worker.now.game)) c.args.work.now.depth c.args.child.now.m c.args.seat.now.me.0.top c.look-bound.result _ _ (sym c.requires.may.begin.ready.stands) c.look-bound.ensures.grows
          (rw (kept, c.again.ensures) at made.plays);
    }

pub settle-found-requires-clause-seat : goal.settle-found-requires-clause-seat
settle-found-requires-clause-seat g c = c.value_until_raised-left.ensures.seat

pub settle-found-requires-clause-depth : goal.settle-found-requires-clause-depth
settle-found-requires-clause-depth g c =
    let view = c.value_until_raised-left.ensures.view ∙ c.look-bound.ensures.view in
    depth-known _ _ _ _ _ c.value_until_raised-left.new.seat.me.0 c.requires.may.begin.ready (root-of view) (depth-of view)

pub settle-found-requires-clause-here : goal.settle-found-requires-clause-here
settle-found-requires-clause-here g c = rw (root-of (c.value_until_raised-left.ensures.view ∙ c.look-bound.ensures.view)) c.requires.may.here

pub settle-found-requires-clause-bound : goal.settle-found-requires-clause-bound
settle-found-requires-clause-bound g c =
    latest-read _ _ _ _ _ _ _ (c.value_until_raised-left.ensures.view ∙ c.look-bound.ensures.view) (to_z-of_z w32 c.look-bound.result (search rules)) c.requires.may.begin.ready.agreed c.look-bound.ensures.most

pub settle-found-requires-clause-tested : goal.settle-found-requires-clause-tested
settle-found-requires-clause-tested g c =
    let view = c.value_until_raised-left.ensures.view ∙ c.look-bound.ensures.view in
    let kept : to_z w32 (of_z w32 c.in-Some.worth) ≡ c.in-Some.worth = to_z-of_z w32 c.in-Some.worth (search rules) in
    rw (kept, root-of view, c.requires.may.begin.ready.stands) (rw c.again.ensures at c.in-Some.ensures.tested)

pub returns-clause-tried : goal.returns-clause-tried
returns-clause-tried g c =
    let read = c.look-bound.ensures in
    let kept : to_z w32 (of_z w32 c.look-bound.result) ≡ c.look-bound.result = to_z-of_z w32 c.look-bound.result (search rules) in
    let root = root-of (c.value_until_raised-left.ensures.view ∙ read.view) in
    tried-closed _ _ _ _ _ c.requires.may.here (closed-since _ _ _ _ c.args.seat.now _ _ _ c.settle-found.ensures.closed root (rw kept read.grows))

pub returns-clause-worker : goal.returns-clause-worker
returns-clause-worker g c =
    let made = c.value_until_raised-left.ensures.worker in
    let kept : to_z w32 (of_z w32 c.look-bound.result) ≡ c.look-bound.result = to_z-of_z w32 c.look-bound.result (search rules) in
    record {
      game = made.game;
      searcher = made.searcher;
      plays = child-more _ (position (g.G.Game.history c.args.worker.now.game)) c.args.work.now.depth c.args.child.now.m c.args.seat.now.me.0.top c.look-bound.result _ _ (sym c.requires.may.begin.ready.stands) c.look-bound.ensures.grows
          (rw (kept, c.again.ensures) at made.plays);
    }
