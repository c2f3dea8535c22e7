use Rattle.std.proofs.Common.{rules, ◌≡◌, to_z, of_z, sym, arith}
use Rattle.std.proofs.lemmas.Int.{ints, to_z-of_z}
use mir.Syntax.{w32}
use Rattle.hive_model.specs.Histories.{position}
use Rattle.search_laws.proofs.RootLaws.{small-value}
use Rattle.root_share.proofs.PlaysLaws.{child-more}
use Rattle.root_share.proofs.ReadyLaws.{may-search}
use Rattle.root_share.proofs.worker.close_child.Goals as goal

pub worth_of-worth-requires-clause-child : goal.worth_of-worth-requires-clause-child
worth_of-worth-requires-clause-child g c = may-search _ _ _ _ _ c.args.child.now _ c.requires.may.begin.ready c.requires.may.here c.again.ensures

pub worth_of-worth-requires-clause-bound : goal.worth_of-worth-requires-clause-bound
worth_of-worth-requires-clause-bound g c =
    let small = small-value c.args.seat.now.me.0.root c.args.work.now.depth c.requires.may.begin.ready.deep in
    let high = small.high in
    let most = c.requires.bound.most in
    record { low = search rules; high = omega (arith, ints, most, high) }

pub settle-requires-clause-seat : goal.settle-requires-clause-seat
settle-requires-clause-seat g c = c.requires.may.begin.seated

pub settle-requires-clause-depth : goal.settle-requires-clause-depth
settle-requires-clause-depth g c =
    let ready = c.requires.may.begin.ready in
    record { inner = ready.inner; agreed = ready.agreed; deep = ready.deep }

pub settle-requires-clause-tested : goal.settle-requires-clause-tested
settle-requires-clause-tested g c =
    let kept : to_z w32 (of_z w32 c.worth_of-worth.result) ≡ c.worth_of-worth.result = to_z-of_z w32 c.worth_of-worth.result (search rules) in
    rw (kept, c.requires.may.begin.ready.stands) (rw c.again.ensures at c.worth_of-worth.ensures.tested)

pub returns-clause-worker : goal.returns-clause-worker
returns-clause-worker g c =
    let made = c.worth_of-worth.ensures.worker in
    let kept : to_z w32 (of_z w32 c.args.bound) ≡ c.args.bound = to_z-of_z w32 c.args.bound (search rules) in
    record {
      game = made.game;
      searcher = made.searcher;
      plays = child-more _ (position (g.G.Game.history c.args.worker.now.game)) c.args.work.now.depth c.args.child.now.m c.args.bound c.args.bound _ _ (sym c.requires.may.begin.ready.stands) (omega (arith, ints)) (rw (kept, c.again.ensures) at made.plays);
    }
