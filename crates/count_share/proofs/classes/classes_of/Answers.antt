use Rattle.std.proofs.Common.{◌≡◌, ◌∙◌, sym, ap, subst, ◌≤◌, length, arith}
use Rattle.std.specs.Prelude.{Some, slice_get}
use Rattle.hive_model.specs.Legal.{moves}
use Rattle.hive_model.specs.Histories.{position}
use Rattle.hive_model.proofs.GetLemmas.{on-at}
use Rattle.hive_model.specs.Lists.{IsOn}
use Rattle.count_share.specs.Classes.{HasOneMore}
use Rattle.count_share.proofs.ClassLaws.{AreFirst, first-none, first-more, first-all, listed-root}
use Rattle.count_share.proofs.classes.classes_of.Goals as goal

pub loop-i-init : goal.loop-i-init
loop-i-init g c = record {
  game = c.list.ensures.same;
  first = subst (AreFirst (g.G.Game.history c.args.game.now) 0) (sym c.new-classes.ensures.items) (first-none (g.G.Game.history c.args.game.now));
}

pub add_move-requires-clause-legal : goal.add_move-requires-clause-legal
add_move-requires-clause-legal g c =
    let start = g.G.Game.history c.args.game.now in
    let listed = listed-root c.list.new.out c.in_ok-root.root (moves (position start)) c.list.ensures.listed c.in_ok-root.ensures.0 in
    let here : slice_get (moves (position start)) c.loop-i.i ≡ Some c.get-m.result = sym (ap (λ ms. slice_get ms c.loop-i.i) listed) ∙ c.get-m.ensures in
    subst (λ h. IsOn (moves (position h)) c.get-m.result) (sym c.loop-i.invariant.game) (on-at (moves (position start)) c.loop-i.i c.get-m.result here)

pub loop-i-preserved : goal.loop-i-preserved
loop-i-preserved g c =
    let start = g.G.Game.history c.args.game.now in
    let listed = listed-root c.list.new.out c.in_ok-root.root (moves (position start)) c.list.ensures.listed c.in_ok-root.ensures.0 in
    let here : slice_get (moves (position start)) c.loop-i.i ≡ Some c.get-m.result = sym (ap (λ ms. slice_get ms c.loop-i.i) listed) ∙ c.get-m.ensures in
    record {
      game = c.in_ok-add_move.ensures.game ∙ c.loop-i.invariant.game;
      first = first-more start c.loop-i.i c.get-m.result _ _ here c.loop-i.invariant.first
          (subst (λ h. HasOneMore h c.get-m.result c.loop-i.classes.items c.add_move.new.classes.items) c.loop-i.invariant.game c.in_ok-add_move.ensures.more);
    }

pub returns-clause-classes : goal.returns-clause-classes
returns-clause-classes g c =
    let start = g.G.Game.history c.args.game.now in
    let listed = listed-root c.list.new.out c.in_ok-root.root (moves (position start)) c.list.ensures.listed c.in_ok-root.ensures.0 in
    let all : length (moves (position start)) ≤ c.loop-i.i = subst (λ ms. length ms ≤ c.loop-i.i) listed (omega (arith, c.loop-i-test.false, c.level_len-i-end.ensures)) in
    first-all start c.loop-i.i c.loop-i.classes.items all c.loop-i.invariant.first
