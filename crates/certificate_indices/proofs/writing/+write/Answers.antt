use mir.Syntax.{w32}
use Rattle.std.specs.Prelude.{pos, ◌-ℤ◌}
use Rattle.std.proofs.Common.{rules, ◌≡◌, ◌<◌, ◌-◌, length, List, Some, true, false, refl, sym, ap, arith, ◌∙◌, to_z, of_z}
use Rattle.std.specs.List.{slice_get}
use Rattle.hive_model.specs.declared.places.Move.{Move}
use Rattle.hive_model.specs.Legal.{moves}
use Rattle.hive_model.specs.Histories.{position}
use Rattle.search_laws.specs.Laws.{IsSmall}
use Rattle.search_laws.proofs.Signs.{neg-is}
use Rattle.search_laws.proofs.NodeLaws.{node-reply, before-then}
use Rattle.search_laws.proofs.HintLaws.{here-in}
use Rattle.certificate_walks.specs.declared.limit.Limit.TheVariants.{AtMost, AtLeast}
use Rattle.certificate_walks.proofs.LevelLaws.{level-reply}
use Rattle.certificate_indices.proofs.WriteLaws.{child-written, leaf-written, turn-written, turn-cut, turn-over, node-written, node-cut, node-none, node-every, place-under, wider, small-of, small-turned}
use Rattle.certificate_indices.proofs.writing.+write.Goals as goal

pub write_child-returns-clause-wrote : goal.write_child-returns-clause-wrote
write_child-returns-clause-wrote g t c =
    child-written _ _ c.args.m c.args.depth c.args.limit c.write_indices-written.result _ _ c.play.ensures.moved c.write_indices-written.ensures.wrote

pub write_indices-returns-then-is_leaf-clause-wrote : goal.write_indices-returns-then-is_leaf-clause-wrote
write_indices-returns-then-is_leaf-clause-wrote g t c =
    leaf-written (position (g.G.Game.history c.args.game.now)) c.args.depth c.args.limit (g.K.Sink.written c.args.sink.now) (c.is_leaf.ensures.leaf c.if-is_leaf.true)

pub write_moves-write_child-requires : goal.write_moves-write_child-requires
write_moves-write_child-requires g t c κs within =
    let turn = c.loop-i.invariant in
    let start = g.G.Game.history c.args.game.now in (
      search rules,
      (
        within.0,
        (
          within.1.0,
          (
            within.1.1,
            (
              level-reply start _ _ _ c.args.depth c.args.level c.loop-i.i c.get-m.result c.requires.replies turn.before c.get-m.ensures,
              record { ready = omega (arith, turn.same, c.requires.told.ready); small = c.requires.told.small },
            ),
          ),
        ),
      ),
    )

pub write_moves-returns-then-not-write_child-clause-wrote : goal.write_moves-returns-then-not-write_child-clause-wrote
write_moves-returns-then-not-write_child-clause-wrote g t c =
    let turn = c.loop-i.invariant in
    let start = g.G.Game.history c.args.game.now in
    let here : slice_get (moves (position start)) c.loop-i.i ≡ Some c.get-m.result = here-in _ _ _ _ _ _ turn.before.stack c.requires.replies.listed c.get-m.ensures in
    turn.wrote false _ (turn-cut start _ c.args.depth c.args.limit c.loop-i.i c.args.to c.get-m.result c.write_child.result _ _ turn.before.game here c.loop-i-test.true (search rules) c.write_child.ensures.wrote)

pub write_moves-loop-i-preserved : goal.write_moves-loop-i-preserved
write_moves-loop-i-preserved g t c =
    let turn = c.loop-i.invariant in
    let start = g.G.Game.history c.args.game.now in
    let here : slice_get (moves (position start)) c.loop-i.i ≡ Some c.get-m.result = here-in _ _ _ _ _ _ turn.before.stack c.requires.replies.listed c.get-m.ensures in
    let whole : c.write_child.result ≡ true = search rules in
    record {
      before = before-then _ _ _ _ _ _ turn.before c.write_child.ensures.before;
      same = c.write_child.ensures.same ∙ turn.same;
      faults = c.write_child.ensures.cause.same (λ e. cc) ∙ turn.faults;
      wrote = λ r b later. turn.wrote r b
          (turn-written start _ c.args.depth c.args.limit c.loop-i.i c.args.to c.get-m.result c.write_child.result r _ _ b turn.before.game here c.loop-i-test.true whole c.write_child.ensures.wrote later);
    }

pub write_moves-returns-clause-wrote : goal.write_moves-returns-clause-wrote
write_moves-returns-clause-wrote g t c =
    c.loop-i.invariant.wrote true _ (turn-over (position (g.G.Game.history c.args.game.now)) c.args.depth c.args.limit c.loop-i.i c.args.to (g.K.Sink.written c.loop-i.sink) c.loop-i-test.false)

pub write_node-returns-in_default-clause-wrote : goal.write_node-returns-in_default-clause-wrote
write_node-returns-in_default-clause-wrote g t c =
    let small : IsSmall 1000090 c.in-AtLeast.least = small-of c.args.limit (AtLeast c.in-AtLeast.least) c.in-AtLeast.least c.in-AtLeast.is refl c.requires.told.small in
    node-none (position (g.G.Game.history c.args.game.now)) c.args.depth c.args.limit c.in-AtLeast.least _ (g.K.Sink.written c.args.sink.now) c.requires.node.inner c.in-AtLeast.is (neg-is _ (wider _ small)) c.in_default.ensures.found

pub write_node-get-m-requires-clause-place : goal.write_node-get-m-requires-clause-place
write_node-get-m-requires-clause-place g t c =
    let p = position (g.G.Game.history c.args.game.now) in
    let low : c.in-Some.place < length (moves p) = place-under p (c.args.depth - 1) (AtMost (to_z w32 (of_z w32 (pos 0 -ℤ to_z w32 (of_z w32 c.in-AtLeast.least))))) c.in-Some.place c.in-Some.ensures.found in
    omega (arith, low, ap length c.requires.node.listed)

pub write_node-returns-then-not-write_index-clause-wrote : goal.write_node-returns-then-not-write_index-clause-wrote
write_node-returns-then-not-write_index-clause-wrote g t c =
    let p = position (g.G.Game.history c.args.game.now) in
    let small : IsSmall 1000090 c.in-AtLeast.least = small-of c.args.limit (AtLeast c.in-AtLeast.least) c.in-AtLeast.least c.in-AtLeast.is refl c.requires.told.small in
    node-cut p c.args.depth c.args.limit c.in-AtLeast.least _ c.in-Some.place c.write_index.result _ _ c.requires.node.inner c.in-AtLeast.is (neg-is _ (wider _ small)) c.in-Some.ensures.found (search rules) c.write_index.ensures.wrote

pub write_node-write_child-requires : goal.write_node-write_child-requires
write_node-write_child-requires g t c κs within =
    let start = g.G.Game.history c.args.game.now in
    let small : IsSmall 1000090 c.in-AtLeast.least = small-of c.args.limit (AtLeast c.in-AtLeast.least) c.in-AtLeast.least c.in-AtLeast.is refl c.requires.told.small in (
      search rules,
      (
        within.0,
        (
          within.1.0,
          (
            within.1.1,
            (
              node-reply start _ _ _ c.args.depth c.args.level c.in-Some.place c.get-m.result c.requires.node (record { game = c.find_kept.ensures.game; stack = refl }) c.get-m.ensures,
              record { ready = omega (arith, c.find_kept.ensures.same, c.requires.told.ready); small = small-turned _ small },
            ),
          ),
        ),
      ),
    )

pub write_node-returns-in-AtMost-clause-wrote : goal.write_node-returns-in-AtMost-clause-wrote
write_node-returns-in-AtMost-clause-wrote g t c =
    let p = position (g.G.Game.history c.args.game.now) in
    let all : c.level_len-count.result ≡ length (moves p) = c.level_len-count.ensures ∙ ap length c.requires.node.listed in
    let small : IsSmall 1000090 c.in-AtMost.most = small-of c.args.limit (AtMost c.in-AtMost.most) c.in-AtMost.most c.in-AtMost.is refl c.requires.told.small in
    node-every p c.args.depth c.args.limit c.in-AtMost.most _ c.level_len-count.result c.write_moves.result _ _ c.requires.node.inner c.in-AtMost.is (neg-is _ (wider _ small)) all c.write_moves.ensures.wrote

pub write_node-returns-else-not-write_index-clause-wrote : goal.write_node-returns-else-not-write_index-clause-wrote
write_node-returns-else-not-write_index-clause-wrote g t c =
    let p = position (g.G.Game.history c.args.game.now) in
    let here : slice_get (moves p) c.in-Some.place ≡ Some c.get-m.result = sym (ap (λ (ms : List Move). slice_get ms c.in-Some.place) c.requires.node.listed) ∙ c.get-m.ensures in
    let small : IsSmall 1000090 c.in-AtLeast.least = small-of c.args.limit (AtLeast c.in-AtLeast.least) c.in-AtLeast.least c.in-AtLeast.is refl c.requires.told.small in
    node-written (g.G.Game.history c.args.game.now) _ c.args.depth c.args.limit c.in-AtLeast.least _ c.in-Some.place c.get-m.result c.write_index.result c.write_child.result _ _ _ c.requires.node.inner c.in-AtLeast.is (neg-is _ (wider _ small)) c.find_kept.ensures.game
    c.in-Some.ensures.found here (search rules) c.write_index.ensures.wrote c.write_child.ensures.wrote
