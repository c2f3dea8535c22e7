use Rattle.std.proofs.Common.{rules, ◌≡◌, length, ap, arith, ◌∙◌}
use Rattle.hive_model.specs.Legal.{moves}
use Rattle.hive_model.specs.Histories.{position}
use Rattle.search_laws.specs.Laws.{IsSmall}
use Rattle.search_laws.proofs.Signs.{neg-is}
use Rattle.search_laws.proofs.MinimaxLaws.{wider}
use Rattle.search_laws.proofs.NodeLaws.{before-then}
use Rattle.certificate_walks.proofs.LevelLaws.{can-again, place-reply, replies-again}
use Rattle.certificate_walks.proofs.FollowLaws.{one-less, place-low}
use Rattle.strategy_make.proofs.MakeLaws.{before-written, most-written, least-written, behind-written, before-cut, most-cut, least-cut, root-written}
use Rattle.strategy_make.proofs.roots.write_root.Goals as goal

pub returns-then-not-write_moves-clause-wrote : goal.returns-then-not-write_moves-clause-wrote
returns-then-not-write_moves-clause-wrote g c =
    let p = position (g.G.Game.history c.args.game.now) in
    let e = c.args.depth in
    let k = c.args.place in
    let v = c.args.best.now.value in
    before-cut p e k c.args.best.now.best v c.write_moves.result _ _ (search rules) (before-written p e k v _ c.write_moves.result _ _ (one-less v c.requires.small) c.write_moves.ensures.wrote)

pub write_child-requires-clause-can : goal.write_child-requires-clause-can
write_child-requires-clause-can g c =
    can-again _ _ _ _ _ _ (place-reply _ _ _ c.args.level c.args.place _ c.requires.replies c.requires.place) c.write_moves.ensures.before

pub returns-then-not-write_child-clause-wrote : goal.returns-then-not-write_child-clause-wrote
returns-then-not-write_child-clause-wrote g c =
    let start = g.G.Game.history c.args.game.now in
    let v = c.args.best.now.value in
    let small : IsSmall 1000100 v = wider 1000064 1000100 v (omega arith) c.requires.small in
    most-cut _ _ _ _ v c.write_moves.result c.write_child.result _ _ _ (search rules) (before-written (position start) c.args.depth _ v _ c.write_moves.result _ _ (one-less v c.requires.small) c.write_moves.ensures.wrote)
    (search rules) (most-written start _ c.args.depth _ v _ c.write_child.result _ _ c.write_moves.ensures.before.game (neg-is v small) c.write_child.ensures.wrote)

pub write_child-requires-2-clause-can : goal.write_child-requires-2-clause-can
write_child-requires-2-clause-can g c =
    can-again _ _ _ _ _ _ (place-reply _ _ _ c.args.level c.args.place _ c.requires.replies c.requires.place) (before-then _ _ _ _ _ _ c.write_moves.ensures.before c.write_child.ensures.before)

pub write_moves-requires-2-clause-replies : goal.write_moves-requires-2-clause-replies
write_moves-requires-2-clause-replies g c =
    replies-again _ _ _ _ _ _ c.requires.replies (before-then _ _ _ _ _ _ (before-then _ _ _ _ _ _ c.write_moves.ensures.before c.write_child.ensures.before) c.write_child-2.ensures.before)

pub returns-then-not-write_child-2-clause-wrote : goal.returns-then-not-write_child-2-clause-wrote
returns-then-not-write_child-2-clause-wrote g c =
    let start = g.G.Game.history c.args.game.now in
    let v = c.args.best.now.value in
    let small : IsSmall 1000100 v = wider 1000064 1000100 v (omega arith) c.requires.small in
    let moved = c.write_child.ensures.before.game ∙ c.write_moves.ensures.before.game in
    least-cut _ _ _ _ v c.write_moves.result c.write_child.result c.write_child-2.result _ _ _ _ (search rules)
    (before-written (position start) c.args.depth _ v _ c.write_moves.result _ _ (one-less v c.requires.small) c.write_moves.ensures.wrote)
    (search rules) (most-written start _ c.args.depth _ v _ c.write_child.result _ _ c.write_moves.ensures.before.game (neg-is v small) c.write_child.ensures.wrote)
    (search rules) (least-written start _ c.args.depth _ v _ c.write_child-2.result _ _ moved (neg-is v small) c.write_child-2.ensures.wrote)

pub overflow_add-from : goal.overflow_add-from
overflow_add-from g c =
    let low = place-low (moves (position (g.G.Game.history c.args.game.now))) c.args.place c.args.best.now.best c.requires.place in
    let all : c.level_len-count.result ≡ length (moves (position (g.G.Game.history c.args.game.now))) = c.level_len-count.ensures ∙ ap length c.requires.replies.listed in
    omega (arith, low, all)

pub returns-clause-wrote : goal.returns-clause-wrote
returns-clause-wrote g c =
    let start = g.G.Game.history c.args.game.now in
    let p = position start in
    let e = c.args.depth in
    let k = c.args.place in
    let m = c.args.best.now.best in
    let v = c.args.best.now.value in
    let small : IsSmall 1000100 v = wider 1000064 1000100 v (omega arith) c.requires.small in
    let all : c.level_len-count.result ≡ length (moves p) = c.level_len-count.ensures ∙ ap length c.requires.replies.listed in
    let moved = c.write_child.ensures.before.game ∙ c.write_moves.ensures.before.game in
    root-written p e k m v c.write_moves.result c.write_child.result c.write_child-2.result c.write_moves-2.result _ _ _ _ _ (search rules)
    (before-written p e k v _ c.write_moves.result _ _ (one-less v c.requires.small) c.write_moves.ensures.wrote)
    (search rules) (most-written start _ e m v _ c.write_child.result _ _ c.write_moves.ensures.before.game (neg-is v small) c.write_child.ensures.wrote)
    (search rules) (least-written start _ e m v _ c.write_child-2.result _ _ moved (neg-is v small) c.write_child-2.ensures.wrote)
    (behind-written start _ e k c.level_len-count.result v _ c.write_moves-2.result _ _ (c.write_child-2.ensures.before.game ∙ moved) (neg-is v small) all c.write_moves-2.ensures.wrote)
