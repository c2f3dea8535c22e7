use Rattle.std.proofs.Common.{◌≡◌, length, ap, arith, ◌∙◌}
use Rattle.hive_model.specs.Legal.{moves}
use Rattle.hive_model.specs.Histories.{position}
use Rattle.search_laws.specs.Laws.{IsSmall}
use Rattle.search_laws.proofs.Signs.{neg-is}
use Rattle.search_laws.proofs.MinimaxLaws.{wider}
use Rattle.certificate_walks.proofs.LevelLaws.{can-again, place-reply, replies-again}
use Rattle.certificate_walks.proofs.FollowLaws.{before-stops, high-stops, low-stops, all-goes, before-is, high-is, low-is, behind-is, root-shown, one-less, place-low}
use Rattle.certificate_walks.proofs.NodeLaws.{not-shown, is-done, is-shown, part-goes-on}
use Rattle.certificate_walks.proofs.root.walk_root.Goals as goal

pub returns-then-not-is_done-clause-told : goal.returns-then-not-is_done-clause-told
returns-then-not-is_done-clause-told g c =
    let R = g.W.Walker.rules in
    let V = g.W.Walker.sight in
    let v = c.args.claim.now.value in
    before-stops R V _ _ _ c.args.claim.now.best v g.met.W.Walker.carries_on _ (g.W.Walker.seen c.walk_moves-before.new.walker) _ (not-shown R g.W.Walker.ending g.met.W.Walker.ends_short _ _ c.is_done.ensures c.if-not-is_done.true)
    (before-is R V _ _ _ v _ _ _ _ (one-less v c.requires.claim.small) c.walk_moves-before.ensures.told)

pub walk_child-high-requires-clause-can : goal.walk_child-high-requires-clause-can
walk_child-high-requires-clause-can g c =
    can-again _ _ _ _ _ _ (place-reply _ _ _ c.args.level c.args.place _ c.requires.replies c.requires.place) (record { game = c.walk_moves-before.ensures.game; stack = c.walk_moves-before.ensures.stack })

pub returns-then-not-is_done-2-clause-told : goal.returns-then-not-is_done-2-clause-told
returns-then-not-is_done-2-clause-told g c =
    let R = g.W.Walker.rules in
    let V = g.W.Walker.sight in
    let v = c.args.claim.now.value in
    let small : IsSmall 1000100 v = wider 1000064 1000100 v (omega arith) c.requires.claim.small in
    high-stops R V _ _ _ _ _ g.met.W.Walker.carries_on _ _ _ _ _ (is-shown R g.W.Walker.ending _ _ c.is_done.ensures c.if-not-is_done.false)
    (before-is R V _ _ _ v _ _ _ _ (one-less v c.requires.claim.small) c.walk_moves-before.ensures.told)
    (not-shown R g.W.Walker.ending g.met.W.Walker.ends_short _ _ c.is_done-2.ensures c.if-not-is_done-2.true)
    (high-is R V _ _ _ _ _ _ _ _ _ c.walk_moves-before.ensures.game (neg-is v small) c.walk_child-high.ensures.told)

pub walk_child-low-requires-clause-can : goal.walk_child-low-requires-clause-can
walk_child-low-requires-clause-can g c =
    can-again _ _ _ _ _ _ (place-reply _ _ _ c.args.level c.args.place _ c.requires.replies c.requires.place)
    (record { game = c.walk_child-high.ensures.game ∙ c.walk_moves-before.ensures.game; stack = c.walk_child-high.ensures.stack ∙ c.walk_moves-before.ensures.stack })

pub walk_moves-requires-clause-replies : goal.walk_moves-requires-clause-replies
walk_moves-requires-clause-replies g c =
    replies-again _ _ _ _ _ _ c.requires.replies
    (record {
      game = c.walk_child-low.ensures.game ∙ c.walk_child-high.ensures.game ∙ c.walk_moves-before.ensures.game;
      stack = c.walk_child-low.ensures.stack ∙ c.walk_child-high.ensures.stack ∙ c.walk_moves-before.ensures.stack;
    })

pub returns-then-not-is_done-3-clause-told : goal.returns-then-not-is_done-3-clause-told
returns-then-not-is_done-3-clause-told g c =
    let R = g.W.Walker.rules in
    let V = g.W.Walker.sight in
    let v = c.args.claim.now.value in
    let small : IsSmall 1000100 v = wider 1000064 1000100 v (omega arith) c.requires.claim.small in
    low-stops R V _ _ _ _ _ g.met.W.Walker.carries_on _ _ _ _ _ _ _ (is-shown R g.W.Walker.ending _ _ c.is_done.ensures c.if-not-is_done.false)
    (before-is R V _ _ _ v _ _ _ _ (one-less v c.requires.claim.small) c.walk_moves-before.ensures.told)
    (is-shown R g.W.Walker.ending _ _ c.is_done-2.ensures c.if-not-is_done-2.false)
    (high-is R V _ _ _ _ _ _ _ _ _ c.walk_moves-before.ensures.game (neg-is v small) c.walk_child-high.ensures.told)
    (not-shown R g.W.Walker.ending g.met.W.Walker.ends_short _ _ c.is_done-3.ensures c.if-not-is_done-3.true)
    (low-is R V _ _ _ _ _ _ _ _ _ (c.walk_child-high.ensures.game ∙ c.walk_moves-before.ensures.game) (neg-is v small) c.walk_child-low.ensures.told)

pub overflow_add-place : goal.overflow_add-place
overflow_add-place g c =
    let low = place-low (moves (position (g.G.Game.history c.args.game.now))) c.args.place c.args.claim.now.best c.requires.place in
    let all : c.level_len-count.result ≡ length (moves (position (g.G.Game.history c.args.game.now))) = c.level_len-count.ensures ∙ ap length c.requires.replies.listed in
    omega (arith, low, all)

pub returns-clause-shown : goal.returns-clause-shown
returns-clause-shown g c =
    let start = g.G.Game.history c.args.game.now in
    let v = c.args.claim.now.value in
    let small : IsSmall 1000100 v = wider 1000064 1000100 v (omega arith) c.requires.claim.small in
    let e1 = c.walk_moves-before.ensures.game in
    let e2 = c.walk_child-high.ensures.game ∙ e1 in
    let all : c.level_len-count.result ≡ length (moves (position start)) = c.level_len-count.ensures ∙ ap length c.requires.replies.listed in
    let first = is-done _ _ c.is_done.ensures c.if-not-is_done.false in
    let second = is-done _ _ c.is_done-2.ensures c.if-not-is_done-2.false in
    let third = is-done _ _ c.is_done-3.ensures c.if-not-is_done-3.false in
    λ inv done.
    let inv1 = c.walk_moves-before.ensures.true_ inv in
    let inv2 = c.walk_child-high.ensures.true_ inv1 in
    let inv3 = c.walk_child-low.ensures.true_ inv2 in
    root-shown start _ _ _ c.args.claim.now.depth c.args.place c.level_len-count.result c.args.claim.now.best v _ _ c.requires.claim.inner c.requires.place all (one-less v c.requires.claim.small) (neg-is v small)
    e1 e2 (c.walk_child-low.ensures.game ∙ e2)
    (c.walk_moves-before.ensures.shown inv first) (c.walk_child-high.ensures.shown inv1 second) (c.walk_child-low.ensures.shown inv2 third) (c.walk_moves.ensures.shown inv3 done)

pub returns-clause-told : goal.returns-clause-told
returns-clause-told g c =
    let R = g.W.Walker.rules in
    let V = g.W.Walker.sight in
    let v = c.args.claim.now.value in
    let small : IsSmall 1000100 v = wider 1000064 1000100 v (omega arith) c.requires.claim.small in
    let e2 = c.walk_child-high.ensures.game ∙ c.walk_moves-before.ensures.game in
    all-goes R V _ _ _ _ _ _ _ _ _ _ _ _ _ _ (is-shown R g.W.Walker.ending _ _ c.is_done.ensures c.if-not-is_done.false)
    (before-is R V _ _ _ v _ _ _ _ (one-less v c.requires.claim.small) c.walk_moves-before.ensures.told)
    (is-shown R g.W.Walker.ending _ _ c.is_done-2.ensures c.if-not-is_done-2.false)
    (high-is R V _ _ _ _ _ _ _ _ _ c.walk_moves-before.ensures.game (neg-is v small) c.walk_child-high.ensures.told)
    (is-shown R g.W.Walker.ending _ _ c.is_done-3.ensures c.if-not-is_done-3.false)
    (low-is R V _ _ _ _ _ _ _ _ _ e2 (neg-is v small) c.walk_child-low.ensures.told)
    (behind-is R V _ _ _ _ c.level_len-count.result _ _ _ _ _ (c.walk_child-low.ensures.game ∙ e2) (neg-is v small) (c.level_len-count.ensures ∙ ap length c.requires.replies.listed) c.walk_moves.ensures.told)

pub returns-then-not-is_done-2-clause-part : goal.returns-then-not-is_done-2-clause-part
returns-then-not-is_done-2-clause-part g c = part-goes-on g.W.Walker.parts _ _ _ _ _ _ c.is_done.ensures c.if-not-is_done.false c.walk_moves-before.ensures.part c.walk_child-high.ensures.part

pub returns-then-not-is_done-3-clause-part : goal.returns-then-not-is_done-3-clause-part
returns-then-not-is_done-3-clause-part g c =
    part-goes-on g.W.Walker.parts _ _ _ _ _ _ c.is_done.ensures c.if-not-is_done.false c.walk_moves-before.ensures.part
    (part-goes-on g.W.Walker.parts _ _ _ _ _ _ c.is_done-2.ensures c.if-not-is_done-2.false c.walk_child-high.ensures.part c.walk_child-low.ensures.part)

pub returns-clause-part : goal.returns-clause-part
returns-clause-part g c =
    part-goes-on g.W.Walker.parts _ _ _ _ _ _ c.is_done.ensures c.if-not-is_done.false c.walk_moves-before.ensures.part
    (part-goes-on g.W.Walker.parts _ _ _ _ _ _ c.is_done-2.ensures c.if-not-is_done-2.false c.walk_child-high.ensures.part
    (part-goes-on g.W.Walker.parts _ _ _ _ _ _ c.is_done-3.ensures c.if-not-is_done-3.false c.walk_child-low.ensures.part c.walk_moves.ensures.part))
