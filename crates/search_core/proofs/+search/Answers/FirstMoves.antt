-- A move that is tried before the others: one that the table names, before the moves are listed, or
-- the listed one that looks best.
use Rattle.std.proofs.Common.{rules, ◌≡◌, ◌+◌, ◌≤ℤ◌, ◌-◌, to_z, of_z, Some, refl, sym, ap, subst, arith}
use Rattle.std.specs.List.{slice_get}
use mir.Val.{SFits}
use mir.Syntax.{w32}
use Rattle.std.proofs.lemmas.Int.{ints, to_z-of_z}
use Rattle.hive_model.specs.Legal.{moves}
use Rattle.hive_model.specs.Games.{after}
use Rattle.hive_model.specs.Minimax.{nodes, reply_value}
use Rattle.hive_model.specs.Costs.{tries_cost}
use Rattle.hive_model.specs.Histories.{position}
use Rattle.search_laws.specs.Tries.{tried_cost}
use Rattle.search_laws.proofs.Signs.{at-least}
use Rattle.search_laws.specs.Found.{IsFound}
use Rattle.search_laws.proofs.NodeLaws.{node-at, node-again, node-reply, room-within}
use Rattle.search_laws.specs.declared.window.Window.{Window}
use Rattle.search_laws.proofs.FoundLaws.{found-cut}
use Rattle.search_laws.proofs.HintLaws.{hint-worth, found-here, first-cut, reply-low, inner-here, moves-listed, first-found, first-plays, none-plays}
use Rattle.search_core.specs.Times.{behind, sum_but}
use Rattle.search_core.proofs.Hints.{copy-place, place-some, legal-here, worth-here, place-listed, none-listed}
use Rattle.hive_model.specs.declared.places.Move.{Move}
use Rattle.search_core.proofs.WindowLaws.{FirstRest, first-rest}
use Rattle.search_core.proofs.TimeLaws.{one-nodes, both-nodes, no-nodes, others-nodes}
use Rattle.search_core.specs.Moments.{moment_within}
use Rattle.search_core.proofs.MomentLaws.{spends-as, spends-more, spends-then, spends-from, spends-here, spends-level, answers-some, answers-then}
use Rattle.search_core.proofs.+search.Goals as goal

pub node_moves::search_others-returns-clause-spends : goal.node_moves::search_others-returns-clause-spends
node_moves::search_others-returns-clause-spends g t c =
    let at = moment_within g.G.Game.history g.G.Game.played g.C.Clock.readings g.C.Clock.last g.C.Clock.previous in
    let begun = at c.args.game.now c.args.work.now c.args.clock.now in
    let ended = at c.search_early-answer.new.game c.search_early-answer.new.work c.search_early-answer.new.clock in
    let start = g.G.Game.history c.args.game.now in
    let p = position start in
    let d = c.args.node.depth in
    let w = c.args.node.window in
    let listed = moves-listed start start _ _ _ _ refl refl c.list.ensures.listed c.levels-level.ensures in
    let place = place-some c.place_of-place.result (moves p) c.args.m.now (place-listed _ _ c.args.m.now c.place_of-place.result listed c.place_of-place.ensures.found) (none-listed _ _ c.args.m.now c.place_of-place.result listed c.place_of-place.ensures.none) c.requires.legal in
    let others = spends-from (λ q. sum_but c.place_of-place.result 0 (behind q (d - 1)) (moves q)) (λ q. tries_cost (tried_cost q (d - 1) w.beta) (reply_value q (d - 1)) w.alpha w.beta (moves q))
    (record begun { levels = c.list.new.out }) (g.G.Game.history c.list.new.self) (g.G.Game.played c.list.new.self) ended c.list.ensures.same c.list.ensures.count c.search_early-answer.ensures.spends in
    spends-more _ _ _ _ _ _
    (spends-level begun c.list.new.out c.drop_level.new.self ended (moves p) _ _ (omega (arith, c.requires.room.free, c.requires.inner.deep)) c.list.ensures.listed c.drop_level.ensures others)
    (others-nodes p d place.0 c.args.m.now c.place_of-place.result c.requires.inner place.2 place.1) (omega arith)

pub node_moves::search_from-returns-in_err-found-clause-spends : goal.node_moves::search_from-returns-in_err-found-clause-spends
node_moves::search_from-returns-in_err-found-clause-spends g t c =
    let start = g.G.Game.history c.args.game.now in
    let p = position start in
    let d = c.args.node.depth in
    let w = c.args.node.window in
    let m = c.again.result in
    let place = copy-place (moves p) c.args.m.now m c.again.ensures c.requires.legal in
    let here = place.1 in
    spends-as _ _ _ _ _ _ c.reply_with.ensures.spends (one-nodes p d place.0 m c.requires.inner here) (first-cut p d place.0 m w _ _ _ c.requires.inner here refl c.reply_with.ensures.spends.played)

pub node_moves::search_from-returns-then-found-node-clause-spends : goal.node_moves::search_from-returns-then-found-node-clause-spends
node_moves::search_from-returns-then-found-node-clause-spends g t c =
    let start = g.G.Game.history c.args.game.now in
    let p = position start in
    let d = c.args.node.depth in
    let w = c.args.node.window in
    let m = c.again.result in
    let place = copy-place (moves p) c.args.m.now m c.again.ensures c.requires.legal in
    let here = place.1 in
    spends-as _ _ _ _ _ _ c.reply_with.ensures.spends (one-nodes p d place.0 m c.requires.inner here) (first-cut p d place.0 m w _ _ _ c.requires.inner here refl c.reply_with.ensures.spends.played)

pub node_moves::search_from-returns-then-found-node-clause-answers : goal.node_moves::search_from-returns-then-found-node-clause-answers
node_moves::search_from-returns-then-found-node-clause-answers g t c =
    let start = g.G.Game.history c.args.game.now in
    let p = position start in
    let d = c.args.node.depth in
    let w = c.args.node.window in
    let m = c.again.result in
    let place = copy-place (moves p) c.args.m.now m c.again.ensures c.requires.legal in
    let here = place.1 in
    let tried : IsFound (reply_value p (d - 1) m) w c.in_ok-found.found = c.in_ok-found.ensures.answers.found in
    let fits : SFits w32 c.in_ok-found.found = search rules in
    let same_found : to_z w32 (of_z w32 c.in_ok-found.found) ≡ c.in_ok-found.found = to_z-of_z w32 c.in_ok-found.found fits in
    let high : w.beta ≤ℤ c.in_ok-found.found = at-least _ _ (search rules) fits c.if-found-node.true in
    let low : c.in_ok-found.found ≤ℤ reply_value p (d - 1) m = tried.lower high in
    let most = reply-low p d place.0 m c.requires.inner here in
    answers-some _ _ _ _ (rw same_found (found-cut _ _ _ c.requires.window.open_ high (omega (arith, ints, low, most)))) c.in_ok-found.ensures.answers.in_time

pub node_moves::search_from-search_others-requires : goal.node_moves::search_from-search_others-requires
node_moves::search_from-search_others-requires g t c κs within =
    let start = g.G.Game.history c.args.game.now in
    let p = position start in
    let d = c.args.node.depth in
    let w = c.args.node.window in
    let m = c.again.result in
    let place = copy-place (moves p) c.args.m.now m c.again.ensures c.requires.legal in
    let rest : Window = record { alpha = to_z w32 (of_z w32 c.max.result); beta = to_z w32 (of_z w32 w.beta) } in
    let left : FirstRest (reply_value p (d - 1) m) w rest =
    first-rest start start (d - 1) m c.in_ok-found.found c.max.result w refl c.requires.window (search rules) c.max.ensures.value c.if-found-node.false c.in_ok-found.ensures.answers.found in
    let same = c.reply_with.ensures.spends.before.game in
    let later = g.G.Game.history c.reply_with.new.game in (
      search rules,
      (
        within.0,
        (
          within.1,
          (
            left.open_,
            (
              inner-here start later d same c.requires.inner,
              (
                room-within start later _ _ d d (omega arith) c.requires.room c.reply_with.ensures.spends.before,
                (
                  legal-here start later c.args.m.now same c.requires.legal,
                  worth-here start later (d - 1) c.args.m.now _ same (subst (λ (n : Move). reply_value p (d - 1) n ≤ℤ to_z w32 (of_z w32 c.max.result)) c.again.ensures left.low),
                ),
              ),
            ),
          ),
        ),
      ),
    )

pub node_moves::search_from-returns-clause-spends : goal.node_moves::search_from-returns-clause-spends
node_moves::search_from-returns-clause-spends g t c =
    let at = moment_within g.G.Game.history g.G.Game.played g.C.Clock.readings g.C.Clock.last g.C.Clock.previous in
    let tried = at c.reply_with.new.game c.reply_with.new.work c.reply_with.new.clock in
    let ended = at c.search_others.new.game c.search_others.new.work c.search_others.new.clock in
    let start = g.G.Game.history c.args.game.now in
    let p = position start in
    let d = c.args.node.depth in
    let w = c.args.node.window in
    let m = c.again.result in
    let place = copy-place (moves p) c.args.m.now m c.again.ensures c.requires.legal in
    let here = place.1 in
    let rest : Window = record { alpha = to_z w32 (of_z w32 c.max.result); beta = to_z w32 (of_z w32 w.beta) } in
    let left : FirstRest (reply_value p (d - 1) m) w rest =
    first-rest start start (d - 1) m c.in_ok-found.found c.max.result w refl c.requires.window (search rules) c.max.ensures.value c.if-found-node.false c.in_ok-found.ensures.answers.found in
    let same = c.reply_with.ensures.spends.before.game in
    let others = spends-here (λ q. nodes q d - (1 + nodes (after q c.args.m.now) (d - 1))) (λ q. tries_cost (tried_cost q (d - 1) rest.beta) (reply_value q (d - 1)) rest.alpha rest.beta (moves q)) start tried ended same c.search_others.ensures.spends in
    let one = one-nodes p d place.0 m c.requires.inner here in
    let again : nodes (after p c.args.m.now) (d - 1) ≡ nodes (after p m) (d - 1) = ap (λ (n : Move). nodes (after p n) (d - 1)) (sym c.again.ensures) in
    spends-as _ _ _ _ _ _ (spends-then _ _ _ _ _ _ _ c.reply_with.ensures.spends others) (omega (arith, one, again))
    (first-plays p d w rest place.0 m _ _ _ c.requires.inner here left.up left.beta c.reply_with.ensures.spends.played others.played)

pub node_moves::search_from-returns-clause-answers : goal.node_moves::search_from-returns-clause-answers
node_moves::search_from-returns-clause-answers g t c =
    let start = g.G.Game.history c.args.game.now in
    let p = position start in
    let d = c.args.node.depth in
    let w = c.args.node.window in
    let m = c.again.result in
    let place = copy-place (moves p) c.args.m.now m c.again.ensures c.requires.legal in
    let here = place.1 in
    let rest : Window = record { alpha = to_z w32 (of_z w32 c.max.result); beta = to_z w32 (of_z w32 w.beta) } in
    let left : FirstRest (reply_value p (d - 1) m) w rest =
    first-rest start start (d - 1) m c.in_ok-found.found c.max.result w refl c.requires.window (search rules) c.max.ensures.value c.if-found-node.false c.in_ok-found.ensures.answers.found in
    let same = c.reply_with.ensures.spends.before.game in
    let most = reply-low p d place.0 m c.requires.inner here in
    answers-then _ _ c.search_others.result _ _ _ c.reply_with.ensures.spends.time.deadline c.in_ok-found.ensures.answers.in_time
    (λ a found. first-found _ _ w rest a.value left.is left.beta most c.requires.window.open_ (found-here start (g.G.Game.history c.reply_with.new.game) d rest a.value same found)) c.search_others.ensures.answers

pub node_moves::search_hinted-returns-in_default-clause-spends : goal.node_moves::search_hinted-returns-in_default-clause-spends
node_moves::search_hinted-returns-in_default-clause-spends g t c =
    let start = g.G.Game.history c.args.game.now in
    let p = position start in
    let d = c.args.node.depth in
    let w = c.args.node.window in
    spends-as _ _ _ _ _ _ c.search_early.ensures.spends (no-nodes p d c.requires.listed.inner) (none-plays p d w w _ _ c.requires.listed.inner refl refl c.search_early.ensures.spends.played)

pub node_moves::search_hinted-returns-then-first-level_len-clause-spends : goal.node_moves::search_hinted-returns-then-first-level_len-clause-spends
node_moves::search_hinted-returns-then-first-level_len-clause-spends g t c =
    let start = g.G.Game.history c.args.game.now in
    let p = position start in
    let d = c.args.node.depth in
    let w = c.args.node.window in
    spends-as _ _ _ _ _ _ c.search_early-then-first-level_len.ensures.spends (no-nodes p d c.requires.listed.inner) (none-plays p d w w _ _ c.requires.listed.inner refl refl c.search_early-then-first-level_len.ensures.spends.played)

pub node_moves::search_hinted-reply_with-requires : goal.node_moves::search_hinted-reply_with-requires
node_moves::search_hinted-reply_with-requires g t c κs within = (
  search rules,
  (
    within.0,
    (
      within.1,
      record {
        window = c.requires.window;
        can = node-reply _ _ _ _ c.args.node.depth c.args.level c.in-Some.first c.get-m.result c.requires.listed (record { game = refl; stack = refl }) c.get-m.ensures;
      },
    ),
  ),
)

pub node_moves::search_hinted-returns-in_err-found-clause-spends : goal.node_moves::search_hinted-returns-in_err-found-clause-spends
node_moves::search_hinted-returns-in_err-found-clause-spends g t c =
    let start = g.G.Game.history c.args.game.now in
    let p = position start in
    let d = c.args.node.depth in
    let w = c.args.node.window in
    let m = c.get-m.result in
    let here : slice_get (moves p) c.in-Some.first ≡ Some m = node-at _ _ _ _ c.args.level c.in-Some.first m c.requires.listed refl c.get-m.ensures in
    spends-as _ _ _ _ _ _ c.reply_with.ensures.spends (one-nodes p d c.in-Some.first m c.requires.listed.inner here) (first-cut p d c.in-Some.first m w _ _ _ c.requires.listed.inner here refl c.reply_with.ensures.spends.played)

pub node_moves::search_hinted-returns-then-found-node-clause-spends : goal.node_moves::search_hinted-returns-then-found-node-clause-spends
node_moves::search_hinted-returns-then-found-node-clause-spends g t c =
    let start = g.G.Game.history c.args.game.now in
    let p = position start in
    let d = c.args.node.depth in
    let w = c.args.node.window in
    let m = c.get-m.result in
    let here : slice_get (moves p) c.in-Some.first ≡ Some m = node-at _ _ _ _ c.args.level c.in-Some.first m c.requires.listed refl c.get-m.ensures in
    spends-as _ _ _ _ _ _ c.reply_with.ensures.spends (one-nodes p d c.in-Some.first m c.requires.listed.inner here) (first-cut p d c.in-Some.first m w _ _ _ c.requires.listed.inner here refl c.reply_with.ensures.spends.played)

pub node_moves::search_hinted-returns-then-found-node-clause-answers : goal.node_moves::search_hinted-returns-then-found-node-clause-answers
node_moves::search_hinted-returns-then-found-node-clause-answers g t c =
    let start = g.G.Game.history c.args.game.now in
    let p = position start in
    let d = c.args.node.depth in
    let w = c.args.node.window in
    let m = c.get-m.result in
    let here : slice_get (moves p) c.in-Some.first ≡ Some m = node-at _ _ _ _ c.args.level c.in-Some.first m c.requires.listed refl c.get-m.ensures in
    let tried : IsFound (reply_value p (d - 1) m) w c.in_ok-found.found = c.in_ok-found.ensures.answers.found in
    let fits : SFits w32 c.in_ok-found.found = search rules in
    let same_found : to_z w32 (of_z w32 c.in_ok-found.found) ≡ c.in_ok-found.found = to_z-of_z w32 c.in_ok-found.found fits in
    let high : w.beta ≤ℤ c.in_ok-found.found = at-least _ _ (search rules) fits c.if-found-node.true in
    let low : c.in_ok-found.found ≤ℤ reply_value p (d - 1) m = tried.lower high in
    let most = reply-low p d c.in-Some.first m c.requires.listed.inner here in
    answers-some _ _ _ _ (rw same_found (found-cut _ _ _ c.requires.window.open_ high (omega (arith, ints, low, most)))) c.in_ok-found.ensures.answers.in_time

pub node_moves::search_hinted-search_early-requires-2 : goal.node_moves::search_hinted-search_early-requires-2
node_moves::search_hinted-search_early-requires-2 g t c κs within =
    let start = g.G.Game.history c.args.game.now in
    let p = position start in
    let d = c.args.node.depth in
    let w = c.args.node.window in
    let m = c.get-m.result in
    let here : slice_get (moves p) c.in-Some.first ≡ Some m = node-at _ _ _ _ c.args.level c.in-Some.first m c.requires.listed refl c.get-m.ensures in
    let rest : Window = record { alpha = to_z w32 (of_z w32 c.max.result); beta = to_z w32 (of_z w32 w.beta) } in
    let left : FirstRest (reply_value p (d - 1) m) w rest =
    first-rest start start (d - 1) m c.in_ok-found.found c.max.result w refl c.requires.window (search rules) c.max.ensures.value c.if-found-node.false c.in_ok-found.ensures.answers.found in
    let same = c.reply_with.ensures.spends.before.game in (
      search rules,
      (
        within.0,
        (
          within.1,
          (
            record { window = left.open_; listed = node-again _ _ _ _ _ _ c.requires.listed c.reply_with.ensures.spends.before },
            hint-worth start _ _ _ _ _ same here left.low,
          ),
        ),
      ),
    )

pub node_moves::search_hinted-returns-clause-spends : goal.node_moves::search_hinted-returns-clause-spends
node_moves::search_hinted-returns-clause-spends g t c =
    let start = g.G.Game.history c.args.game.now in
    let p = position start in
    let d = c.args.node.depth in
    let w = c.args.node.window in
    let m = c.get-m.result in
    let here : slice_get (moves p) c.in-Some.first ≡ Some m = node-at _ _ _ _ c.args.level c.in-Some.first m c.requires.listed refl c.get-m.ensures in
    let rest : Window = record { alpha = to_z w32 (of_z w32 c.max.result); beta = to_z w32 (of_z w32 w.beta) } in
    let left : FirstRest (reply_value p (d - 1) m) w rest =
    first-rest start start (d - 1) m c.in_ok-found.found c.max.result w refl c.requires.window (search rules) c.max.ensures.value c.if-found-node.false c.in_ok-found.ensures.answers.found in
    let same = c.reply_with.ensures.spends.before.game in
    let at = moment_within g.G.Game.history g.G.Game.played g.C.Clock.readings g.C.Clock.last g.C.Clock.previous in
    let tried = at c.reply_with.new.game c.reply_with.new.work c.reply_with.new.clock in
    let ended = at c.search_early-2.new.game c.search_early-2.new.work c.search_early-2.new.clock in
    let others = spends-here (λ q. sum_but (Some c.in-Some.first) 0 (behind q (d - 1)) (moves q)) (λ q. tries_cost (tried_cost q (d - 1) rest.beta) (reply_value q (d - 1)) rest.alpha rest.beta (moves q)) start tried ended same c.search_early-2.ensures.spends in
    spends-as _ _ _ _ _ _ (spends-then _ _ _ _ _ _ _ c.reply_with.ensures.spends others) (both-nodes p d c.in-Some.first m (Some c.in-Some.first) c.requires.listed.inner here refl)
    (first-plays p d w rest c.in-Some.first m _ _ _ c.requires.listed.inner here left.up left.beta c.reply_with.ensures.spends.played others.played)

pub node_moves::search_hinted-returns-clause-answers : goal.node_moves::search_hinted-returns-clause-answers
node_moves::search_hinted-returns-clause-answers g t c =
    let start = g.G.Game.history c.args.game.now in
    let p = position start in
    let d = c.args.node.depth in
    let w = c.args.node.window in
    let m = c.get-m.result in
    let here : slice_get (moves p) c.in-Some.first ≡ Some m = node-at _ _ _ _ c.args.level c.in-Some.first m c.requires.listed refl c.get-m.ensures in
    let rest : Window = record { alpha = to_z w32 (of_z w32 c.max.result); beta = to_z w32 (of_z w32 w.beta) } in
    let left : FirstRest (reply_value p (d - 1) m) w rest =
    first-rest start start (d - 1) m c.in_ok-found.found c.max.result w refl c.requires.window (search rules) c.max.ensures.value c.if-found-node.false c.in_ok-found.ensures.answers.found in
    let same = c.reply_with.ensures.spends.before.game in
    let most = reply-low p d c.in-Some.first m c.requires.listed.inner here in
    answers-then _ _ c.search_early-2.result _ _ _ c.reply_with.ensures.spends.time.deadline c.in_ok-found.ensures.answers.in_time
    (λ a found. first-found _ _ w rest a.value left.is left.beta most c.requires.window.open_ (found-here start (g.G.Game.history c.reply_with.new.game) d rest a.value same found)) c.search_early-2.ensures.answers
