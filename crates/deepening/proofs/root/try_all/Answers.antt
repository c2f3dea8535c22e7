use Rattle.std.proofs.Common.{rules, ◌≡◌, ◌-◌, arith, refl, Some, to_z, of_z}
use Rattle.std.proofs.lemmas.Int.{ints}
use Rattle.std.specs.List.{slice_get}
use mir.Syntax.{w32}
use Rattle.hive_model.specs.Histories.{position}
use Rattle.hive_model.specs.Legal.{moves}
use Rattle.search_laws.proofs.NodeLaws.{node-at, node-reply}
use Rattle.search_laws.proofs.HintLaws.{reply-low}
use Rattle.search_laws.proofs.RootLaws.{small-value}
use Rattle.search_core.specs.Times.{behind, sum_but}
use Rattle.search_core.specs.Moments.{moment}
use Rattle.search_core.proofs.TimeLaws.{one-nodes, both-nodes, no-nodes}
use Rattle.search_core.proofs.MomentLaws.{spends-as, spends-then, spends-here}
use Rattle.deepening.specs.Shares.{turns_share}
use Rattle.deepening.proofs.RootStops.{first-known, reply-least, turns-within, first-then-turns, first-alone, known-here, plays-of}
use Rattle.deepening.proofs.root.try_all.Goals as goal

pub reply-requires : goal.reply-requires
reply-requires g c = record {
  window = search rules;
  can = node-reply (g.G.Game.history c.args.game.now) _ _ _ c.args.depth c.args.level c.in-Some.first c.get-m.result c.requires.node (record { game = refl; stack = refl }) c.get-m.ensures;
}

pub returns-in_err-worth : goal.returns-in_err-worth
returns-in_err-worth g c =
    let start = g.G.Game.history c.args.game.now in
    let p = position start in
    let d = c.args.depth in
    let m = c.get-m.result in
    let here : slice_get (moves p) c.in-Some.first ≡ Some m = node-at start _ _ d c.args.level c.in-Some.first m c.requires.node refl c.get-m.ensures in
    let more = first-alone p d c.in-Some.first m _ _ _ _ here refl refl (plays-of _ _ _ _ refl refl c.reply.ensures.spends) in
    record {
      spends = spends-as _ _ _ _ _ _ c.reply.ensures.spends (one-nodes p d c.in-Some.first m c.requires.node.inner here) (omega (arith, more));
      answers = search rules;
    }

pub try_in_turn-requires-clause-low : goal.try_in_turn-requires-clause-low
try_in_turn-requires-clause-low g c =
    let start = g.G.Game.history c.args.game.now in
    let first = first-known start _ c.args.depth c.args.level c.in-Some.first c.get-m.result c.in_ok-worth.worth c.requires.node c.get-m.ensures (search rules) c.in_ok-worth.ensures.answers.found in
    let least = reply-least (position start) c.args.depth c.get-m.result c.requires.node.deep in
    rw first.exact (omega (arith, ints, least))

pub try_in_turn-requires-clause-high : goal.try_in_turn-requires-clause-high
try_in_turn-requires-clause-high g c =
    let start = g.G.Game.history c.args.game.now in
    let first = first-known start _ c.args.depth c.args.level c.in-Some.first c.get-m.result c.in_ok-worth.worth c.requires.node c.get-m.ensures (search rules) c.in_ok-worth.ensures.answers.found in
    let most = reply-low (position start) c.args.depth c.in-Some.first c.get-m.result c.requires.node.inner first.here in
    rw (first.exact, c.reply.ensures.spends.before.game) most

pub try_in_turn-requires-clause-known : goal.try_in_turn-requires-clause-known
try_in_turn-requires-clause-known g c =
    let start = g.G.Game.history c.args.game.now in
    let first = first-known start _ c.args.depth c.args.level c.in-Some.first c.get-m.result c.in_ok-worth.worth c.requires.node c.get-m.ensures (search rules) c.in_ok-worth.ensures.answers.found in
    known-here start (g.G.Game.history c.reply.new.game) c.args.depth c.in-Some.first c.get-m.result (to_z w32 (of_z w32 c.in_ok-worth.worth)) c.reply.ensures.spends.before.game first.here first.exact

pub returns-then-first-level_len : goal.returns-then-first-level_len
returns-then-first-level_len g c =
    let at = moment g.G.Game.history g.G.Game.played g.C.Clock.readings g.C.Clock.last g.C.Clock.previous in
    let start = g.G.Game.history c.args.game.now in
    let p = position start in
    let d = c.args.depth in
    let m = c.get-m.result in
    let here : slice_get (moves p) c.in-Some.first ≡ Some m = node-at start _ _ d c.args.level c.in-Some.first m c.requires.node refl c.get-m.ensures in
    let tried = at c.reply.new.game c.reply.new.work c.reply.new.clock in
    let ended = at c.try_in_turn.new.game c.try_in_turn.new.work c.try_in_turn.new.clock in
    let others = spends-here (λ q. sum_but (Some c.in-Some.first) 0 (behind q (d - 1)) (moves q)) (λ q. turns_share q d) start tried ended c.reply.ensures.spends.before.game c.try_in_turn.ensures.spends in
    let more = first-then-turns p d c.in-Some.first m _ _ _ _ _ here refl refl (plays-of _ _ _ _ refl refl c.reply.ensures.spends) (plays-of tried ended _ _ refl refl others) in
    record {
      spends = spends-as _ _ _ _ _ _ (spends-then _ _ _ _ _ _ _ c.reply.ensures.spends others) (both-nodes p d c.in-Some.first m (Some c.in-Some.first) c.requires.node.inner here refl) (omega (arith, more));
      answers = search rules;
    }

pub try_in_turn-requires-2-clause-high : goal.try_in_turn-requires-2-clause-high
try_in_turn-requires-2-clause-high g c =
    let small = small-value (position (g.G.Game.history c.args.game.now)) c.args.depth c.requires.node.deep in
    omega (arith, ints, small.low)

pub returns : goal.returns
returns g c =
    let p = position (g.G.Game.history c.args.game.now) in
    let more = turns-within p c.args.depth _ _ (plays-of _ _ _ _ refl refl c.try_in_turn-2.ensures.spends) in
    record {
      spends = spends-as _ _ _ _ _ _ c.try_in_turn-2.ensures.spends (no-nodes p c.args.depth c.requires.node.inner) (omega (arith, more));
      answers = search rules;
    }
