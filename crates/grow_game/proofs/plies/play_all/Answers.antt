use Rattle.std.proofs.Common.{◌≡◌, length, refl, sym, ◌∙◌, ap, subst, arith, Some}
use Rattle.std.specs.List.{slice_get}
use Rattle.std.proofs.lemmas.Option.{slice_get_read}
use Rattle.hive_model.specs.Lists.{IsOn}
use Rattle.hive_model.specs.Legal.{moves}
use Rattle.hive_model.specs.Histories.{position, with_move}
use Rattle.grow_game.proofs.TurnLaws.{forward-none, forward-legal, forward-step, forward-all}
use Rattle.grow_game.proofs.plies.play_all.Goals as goal

pub loop-ply-init : goal.loop-ply-init
loop-ply-init g c = forward-none (g.G.Game.history c.args.game.now) c.args.plies.now c.requires.legal

pub play-requires-clause-legal : goal.play-requires-clause-legal
play-requires-clause-legal g c =
    let now = g.G.Game.history c.loop-ply.game in
    let here : slice_get c.args.plies.now c.loop-ply.ply-index ≡ Some c.ply-item.result =
    slice_get_read c.args.plies.now (length c.args.plies.now) _ _ refl c.loop-ply-test.true c.ply-item.is in
    subst (λ m. IsOn (moves (position now)) m) (sym c.again.ensures) (forward-legal _ _ _ _ _ c.loop-ply.invariant here)

pub loop-ply-preserved : goal.loop-ply-preserved
loop-ply-preserved g c =
    let now = g.G.Game.history c.loop-ply.game in
    let spare = c.loop-ply.invariant.spare in
    let here : slice_get c.args.plies.now c.loop-ply.ply-index ≡ Some c.ply-item.result =
    slice_get_read c.args.plies.now (length c.args.plies.now) _ _ refl c.loop-ply-test.true c.ply-item.is in
    forward-step _ _ _ _ _ _ c.loop-ply.invariant here (omega (arith, spare)) (c.play.ensures.moved ∙ ap (with_move now) c.again.ensures)

pub returns-clause-made : goal.returns-clause-made
returns-clause-made g c = forward-all _ _ _ _ c.loop-ply.invariant c.loop-ply-test.false
