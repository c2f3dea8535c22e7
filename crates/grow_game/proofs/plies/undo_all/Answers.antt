use Rattle.std.proofs.Common.{◌≡◌, ◌-◌, length, refl, ◌∙◌, ap, arith, Some}
use Rattle.std.specs.List.{slice_get}
use Rattle.std.proofs.lemmas.Option.{slice_get_read}
use Rattle.grow_game.specs.declared.plies.Ply.{Ply}
use Rattle.grow_game.proofs.TurnLaws.{back-none, back-some, back-key, back-all}
use Rattle.grow_game.proofs.plies.undo_all.Goals as goal

pub loop-i-init : goal.loop-i-init
loop-i-init g c = back-none (g.G.Game.history c.args.game.now) c.args.plies.now c.requires.made

pub comes_back-requires : goal.comes_back-requires
comes_back-requires g c =
    let here : slice_get c.args.plies.now (c.loop-i.i - 1) ≡ Some c.index-plies-i.result =
    slice_get_read c.args.plies.now (length c.args.plies.now) _ _ refl (omega arith) c.index-plies-i.is in
    back-some _ _ _ _ _ _ c.loop-i-test.true c.loop-i.invariant here

pub loop-i-preserved : goal.loop-i-preserved
loop-i-preserved g c =
    let here : slice_get c.args.plies.now (c.loop-i.i - 1) ≡ Some c.index-plies-i.result =
    slice_get_read c.args.plies.now (length c.args.plies.now) _ _ refl (omega arith) c.index-plies-i.is in
    let again = back-key _ _ _ _ _ _ _ c.requires.keyed c.loop-i-test.true c.loop-i.invariant here c.comes_back.ensures.game
    ∙ ap (λ (t : Ply). t.before) c.index-plies-i.is in
    let counted = c.comes_back.ensures.same.1 again in
    let missed = c.if-comes_back.false in
    cc

pub returns-clause-none : goal.returns-clause-none
returns-clause-none g c = back-all _ _ _ _ _ c.loop-i.invariant c.loop-i-test.false
