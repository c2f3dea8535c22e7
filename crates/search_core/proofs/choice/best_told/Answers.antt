use Rattle.std.proofs.Common.{◌≡◌, ap, sym, ◌∙◌, Some}
use Rattle.std.specs.List.{slice_get}
use Rattle.hive_model.specs.Legal.{moves}
use Rattle.hive_model.specs.Histories.{position}
use Rattle.hive_model.proofs.GetLemmas.{on-at}
use Rattle.search_core.proofs.Hints.{legal-here}
use Rattle.search_core.proofs.choice.best_told.Goals as goal

pub value_after-requires : goal.value_after-requires
value_after-requires g c =
    let start = g.G.Game.history c.args.game.now in
    let here : slice_get (moves (position start)) c.loop-i.i ≡ Some c.get.result =
    ap (λ ms. slice_get ms c.loop-i.i) (sym c.requires.listed) ∙ c.get.ensures in
    legal-here start (g.G.Game.history c.loop-i.game) c.get.result c.loop-i.invariant.same (on-at (moves (position start)) c.loop-i.i c.get.result here)
