use Rattle.hive_model.specs.Legal.{moves}
use Rattle.hive_model.specs.Histories.{position}
use Rattle.root_share.proofs.ChildLaws.{get-is}
use Rattle.root_share.proofs.ReadyLaws.{legal-still}
use Rattle.root_share.proofs.hint.best_told.Goals as goal

pub value_after-requires : goal.value_after-requires
value_after-requires g c =
    let start = g.G.Game.history c.args.game.now in
    let here = get-is (moves (position start)) c.args.root.now c.loop-child.child c.get.result c.requires.listed c.get.ensures in
    legal-still start (g.G.Game.history c.loop-child.game) c.loop-child.child c.get.result c.loop-child.invariant.same here
