use Rattle.cut_keeper.proofs.LiftedLaws.{shrunk_by_lift}
use Rattle.rules_tests.proofs.keepers.KeeperTrial.lifted.Goals as goal

pub removed_uncounted-requires-clause-shrunk : goal.removed_uncounted-requires-clause-shrunk
removed_uncounted-requires-clause-shrunk c =
    let i = c.self.inside in
    let v = c.self.invariant in
    shrunk_by_lift i.keeper i.board _ c.at-piece.result c.lift-place.result v.1 v.2 v.0 (c.is_on_top.ensures c.if-not-is_on_top.false) c.lift-place.ensures.lifted c.lift-place.ensures.place (c.is_one.ensures.0 c.if-not-is_one.false)
