use Rattle.rules_tests.proofs.keepers.KeeperTrial.put.Goals as goal

pub added_uncounted-requires-clause-grown : goal.added_uncounted-requires-clause-grown
added_uncounted-requires-clause-grown c =
    let i = c.self.inside in
    let v = c.self.invariant in
    record {
      before = i.board;
      sound = v.1;
      one_hive = v.2;
      stood = v.0;
      made = c.put.ensures;
      still = c.is_one.ensures.0 c.if-not-is_one.false;
    }
