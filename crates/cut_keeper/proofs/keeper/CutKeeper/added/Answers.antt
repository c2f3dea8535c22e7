use Rattle.std.proofs.Common.{sym, ap, subst}
use Rattle.one_hive.specs.Separating.{MarksSeparating}
use Rattle.cut_keeper.specs.Keeping.{Kept, MarksTops, MarksHigh}
use Rattle.cut_keeper.proofs.keeper.CutKeeper.added.Goals as goal

pub added-requires-clause-grown : goal.added-requires-clause-grown
added-requires-clause-grown g c =
    let h = c.requires.grown in
    record {
      before = h.before;
      sound = h.sound;
      one_hive = h.one_hive;
      stood = subst (MarksSeparating h.before) (sym (ap (λ (k : Kept). k.marks) c.self.view_is)) h.stood.1;
      made = h.made;
      still = h.still;
    }

pub top_added-requires-clause-grown : goal.top_added-requires-clause-grown
top_added-requires-clause-grown g c =
    let h = c.requires.grown in
    record {
      before = h.before;
      sound = h.sound;
      one_hive = h.one_hive;
      stood = subst (MarksTops h.before) (sym (ap (λ (k : Kept). k.tops) c.self.view_is)) h.stood.2;
      made = h.made;
      still = h.still;
    }

pub high_added-requires-clause-grown : goal.high_added-requires-clause-grown
high_added-requires-clause-grown g c =
    let h = c.requires.grown in
    record {
      before = h.before;
      sound = h.sound;
      one_hive = h.one_hive;
      stood = subst (MarksHigh h.before) (sym (ap (λ (k : Kept). k.high) c.self.view_is)) h.stood.3;
      made = h.made;
      still = h.still;
    }
