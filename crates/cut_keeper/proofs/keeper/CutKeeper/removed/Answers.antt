use Rattle.std.proofs.Common.{rules, sym, ◌∙◌, ap, subst, w32}
use Rattle.std.proofs.lemmas.Int.{to_z-of_z}
use Rattle.one_hive.specs.Separating.{MarksSeparating}
use Rattle.cut_keeper.specs.Keeping.{Kept, MarksTops, MarksHigh}
use Rattle.cut_keeper.proofs.TopLaws.{high_shrunk}
use Rattle.cut_keeper.proofs.keeper.CutKeeper.removed.Goals as goal

pub removed-requires-clause-shrunk : goal.removed-requires-clause-shrunk
removed-requires-clause-shrunk g c =
    let h = c.requires.shrunk in
    record {
      before = h.before;
      sound = h.sound;
      one_hive = h.one_hive;
      stood = subst (MarksSeparating h.before) (sym (ap (λ (k : Kept). k.marks) c.self.view_is)) h.stood.1;
      made = h.made;
      still = h.still;
    }

pub top_removed-requires-clause-shrunk : goal.top_removed-requires-clause-shrunk
top_removed-requires-clause-shrunk g c =
    let h = c.requires.shrunk in
    record {
      before = h.before;
      sound = h.sound;
      one_hive = h.one_hive;
      stood = subst (MarksTops h.before) (sym (ap (λ (k : Kept). k.tops) c.self.view_is)) h.stood.2;
      made = h.made;
      still = h.still;
    }

pub returns-clause-keeps : goal.returns-clause-keeps
returns-clause-keeps g c =
    let b = g.B.Board.stacks c.args.board.now in
    let h = c.requires.shrunk in
    let high = subst (MarksHigh h.before) (sym (ap (λ (k : Kept). k.high) c.self.view_is)) h.stood.3 in (
      to_z-of_z w32 c.number_without-number.result (search rules) ∙ c.number_without-number.ensures,
      c.removed.ensures.marks,
      c.top_removed.ensures,
      high_shrunk b h.before c.args.piece c.args.place c.lemma_board.ensures h.sound h.made c.self.inside.high c.self.inside.high high,
    )
