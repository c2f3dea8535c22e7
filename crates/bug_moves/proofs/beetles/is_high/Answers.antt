use Rattle.std.proofs.Common.{inl, inr, refl, sym, ◌∙◌, subst}
use Rattle.std.specs.Prelude.{IsTrue}
use Rattle.hive_model.specs.Boards.{is_occupied}
use Rattle.bug_moves.proofs.TakenLaws.{is_taken, not_taken}
use Rattle.bug_moves.proofs.beetles.is_high.Goals as goal

pub returns-then-has_dir : goal.returns-then-has_dir
returns-then-has_dir g c =
    let b = g.B.Board.stacks c.args.board.now in
    (λ _. inr (is_taken b c.args.from c.args.dir c.args.to c.args.taken c.requires.taken c.requires.leads c.has_dir.ensures c.if-has_dir.true), λ _. refl)

pub returns : goal.returns
returns g c =
    let b = g.B.Board.stacks c.args.board.now in (
      λ h. inl (sym c.is_occupied.ensures ∙ h),
      λ either. elim either [
        | inl on ↦ c.is_occupied.ensures ∙ on
        | inr on ↦ absurd (not_taken b c.args.from c.args.dir c.args.taken c.requires.taken c.has_dir.ensures c.if-has_dir.false (subst (λ q. IsTrue (is_occupied b q)) c.requires.leads on))
      ],
    )
