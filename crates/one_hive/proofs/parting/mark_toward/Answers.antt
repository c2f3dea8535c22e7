use Rattle.std.proofs.Common.{◌≡◌, ℕ, ◌↔◌, ◌⊎◌, inl, inr, subst, Some}
use Rattle.hive_model.specs.Boards.{top_at}
use Rattle.one_hive.specs.Visits.{IsSet}
use Rattle.one_hive.proofs.Taken.{no_top}
use Rattle.one_hive.proofs.parting.mark_toward.Goals as goal

pub returns-then-not-has_dir : goal.returns-then-not-has_dir
returns-then-not-has_dir g c x =
    let none = no_top (g.B.Board.stacks c.args.board.now) c.args.place c.args.taken c.requires.taken c.args.dir c.has_dir.result c.has_dir.ensures c.if-not-has_dir.true in
    (λ h. inr h, λ e. elim e [ inl top ↦ absurd (none x top) | inr h ↦ h ])

pub returns : goal.returns
returns g c =
    let b = g.B.Board.stacks c.args.board.now in
    subst (λ p. (x : ℕ) → IsSet c.mark_top.new.marks x ↔ ((top_at b p ≡ Some x) ⊎ IsSet c.args.marks.now x)) c.step.ensures c.mark_top.ensures
