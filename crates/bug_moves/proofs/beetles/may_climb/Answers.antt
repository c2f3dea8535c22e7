use Rattle.std.proofs.Common.{◌⊎◌, inl, inr, sym, ◌∙◌}
use Rattle.std.specs.Prelude.{IsTrue}
use Rattle.hive_model.specs.Boards.{is_occupied}
use Rattle.bug_moves.proofs.AtHive.{climbing, climbs_free}
use Rattle.bug_moves.proofs.beetles.may_climb.Goals.{then-is_occupied, else-is_occupied}
use Rattle.bug_moves.proofs.beetles.may_climb.Goals as goal

pub returns-then-is_occupied-2 : goal.returns-then-is_occupied-2
returns-then-is_occupied-2 g c =
    let b = g.B.Board.stacks c.args.board.now in
    let high : IsTrue (is_occupied b c.args.from) ⊎ IsTrue (is_occupied b c.args.to) = elim c.if-is_occupied.branch [
      | then-is_occupied w ↦ inr (sym c.is_occupied.ensures ∙ w.if-is_occupied.true)
      | else-is_occupied w ↦ inl (sym w.is_occupied-else-is_occupied.ensures ∙ (sym w.value-is ∙ c.if-is_occupied-2.true))
    ] in
    ((λ free. climbing b c.args.from c.args.to high (c.climb_toward.ensures.0 free)), (λ climb. c.climb_toward.ensures.1 (climbs_free b c.args.from c.args.to climb)))
