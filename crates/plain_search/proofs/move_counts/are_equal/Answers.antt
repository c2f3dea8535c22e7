use Rattle.std.proofs.Common.{sym, ◌∙◌}
use Rattle.plain_search.proofs.MetLaws.{keys_tested}
use Rattle.plain_search.proofs.move_counts.are_equal.Goals as goal

pub returns-then-turn : goal.returns-then-turn
returns-then-turn c = keys_tested c.args.key.now c.args.other.now _ (sym c.turn.ensures ∙ c.if-turn.true ∙ c.turn-2.ensures) c.same_board.ensures
