use Rattle.std.proofs.Common.{rules, ◌≡◌, ◌∙◌}
use Rattle.hive_model.proofs.SameBoards.{by_parts, board_by_parts}
use Rattle.hive_model.proofs.key.Key.same_board.Goals as goal

pub returns-then-eq-3 : goal.returns-then-eq-3
returns-then-eq-3 c = let told : c.eq-then-eq-3.result ≡ by_parts c.args.self.now c.args.other.now = search rules in told ∙ board_by_parts c.args.self.now c.args.other.now

pub returns-else-eq-3 : goal.returns-else-eq-3
returns-else-eq-3 c = let told : c.if-eq-2.value ≡ by_parts c.args.self.now c.args.other.now = search rules in told ∙ board_by_parts c.args.self.now c.args.other.now
