use Rattle.std.proofs.Common.{◌≡◌, ℕ, ◌*◌, ◌^◌, ◌%◌, sym, subst, bit_and, w32}
use Rattle.std.specs.Prelude.{Option}
use Rattle.std.specs.Int.{bit_not}
use Rattle.hive_model.specs.Evaluation.{free_pieces}
use Rattle.hive_eval.proofs.WeightLaws.{free_but}
use Rattle.hive_eval.proofs.free.free_pieces.Goals as goal

pub returns-in-Some : goal.returns-in-Some
returns-in-Some g c =
    let b = g.B.Board.stacks c.args.board.now in
    subst (λ (rest : Option ℕ). bit_and c.free_pieces-free.result (bit_not w32 (1 * 2 ^ c.index.result % 2 ^ 32)) ≡ free_pieces b rest) (sym c.in-Some.is)
    (free_but b c.free_pieces-free.result c.in-Some.piece c.index.result c.free_pieces-free.ensures c.index.ensures.bound c.index.ensures.index)
