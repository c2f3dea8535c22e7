use Rattle.std.proofs.Common.{◌↔◌, ◌<◌, ℕ}
use Rattle.std.specs.Prelude.{None, IsTrue}
use Rattle.hive_model.specs.Evaluation.{is_free_piece}
use Rattle.one_hive.specs.Visits.{IsSet}
use Rattle.one_hive.proofs.known_cuts.KnownCutsCuts.free_pieces.Given as goal

abbrev pub invariant-loop-x : goal.invariant-loop-x
invariant-loop-x g l = (y : ℕ) → y < l.x → IsSet l.free y ↔ IsTrue (is_free_piece (g.B.Board.stacks l.self.board.now) None y)
