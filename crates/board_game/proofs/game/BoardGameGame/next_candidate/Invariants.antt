use Rattle.std.proofs.Common.{◌≡◌, ◌<◌, ◌≤◌, ◌≤ℤ◌, ℕ}
use Rattle.std.specs.Prelude.{Some, slice_get}
use Rattle.hive_model.specs.Histories.{position}
use Rattle.hive_model.specs.Legal.{moves}
use Rattle.hive_model.specs.Minimax.{reply_value}
use Rattle.hive_model.specs.declared.places.Move.{Move}
use Rattle.board_game.proofs.game.BoardGameGame.next_candidate.Given as goal

abbrev pub invariant-loop-at : goal.invariant-loop-at
invariant-loop-at g l = record {
  same : l.self.history ≡ l.fn.self.history;
  count : l.self.count ≡ l.fn.self.count;
  futile : (i : ℕ) (m : Move) → l.fn.from ≤ i → i < l.at → slice_get (moves (position l.fn.self.history)) i ≡ Some m → reply_value (position l.fn.self.history) 0 m ≤ℤ l.fn.alpha;
}
