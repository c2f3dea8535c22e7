use Rattle.std.proofs.Common.{◌≡◌, ◌<◌, length, take, map}
use Rattle.hive_model.specs.Boards.{spot_of, IsBoard}
use Rattle.hive_model.specs.Lists.{count_from}
use Rattle.hive_model.specs.SpotNumbers.{number_in}
use Rattle.hive_model.specs.SmallSpots.{small}
use Rattle.hive_model.proofs.key.Key.of.Given as goal

abbrev pub invariant-loop-index : goal.invariant-loop-index
invariant-loop-index g l = record {
  many : length l.spots ≡ 28;
  filled : take l.index l.spots ≡ map small (map (spot_of (g.B.Board.stacks l.board)) (count_from 0 l.index));
  number : l.number ≡ number_in (map (spot_of (g.B.Board.stacks l.board)) (count_from 0 l.index));
  board : 0 < l.index → IsBoard (g.B.Board.stacks l.board);
}
