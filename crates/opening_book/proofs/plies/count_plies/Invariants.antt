use Rattle.std.specs.Prelude.{◌≡◌, ℕ, ◌+◌, ◌-◌, ◌<◌, ◌≤◌, Some, slice_get, slice_index, length, take, drop}
use Rattle.hive_model.specs.declared.places.Move.{Move}
use Rattle.hive_model.specs.Boards.{IsBoard}
use Rattle.hive_model.specs.Positions.{Position}
use Rattle.hive_model.specs.Keys.{key}
use Rattle.hive_model.specs.Histories.{History, position}
use Rattle.opening_book.specs.Book.{line_count}
use Rattle.opening_book.proofs.plies.count_plies.Given as goal

abbrev pub invariant-loop-i : goal.invariant-loop-i
invariant-loop-i g l =
    let whole : History = g.G.Game.history l.initial.played in
    let now : History = g.G.Game.history l.played in
    record {
      game_type : now.game_type ≡ whole.game_type;
      made : now.made ≡ take (length whole.made - l.i) whole.made;
      board : IsBoard (position now).board;
      counted : (p : Position) → IsBoard p.board → l.root ≡ key p → (j : ℕ) (m : Move) → slice_get l.moves j ≡ Some m
          → slice_index l.counts j ≡ slice_index l.initial.counts j + line_count p m (position now) (drop (length whole.made - l.i) whole.made);
      bound : (j : ℕ) → j < length l.initial.counts → slice_index l.counts j ≤ slice_index l.initial.counts j + l.i;
    }
