use Rattle.std.proofs.Common.{◌≤◌, ◌+◌, length}
use Rattle.game_text.proofs.PlayedLaws.{IsPlayed}
use Rattle.game_text.proofs.playing.played.Given as goal

abbrev pub invariant-loop-m : goal.invariant-loop-m
invariant-loop-m g l = record {
  played : IsPlayed l.fn.game_type l.fn.moves (g.G.Game.history l.game) l.m-index;
  room : length l.fn.moves + l.fn.room ≤ l.m-index + (g.G.Game.history l.game).spare;
}
