use Rattle.std.proofs.Common.{◌≡◌, ◌≤◌, true, length}
use Rattle.game_text.specs.Seen.{Sees}
use Rattle.game_text.proofs.PlayedLaws.{IsPlayed}
use Rattle.game_text.proofs.writing.seen_of.Given as goal

abbrev pub invariant-loop-i : goal.invariant-loop-i
invariant-loop-i g l = record {
  played : IsPlayed (g.G.Game.history l.game).game_type (g.G.Game.history l.game).made (g.G.Game.history l.copy) l.i;
  seen : Sees l.seen (g.G.Game.history l.copy);
  rule : l.seen.repetition ≡ true;
  few : length (g.G.Game.history l.game).made ≤ 5064;
}
