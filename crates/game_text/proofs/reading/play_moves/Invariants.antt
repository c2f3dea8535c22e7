use Rattle.std.proofs.Common.{◌≡◌, ◌≤◌, ◌+◌, length}
use Rattle.hive_model.specs.Strings.{parts}
use Rattle.game_text.specs.Reading.{moves_from}
use Rattle.game_text.specs.Seen.{Sees}
use Rattle.game_text.proofs.ReadLaws.{IsUnderWay}
use Rattle.game_text.proofs.reading.play_moves.Given as goal

abbrev pub invariant-parts : goal.invariant-parts
invariant-parts g l = record {
  way : IsUnderWay l.fn.seen.repetition (g.G.Game.history l.game) (g.G.Game.history l.fn.game).game_type l.moves (parts l.rest) l.number (moves_from l.fn.seen.repetition (g.G.Game.history l.fn.game).game_type (parts l.text));
  seen : Sees l.seen (g.G.Game.history l.game);
  rule : l.seen.repetition ≡ l.fn.seen.repetition;
  counted : l.number + length l.rest ≤ length l.text + 1;
  first : 1 ≤ l.number;
  short : length l.text ≤ 65536;
}

abbrev pub decreases-parts : goal.decreases-parts
decreases-parts g l = length l.rest
