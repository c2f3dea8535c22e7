use Rattle.std.proofs.Common.{◌≡◌, take}
use Rattle.count_command.specs.Parts.{part_lines}
use Rattle.count_command.proofs.parts.parts_text.Given as goal

abbrev pub invariant-loop-i : goal.invariant-loop-i
invariant-loop-i g l = record {
  game : g.G.Game.history l.game ≡ g.G.Game.history l.fn.game;
  text : l.text ≡ part_lines (g.G.Game.history l.fn.game).game_type (g.G.Game.history l.fn.game).made (take l.i l.classes.items);
}
