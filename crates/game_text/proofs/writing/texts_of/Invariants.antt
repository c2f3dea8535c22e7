use Rattle.game_text.proofs.WriteLaws.{IsCopying}
use Rattle.game_text.proofs.writing.texts_of.Given as goal

abbrev pub invariant-loop-i : goal.invariant-loop-i
invariant-loop-i g l = IsCopying (g.G.Game.history l.game) (g.G.Game.history l.copy) l.i l.texts
