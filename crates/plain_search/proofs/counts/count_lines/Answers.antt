use Rattle.std.proofs.Common.{arith}
use Rattle.plain_search.proofs.FewMoves.{board-few}
use Rattle.plain_search.proofs.counts.count_lines.Goals as goal

pub lines_from-requires-clause-few : goal.lines_from-requires-clause-few
lines_from-requires-clause-few g c = omega (arith, board-few _ c.lemma_sound.ensures.sound.board, c.requires.few)
