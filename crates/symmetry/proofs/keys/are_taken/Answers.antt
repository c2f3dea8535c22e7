use Rattle.std.proofs.Common.{sym, ◌∙◌, arith}
use Rattle.symmetry.proofs.keys.are_taken.Goals as goal

pub is_taken-requires-clause-from : goal.is_taken-requires-clause-from
is_taken-requires-clause-from c = λ s e. c.requires.from c.at-piece.result s (omega arith) (sym c.spot.ensures.spot ∙ e)
