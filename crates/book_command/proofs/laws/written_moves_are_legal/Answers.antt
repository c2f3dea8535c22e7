use Rattle.book_command.proofs.RunLaws.{moves_legal}
use Rattle.book_command.proofs.laws.written_moves_are_legal.Goals as goal

pub returns : goal.returns
returns c = moves_legal
