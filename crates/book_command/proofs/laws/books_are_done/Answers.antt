use Rattle.book_command.proofs.RunLaws.{books_done}
use Rattle.book_command.proofs.laws.books_are_done.Goals as goal

pub returns : goal.returns
returns c = books_done
