use Rattle.move_text.proofs.LegalSpell.{legal_denotes, legal_within, listed_within}
use Rattle.move_text.proofs.laws.texts_denote.Goals as goal

pub returns-clause-denote : goal.returns-clause-denote
returns-clause-denote c = legal_denotes

pub returns-clause-within : goal.returns-clause-within
returns-clause-within c = legal_within

pub returns-clause-listed : goal.returns-clause-listed
returns-clause-listed c = listed_within
