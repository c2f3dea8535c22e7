use Rattle.uhp_session.proofs.OptionLaws.{change_no_answer}
use Rattle.uhp_session.proofs.laws.options_change_no_answer.Goals as goal

pub returns : goal.returns
returns c = change_no_answer
