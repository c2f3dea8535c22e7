use Rattle.game_text.proofs.LineLaws.{under_found, under_again}
use Rattle.game_text.proofs.RefusalLaws.{refused_found, refused_again}
use Rattle.game_text.proofs.laws.lines_are_read_under.Goals as goal

pub returns-clause-games : goal.returns-clause-games
returns-clause-games c r line g = (under_found r line g, λ is. under_again r line g.game_type g.moves is)

pub returns-clause-faults : goal.returns-clause-faults
returns-clause-faults c r line fault = (refused_found r line fault, refused_again r line fault)
