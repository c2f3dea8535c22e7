use Rattle.std.proofs.Common.{false}
use Rattle.game_text.proofs.LineLaws.{game_found, game_again}
use Rattle.game_text.proofs.RefusalLaws.{refused_found, refused_again}
use Rattle.game_text.proofs.laws.lines_are_read.Goals as goal

pub returns-clause-games : goal.returns-clause-games
returns-clause-games c line g = (game_found line g, λ is. game_again line g.game_type g.moves is)

pub returns-clause-faults : goal.returns-clause-faults
returns-clause-faults c line fault = (refused_found false line fault, refused_again false line fault)
