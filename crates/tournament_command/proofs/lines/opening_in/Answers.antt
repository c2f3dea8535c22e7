use Rattle.tournament_command.proofs.Openings.{fault_moves, game_moves}
use Rattle.tournament_command.proofs.lines.opening_in.Goals as goal

pub returns-in-Ok-clause-value : goal.returns-in-Ok-clause-value
returns-in-Ok-clause-value g c = game_moves c.args.game_type c.args.text.now c.in-Ok.game c.opening_by.result c.in-Ok.ensures.value c.opening_by.ensures.value

pub returns-in-Err-clause-value : goal.returns-in-Err-clause-value
returns-in-Err-clause-value g c = fault_moves c.args.game_type c.args.text.now c.in-Err.fault c.none_by.result c.none_by.ensures.none c.none_by.ensures.told c.in-Err.ensures.err
