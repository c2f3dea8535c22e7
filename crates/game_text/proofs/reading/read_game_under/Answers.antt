use Rattle.game_text.proofs.LineLaws.{agrees_line, agrees_only, agrees_ok, agrees_err}
use Rattle.game_text.proofs.RefusalLaws.{agrees_refused}
use Rattle.game_text.proofs.reading.read_game_under.Goals as goal

pub returns-clause-game : goal.returns-clause-game
returns-clause-game g c = agrees_line c.args.repetition c.args.text.now c.game_of.result c.game_of.ensures

pub returns-clause-only : goal.returns-clause-only
returns-clause-only g c = agrees_only c.args.repetition c.args.text.now c.game_of.result c.game_of.ensures

pub returns-clause-value : goal.returns-clause-value
returns-clause-value g c = agrees_ok c.args.repetition c.args.text.now c.game_of.result c.game_of.ensures

pub returns-clause-err : goal.returns-clause-err
returns-clause-err g c = agrees_err c.args.repetition c.args.text.now c.game_of.result c.game_of.ensures

pub returns-clause-refused : goal.returns-clause-refused
returns-clause-refused g c = agrees_refused c.args.repetition c.args.text.now c.game_of.result c.game_of.ensures
