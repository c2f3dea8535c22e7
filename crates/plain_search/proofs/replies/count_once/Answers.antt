use Rattle.hive_model.specs.Histories.{position}
use Rattle.plain_search.proofs.MetLaws.{known_moves, counted_moves}
use Rattle.plain_search.proofs.replies.count_once.Goals as goal

pub returns-in-Some-clause-count : goal.returns-in-Some-clause-count
returns-in-Some-clause-count g c = known_moves (position (g.G.Game.history c.args.game.now)) _ _ c.count_key-key.ensures c.in-Some.ensures.holds

pub keep-requires-clause-moves : goal.keep-requires-clause-moves
keep-requires-clause-moves g c = counted_moves (position (g.G.Game.history c.args.game.now)) _ _ c.count_key-key.ensures c.count_moves-count.ensures.counted
