use Rattle.tournament_games.proofs.Steps.{opening-more}
use Rattle.tournament_games.proofs.openings.opening_of.Goals as goal

pub loop-place-preserved : goal.loop-place-preserved
loop-place-preserved g c = opening-more (g.G.Game.history c.args.game.now).made c.loop-place.place c.move_at.result c.loop-place.moves c.push.new.self c.move_at.ensures c.loop-place.invariant c.in_ok-push.ensures.pushed
