use Rattle.std.proofs.Common.{◌≡◌, take}
use Rattle.tournament_games.proofs.openings.opening_of.Given as goal

abbrev pub invariant-loop-place : goal.invariant-loop-place
invariant-loop-place g l = l.moves ≡ take l.place (g.G.Game.history l.game).made
