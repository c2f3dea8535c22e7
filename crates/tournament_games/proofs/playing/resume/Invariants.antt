use Rattle.std.proofs.Common.{◌≡◌, take}
use Rattle.tournament_core.specs.Counts.{IsTallyOf}
use Rattle.tournament_games.specs.Waves.{resumed}
use Rattle.tournament_games.proofs.playing.resume.Given as goal

abbrev pub invariant-loop-place : goal.invariant-loop-place
invariant-loop-place l = record {
  engines : l.tally.engines ≡ l.plan.engines;
  games : l.tally.games ≡ l.place;
  noted : IsTallyOf (resumed l.plan (take l.place l.ends)) l.tally;
}
