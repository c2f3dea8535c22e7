use Rattle.std.proofs.Common.{take}
use Rattle.tournament_games.proofs.Steps.{Lined}
use Rattle.tournament_games.proofs.wave_text.tell_wave.Given as goal

abbrev pub invariant-loop-place : goal.invariant-loop-place
invariant-loop-place g l = Lined (take l.place l.jobs) l.place l.text l.fn.tally l.tally
