use Rattle.std.proofs.Common.{◌≡◌, ◌++◌, drop}
use Rattle.std.specs.List.{zip}
use Rattle.cup_command.specs.Links.{jobs_text}
use Rattle.cup_command.proofs.texts.write_jobs.Given as goal

abbrev pub invariant-loop-place : goal.invariant-loop-place
invariant-loop-place g l = l.out ++ jobs_text l.setup (drop l.place (zip l.games l.jobs)) ≡ l.fn.out ++ jobs_text l.setup (zip l.games l.jobs)
