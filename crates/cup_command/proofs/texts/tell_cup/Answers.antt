use Rattle.std.proofs.Common.{◌∙◌}
use Rattle.std.specs.List.{zip}
use Rattle.cup_command.specs.Links.{jobs_text}
use Rattle.cup_command.proofs.Steps.{both-written, same-many}
use Rattle.cup_command.proofs.texts.tell_cup.Goals as goal

pub standings_of-requires : goal.standings_of-requires
standings_of-requires g c = record {
  some = c.requires.some;
  few = c.requires.few;
  games = c.requires.jobs ∙ c.requires.games;
  played = c.requires.played;
}

pub write_jobs-requires : goal.write_jobs-requires
write_jobs-requires g c = record {
  same = same-many c.args.games.now c.args.jobs.now c.requires.jobs;
  setups = c.requires.setups;
}

pub returns : goal.returns
returns g c = (
  c.in_ok-places.places,
  c.in_ok-places.ensures,
  both-written c.args.programs.now (jobs_text c.args.setup (zip c.args.games.now c.args.jobs.now)) c.new-text.result c.write_jobs.new.out c.write_places.new.out c.items.result.now c.in_ok-places.places
      c.new-text.ensures c.in_ok-write_jobs.ensures c.items.ensures c.in_ok-write_places.ensures,
)
