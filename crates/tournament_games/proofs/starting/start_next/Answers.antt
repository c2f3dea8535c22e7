use Rattle.cup_command.proofs.Kept.{on-err}
use Rattle.tournament_games.specs.Links.{all_links}
use Rattle.tournament_games.proofs.Starts.{shuts-behind, shuts-more}
use Rattle.tournament_games.proofs.starting.start_next.Goals as goal

pub returns-in-Ok-clause-shut : goal.returns-in-Ok-clause-shut
returns-in-Ok-clause-shut g c =
    on-err _ _ (shuts-more c.args.programs.now c.args.jobs.items c.in-Ok.job (g.P.Spawner.engines c.args.spawner.now) (g.P.Spawner.engines c.start_game.new.spawner) (g.P.Spawner.engines c.keep_job.new.spawner) c.in-Ok.ensures.started)
    c.keep_job.result c.keep_job.ensures.shut

pub returns-in-Err-clause-shut : goal.returns-in-Err-clause-shut
returns-in-Err-clause-shut g c =
    shuts-behind (all_links c.args.jobs.items) (g.P.Spawner.engines c.args.spawner.now) (g.P.Spawner.engines c.start_game.new.spawner) (g.P.Spawner.engines c.close_all.new.spawner) c.in-Err.ensures.shut c.close_all.ensures.sent c.close_all.ensures.none_started.to_come
