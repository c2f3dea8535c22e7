use Rattle.std.proofs.Common.{List, subst}
use Rattle.cup_command.specs.Links.{ClosesLinks}
use Rattle.tournament_games.specs.Games.{Job}
use Rattle.tournament_games.specs.Links.{all_links, links_of}
use Rattle.tournament_games.proofs.Starts.{shuts-jobs}
use Rattle.tournament_games.proofs.starting.keep_job.Goals as goal

pub returns-in-Err-clause-shut : goal.returns-in-Err-clause-shut
returns-in-Err-clause-shut g c =
    let old = g.P.Spawner.engines c.args.spawner.now in
    let mid = g.P.Spawner.engines c.close_all.new.spawner in
    let new = g.P.Spawner.engines c.close_job.new.spawner in
    shuts-jobs c.args.jobs.items c.args.job old mid new
    (subst (λ (js : List Job). ClosesLinks old.sent mid.sent (all_links js)) c.in-Err.ensures.items c.close_all.ensures.sent)
    (subst (λ (j : Job). ClosesLinks mid.sent new.sent (links_of j)) c.in-Err.ensures.value_returned c.close_job.ensures.sent)
    c.close_all.ensures.none_started.to_come c.close_job.ensures.none_started.to_come
