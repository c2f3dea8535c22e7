use Rattle.std.proofs.Common.{refl}
use Rattle.cup_command.proofs.Kept.{none-at-all, none-then}
use Rattle.cup_command.proofs.Left.{closes-last}
use Rattle.cup_command.proofs.links.keep_game.Goals as goal

pub returns-in-Err-clause-closed : goal.returns-in-Err-clause-closed
returns-in-Err-clause-closed g c =
    closes-last c.push.new.self.items c.args.jobs.items c.in-Err.failed.value c.args.job (g.P.Spawner.engines c.args.spawner.now).sent (g.P.Spawner.engines c.close_links.new.spawner).sent (g.P.Spawner.engines c.close_game.new.spawner).sent
    c.in-Err.ensures.items c.in-Err.ensures.value_returned c.close_links.ensures.sent c.close_game.ensures.sent

pub returns-in-Err-clause-memory : goal.returns-in-Err-clause-memory
returns-in-Err-clause-memory g c = λ e. cc

pub returns-in-Err-clause-none_started : goal.returns-in-Err-clause-none_started
returns-in-Err-clause-none_started g c =
    none-then (g.P.Spawner.engines c.args.spawner.now) (g.P.Spawner.engines c.close_links.new.spawner) (g.P.Spawner.engines c.close_game.new.spawner) c.close_links.ensures.none_started c.close_game.ensures.none_started

pub returns-in-Ok-clause-kept : goal.returns-in-Ok-clause-kept
returns-in-Ok-clause-kept g c = c.in-Ok.ensures.items

pub returns-in-Ok-clause-untouched : goal.returns-in-Ok-clause-untouched
returns-in-Ok-clause-untouched g c = refl

pub returns-in-Ok-clause-memory : goal.returns-in-Ok-clause-memory
returns-in-Ok-clause-memory g c = λ e. cc

pub returns-in-Ok-clause-none_started : goal.returns-in-Ok-clause-none_started
returns-in-Ok-clause-none_started g c = none-at-all (g.P.Spawner.engines c.args.spawner.now)
