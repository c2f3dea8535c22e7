use Rattle.std.proofs.Common.{rules, length}
use Rattle.cup_command.proofs.Ends.{few-jobs, of-setup-all}
use Rattle.cup_command.proofs.Kept.{always-ok}
use Rattle.cup_command.proofs.playing.run_and_tell.Goals as goal

pub run_cup-requires-clause-few : goal.run_cup-requires-clause-few
run_cup-requires-clause-few g c = λ κs outlive. few-jobs (length c.args.programs.now) c.args.games.now c.args.jobs.now c.requires.few c.requires.games c.requires.jobs

pub tell_cup-requires-clause-setups : goal.tell_cup-requires-clause-setups
tell_cup-requires-clause-setups g c = of-setup-all c.args.setup c.args.jobs.now c.run_cup.new.jobs (search rules) c.requires.ready

pub returns-clause-played : goal.returns-clause-played
returns-clause-played g c = always-ok c.tell_cup.result (search rules)
