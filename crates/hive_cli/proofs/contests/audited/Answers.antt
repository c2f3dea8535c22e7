-- An audit starts no program if memory runs out before it begins.
use Rattle.hive_cli.proofs.RunLemmas.{starved_audited}
use Rattle.hive_cli.proofs.contests.audited.Goals as goal

pub returns-in_default-clause-program : goal.returns-in_default-clause-program
returns-in_default-clause-program g c =
    starved_audited c.args.words.now c.args.audit (g.P.Spawner.engines c.args.spawner.now) c.requires.words
