use Rattle.std.proofs.Common.{rules}
use Rattle.certificate_indices.proofs.WriteLaws.{wrote-then}
use Rattle.win_commands.proofs.solving.write_solution.Goals as goal

pub returns-clause-wrote : goal.returns-clause-wrote
returns-clause-wrote g c = wrote-then c.write_indices.result c.args.head.now _ _ _ _ (search rules) c.write_indices.ensures.wrote
