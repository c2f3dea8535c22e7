use Rattle.value_table.proofs.Tables.{true-shown}
use Rattle.value_table.proofs.table.ValueTable.lemma_holds.Goals as goal

pub returns : goal.returns
returns c = true-shown c.self.inside.cache c.args.self.now c.self.invariant c.self.view_is
