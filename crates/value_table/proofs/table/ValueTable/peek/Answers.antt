use Rattle.std.proofs.Common.{ap, ◌∙◌}
use Rattle.value_table.specs.Kept.{TableParts, kept}
use Rattle.value_table.proofs.table.ValueTable.peek.Goals as goal

pub returns : goal.returns
returns c =
    c.copied.ensures ∙ c.peek.ensures
    ∙ ap (λ (t : TableParts). kept t c.args.key.now) c.self.view_is
