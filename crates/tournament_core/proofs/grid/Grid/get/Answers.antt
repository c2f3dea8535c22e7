use Rattle.std.proofs.Common.{rules, ◌+◌, ◌*◌, ◌<◌, ◌∙◌, ◌≡◌, get_or}
use Rattle.tournament_core.specs.Counts.{count_at}
use Rattle.tournament_core.proofs.GridLemmas.{read-at}
use Rattle.tournament_core.proofs.grid.Grid.get.Goals as goal

pub returns : goal.returns
unfolding count_at
returns c =
    let row : c.args.row < c.self.inside.width = search rules in
    let column : c.args.column < c.self.inside.width = search rules in
    let width_is : c.self.inside.width ≡ c.args.self.now.width = search rules in
    let counts_is : c.self.inside.cells.items ≡ c.args.self.now.counts = search rules in
    read-at c.self.inside.cells.items c.self.inside.width c.args.row c.args.column c.index.result.now row column c.self.invariant.whole (search rules)
    ∙ (λ i. get_or (counts_is i) (c.args.row * width_is i + c.args.column) 0)
