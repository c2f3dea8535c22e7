use Rattle.std.proofs.Common.{rules, ap, arith, ◌+◌, ◌*◌, ◌∙◌, ◌<◌, ◌≡◌, get_or}
use Rattle.std.specs.Prelude.{slice_set}
use Rattle.tournament_core.specs.Counts.{count_at, one_at}
use Rattle.tournament_core.proofs.GridLemmas.{read-at, counted-at}
use Rattle.tournament_core.proofs.grid.Grid.add.Goals as goal

pub overflow_add-index_mut : goal.overflow_add-index_mut
unfolding count_at
overflow_add-index_mut c =
    let row : c.args.row < c.self.inside.width = search rules in
    let column : c.args.column < c.self.inside.width = search rules in
    let width_is : c.self.inside.width ≡ c.args.self.now.width = search rules in
    let counts_is : c.self.inside.cells.items ≡ c.args.self.now.counts = search rules in
    let is : c.index_mut.result.now ≡ count_at c.args.self.now c.args.row c.args.column =
    read-at c.self.inside.cells.items c.self.inside.width c.args.row c.args.column c.index_mut.result.now row column c.self.invariant.whole (search rules)
    ∙ (λ i. get_or (counts_is i) (c.args.row * width_is i + c.args.column) 0) in
    record { fits = omega (arith, is, c.requires.room) }

pub returns-clause-counted : goal.returns-clause-counted
returns-clause-counted c =
    let row : c.args.row < c.self.inside.width = search rules in
    let column : c.args.column < c.self.inside.width = search rules in
    let width_is : c.self.inside.width ≡ c.args.self.now.width = search rules in
    let counts_is : c.self.inside.cells.items ≡ c.args.self.now.counts = search rules in
    let is = read-at c.self.inside.cells.items c.self.inside.width c.args.row c.args.column c.index_mut.result.now row column c.self.invariant.whole (search rules) in
    λ i j low_i low_j.
    let first : i < c.self.inside.width = search rules in
    let second : j < c.self.inside.width = search rules in
    ap (λ v. count_at (record { width = c.self.inside.width; counts = slice_set c.self.inside.cells.items (c.args.row * c.self.inside.width + c.args.column) (v + 1) }) i j) is
    ∙ counted-at c.self.inside.cells.items c.self.inside.width c.args.row c.args.column row column c.self.invariant.whole i j first second
    ∙ (λ x. count_at (record { width = width_is x; counts = counts_is x }) i j + one_at c.args.row c.args.column i j)
