use Rattle.std.proofs.Common.{◌≡◌, ◌*◌, ap, replicate, ◌∙◌, refl}
use Rattle.tournament_core.specs.Counts.{count_at}
use Rattle.tournament_core.proofs.GridLemmas.{blank-at}
use Rattle.tournament_core.proofs.grid.Grid.new.Goals as goal

pub returns : goal.returns
returns c =
    let zeros : c.in_ok-cells.cells.items ≡ replicate (c.args.width * c.args.width) 0 = c.in_ok-cells.ensures.items_if_clones_equal (λ y same. same) in
    record {
      wide = refl;
      blank = λ i j row column. ap (λ xs. count_at (record { width = c.args.width; counts = xs }) i j) zeros ∙ blank-at c.args.width i j row column;
    }
