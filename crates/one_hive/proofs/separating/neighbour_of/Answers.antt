use Rattle.std.proofs.Common.{None, Some, Option}
use Rattle.std.specs.Prelude.{IfSome, IsTrue}
use Rattle.hive_model.specs.declared.places.Dir.{Dir}
use Rattle.hive_model.specs.Places.{step}
use Rattle.hive_model.specs.Boards.{is_occupied}
use Rattle.gates.specs.Slides.{has_dir}
use Rattle.one_hive.proofs.Taken.{taken_there}
use Rattle.one_hive.proofs.separating.neighbour_of.Goals as goal

pub returns : goal.returns
returns g c = at c.dir_amid.result c.dir_amid.ensures
  where
    at : (r : Option Dir) → IfSome r (λ d. IsTrue (has_dir c.neighbours.result d)) → IfSome r (λ d. IsTrue (is_occupied (g.B.Board.stacks c.args.board.now) (step c.args.place d)))
    at None h = h
    at (Some d) h = taken_there (g.B.Board.stacks c.args.board.now) c.args.place c.neighbours.result c.neighbours.ensures.mask d h
