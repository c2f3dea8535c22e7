use Rattle.std.proofs.Common.{sym, ◌∙◌}
use Rattle.hive_model.specs.Boards.{is_occupied}
use Rattle.hive_model.specs.Neighbours.{ring}
use Rattle.hive_model.specs.Places.{step}
use Rattle.hive_model.proofs.PlaceLemmas.{same_place}
use Rattle.hive_model.proofs.RuleLaws.{step_once}
use Rattle.torus_board.proofs.rings.mask_after.Goals as goal

pub returns-then-is : goal.returns-then-is
returns-then-is c = record {
  mask = λ b now high turned was. c.turned.ensures (ring (is_occupied b) c.args.place) (ring (is_occupied now) c.args.place)
      (was (same_place c.args.last.place c.args.place (sym c.is.ensures ∙ c.if-is.true)))
      turned.here
      (λ e other. turned.there (step c.args.place e) (λ same. other (step_once c.args.place e c.args.dir same)));
}
