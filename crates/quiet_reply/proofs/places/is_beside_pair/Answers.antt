use Rattle.std.proofs.Common.{sym, ◌∙◌}
use Rattle.hive_model.specs.Boards.{is_occupied}
use Rattle.hive_model.specs.Neighbours.{ring}
use Rattle.cut_keeper.proofs.RingLaws.{arc_mask}
use Rattle.quiet_reply.proofs.Tests.{no_option}
use Rattle.quiet_reply.proofs.places.is_beside_pair.Goals as goal

pub returns-then-arcs-eq1 : goal.returns-then-arcs-eq1
returns-then-arcs-eq1 g c t =
    let b = g.B.Board.stacks c.args.board.now in
    let mask = c.neighbours-mask.ensures.mask in
    record {
      arc = arc_mask b c.args.place c.neighbours-mask.result mask (sym c.arcs.ensures ∙ c.if-arcs-eq1.true);
      more = λ d e. c.only_in.ensures.none (no_option c.only_in.result (sym c.is_some.ensures ∙ c.if-is_some.false)) d (mask ∙ e);
      ends = c.all_are_ends.ensures b c.args.place mask t;
    }
