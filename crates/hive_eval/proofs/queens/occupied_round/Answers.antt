use Rattle.std.proofs.Common.{◌≤◌, ◌∙◌, count_ones, sym, ap, subst}
use Rattle.std.proofs.lemmas.List.Sums.{count_by-le-length}
use Rattle.hive_model.specs.Boards.{is_occupied}
use Rattle.hive_model.specs.Places.{dirs}
use Rattle.hive_model.specs.Neighbours.{ring}
use Rattle.hive_eval.proofs.MaskLaws.{ones_count}
use Rattle.hive_eval.proofs.queens.occupied_round.Goals as goal

pub returns-clause-count : goal.returns-clause-count
returns-clause-count g c =
    let r = ring (is_occupied (g.B.Board.stacks c.args.board.now)) c.args.place in
    ap count_ones c.neighbours.ensures.mask ∙ ones_count r

pub returns-clause-few : goal.returns-clause-few
returns-clause-few g c = subst (λ n. n ≤ 6) (sym (returns-clause-count g c)) (count_by-le-length (ring (is_occupied (g.B.Board.stacks c.args.board.now)) c.args.place) dirs)
