use Rattle.std.proofs.Common.{sym, subst}
use Rattle.std.specs.Prelude.{IsTrue}
use Rattle.hive_model.specs.Boards.{is_occupied}
use Rattle.hive_model.specs.Hive.{except}
use Rattle.hive_model.specs.Places.{step}
use Rattle.hive_model.proofs.ReachLaws.{step_moves}
use Rattle.one_hive.proofs.RoundLaws.{other_in, parted}
use Rattle.one_hive.proofs.Taken.{taken_there}
use Rattle.one_hive.proofs.parting.walk_parts.Goals as goal

pub is_one_round-requires-clause-start : goal.is_one_round-requires-clause-start
is_one_round-requires-clause-start g c =
    let b = g.B.Board.stacks c.args.board.now in
    let o = is_occupied b in
    let there = taken_there b c.args.place c.neighbours-taken.result c.neighbours-taken.ensures.mask c.in-Some.dir c.in-Some.ensures in
    subst (λ p. IsTrue (except o c.args.place p)) (sym c.step.ensures) (other_in o c.args.place (step c.args.place c.in-Some.dir) (step_moves c.args.place c.in-Some.dir) there)

pub returns-in-Some-clause-cut : goal.returns-in-Some-clause-cut
returns-in-Some-clause-cut g c = parted (is_occupied (g.B.Board.stacks c.args.board.now)) c.args.place c.is_one_round.result c.requires.occupied c.is_one_round.ensures

pub returns-in-None-clause-cut : goal.returns-in-None-clause-cut
returns-in-None-clause-cut g c = parted (is_occupied (g.B.Board.stacks c.args.board.now)) c.args.place c.is_one_without.result c.requires.occupied c.is_one_without.ensures
