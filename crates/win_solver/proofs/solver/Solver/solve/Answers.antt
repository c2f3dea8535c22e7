use Rattle.std.proofs.Common.{refl, pos}
use Rattle.hive_model.specs.Histories.{position}
use Rattle.certificate_walks.specs.declared.limit.Limit.TheVariants.{AtLeast}
use Rattle.win_solver.proofs.SolutionLaws.{force-of}
use Rattle.win_solver.proofs.solver.Solver.solve.Goals as goal

pub returns-clause-answer : goal.returns-clause-answer
returns-clause-answer g c =
    force-of (position (g.G.Game.history c.args.game.now)) c.args.plies (AtLeast (pos 1000000)) c.deepen.result refl c.deepen.ensures.reached
