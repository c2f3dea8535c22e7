use Rattle.std.proofs.Common.{List, ap, subst, ◌∙◌, ℕ}
use Rattle.hive_model.specs.Histories.{position}
use Rattle.strategy_check.specs.Least.{least}
use Rattle.certificate_indices.specs.Writing.{Wrote, index_lines}
use Rattle.win_solver.proofs.SolutionLaws.{least-of}
use Rattle.win_solver.proofs.solver.Solver.write_indices.Goals as goal

pub returns-clause-wrote : goal.returns-clause-wrote
returns-clause-wrote g c =
    let same =
    ap (λ k. least (position k) c.args.plies c.answer_limit-limit.result) c.solve.ensures.game
    ∙ least-of (position (g.G.Game.history c.args.game.now)) c.args.plies c.answer_limit-limit.result c.solve.result c.answer_limit-limit.ensures.limit c.solve.ensures.answer in
    subst (λ (xs : List ℕ). Wrote c.write_indices.result (index_lines xs) (g.K.Sink.written c.args.sink.now) (g.K.Sink.written c.write_indices.new.sink)) same c.write_indices.ensures.wrote
