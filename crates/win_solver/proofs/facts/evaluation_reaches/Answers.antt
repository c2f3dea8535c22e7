use Rattle.std.proofs.Common.{arith}
use Rattle.std.proofs.lemmas.Int.{ints}
use Rattle.hive_model.specs.Evaluation.{eval}
use Rattle.hive_model.specs.Histories.{position}
use Rattle.search_laws.proofs.MinimaxLaws.{eval-within}
use Rattle.win_solver.proofs.ReachLaws.{less-is, more-is}
use Rattle.win_solver.proofs.facts.evaluation_reaches.Goals as goal

pub returns-then-least-gt-GREATEST_EVALUATION-clause-reached : goal.returns-then-least-gt-GREATEST_EVALUATION-clause-reached
returns-then-least-gt-GREATEST_EVALUATION-clause-reached g c =
    let small = eval-within (position (g.G.Game.history c.args.game.now)) in
    let great = c.if-least-gt-GREATEST_EVALUATION.true in
    let fits = c.ranges.least.sfits in
    less-is c.args.least (eval (position (g.G.Game.history c.args.game.now))) (grind (arith, ints, small.high, great, fits))

pub returns-then-least-clause-reached : goal.returns-then-least-clause-reached
returns-then-least-clause-reached g c =
    let small = eval-within (position (g.G.Game.history c.args.game.now)) in
    let low = c.if-least.true in
    let fits = c.ranges.least.sfits in
    more-is c.args.least (eval (position (g.G.Game.history c.args.game.now))) (grind (arith, ints, small.low, low, fits))
