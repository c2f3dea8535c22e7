use Rattle.std.proofs.Common.{◌+◌, ◌*◌, ap, ◌∙◌}
use Rattle.std.specs.List.{count_by}
use Rattle.tournament_core.specs.Ends.{won}
use Rattle.tournament_core.proofs.Tallies.{tally-wins, tally-draws}
use Rattle.tournament_core.proofs.sums.points_of.Goals as goal

pub returns-clause-points : goal.returns-clause-points
returns-clause-points c = λ games is.
    ap (λ k. 2 * k + c.draws_of.result) (c.wins_of.ensures.sum ∙ tally-wins games c.args.tally.now c.args.engine is c.requires.engine)
    ∙ ap (λ k. 2 * count_by (won c.args.engine) games + k) (c.draws_of.ensures.sum ∙ tally-draws games c.args.tally.now c.args.engine is c.requires.engine)
