use Rattle.std.proofs.Common.{length, ap, ◌∙◌}
use Rattle.hive_model.specs.Legal.{moves}
use Rattle.hive_model.specs.Positions.{Position}
use Rattle.hive_model.specs.Histories.{position, with_move}
use Rattle.plain_search.proofs.MetLaws.{after_rest}
use Rattle.plain_search.proofs.PlySteps.{behind}
use Rattle.plain_search.proofs.replies.replies_after.Goals as goal

pub returns-clause-count : goal.returns-clause-count
returns-clause-count g c =
    let here = behind _ _ c.args.m (c.play.ensures.moved ∙ ap (with_move (g.G.Game.history c.args.game.now)) c.again.ensures) in
    c.count_once-replies.ensures.count ∙ ap (λ (p : Position). length (moves p)) here

pub count_once-replies-requires : goal.count_once-replies-requires
count_once-replies-requires g c =
    let here = behind _ _ c.args.m (c.play.ensures.moved ∙ ap (with_move (g.G.Game.history c.args.game.now)) c.again.ensures) in
    ap (λ (p : Position). p.rest) here ∙ after_rest (position (g.G.Game.history c.args.game.now)) c.args.m
