use Rattle.std.proofs.Common.{ap, sym, ◌∙◌, ◌++◌, ◌∷◌, []}
use Rattle.game_text.proofs.WriteLaws.{taken_next}
use Rattle.count_share.proofs.copies.same_game.Goals as goal

pub loop-i-preserved : goal.loop-i-preserved
loop-i-preserved g c =
    c.in_ok-push.ensures.items ∙ ap (λ xs. xs ++ c.move_at.result ∷ []) c.loop-i.invariant
    ∙ sym (taken_next (g.G.Game.history c.args.game.now).made c.loop-i.i c.move_at.result c.move_at.ensures)
