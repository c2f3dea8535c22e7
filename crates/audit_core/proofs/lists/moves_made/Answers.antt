use Rattle.std.proofs.Common.{List, [], ◌∷◌, ◌++◌, sym, ◌∙◌, ap}
use Rattle.hive_model.specs.declared.places.Move.{Move}
use Rattle.game_text.proofs.WriteLaws.{taken_next}
use Rattle.audit_core.proofs.lists.moves_made.Goals as goal

pub loop-i-preserved : goal.loop-i-preserved
loop-i-preserved g c =
    c.in_ok-push.ensures.pushed ∙ (ap (λ (r : List Move). r ++ c.move_at.result ∷ []) c.loop-i.invariant ∙ sym (taken_next (g.G.Game.history c.args.game.now).made c.loop-i.i c.move_at.result c.move_at.ensures))
