use Rattle.std.proofs.Common.{List, [], ◌∷◌, ◌++◌, sym, ◌∙◌, ap}
use Rattle.hive_model.specs.declared.places.Move.{Move}
use Rattle.hive_model.specs.Stack.{level_of}
use Rattle.game_text.proofs.WriteLaws.{taken_next}
use Rattle.audit_core.proofs.lists.level_moves.Goals as goal

pub loop-i-preserved : goal.loop-i-preserved
loop-i-preserved c =
    c.in_ok-push.ensures.pushed ∙ (ap (λ (r : List Move). r ++ c.get.result ∷ []) c.loop-i.invariant ∙ sym (taken_next (level_of c.args.stack.now 0) c.loop-i.i c.get.result c.get.ensures))
