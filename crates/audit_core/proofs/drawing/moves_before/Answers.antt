use Rattle.std.proofs.Common.{◌≡◌, List, subst}
use Rattle.std.proofs.lemmas.Result.{IfOk-weaker}
use Rattle.hive_model.specs.declared.places.Move.{Move}
use Rattle.hive_model.specs.Lists.{IsOn}
use Rattle.hive_model.specs.Legal.{moves}
use Rattle.hive_model.specs.Positions.{Position}
use Rattle.hive_model.specs.Histories.{position}
use Rattle.move_text.specs.Moves.{IsMoveWithin}
use Rattle.move_text.proofs.LegalSpell.{listed_within}
use Rattle.audit_core.proofs.drawing.moves_before.Goals as goal

pub returns-clause-near : goal.returns-clause-near
returns-clause-near g c =
    let p : Position = position (g.G.Game.history c.in_ok-before.before) in
    IfOk-weaker c.legal_moves.result (λ (l : List Move). l ≡ moves p) (λ (l : List Move). (m : Move) → IsOn l m → IsMoveWithin m)
    (λ l e m on. listed_within p m c.lemma_sound.ensures.sound (subst (λ (ms : List Move). IsOn ms m) e on)) c.legal_moves.ensures.listed
