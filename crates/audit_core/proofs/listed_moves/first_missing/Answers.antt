use Rattle.std.proofs.Common.{List, sym, subst}
use Rattle.hive_model.specs.declared.places.Move.{Move}
use Rattle.hive_model.specs.Lists.{IsOn}
use Rattle.hive_model.specs.Histories.{position}
use Rattle.hive_model.specs.Legal.{moves}
use Rattle.audit_core.proofs.Picks.{item_on}
use Rattle.audit_core.proofs.listed_moves.first_missing.Goals as goal

pub move_text-requires : goal.move_text-requires
move_text-requires g c =
    let on : IsOn c.args.legal.now c.m-item.result = item_on c.args.legal.now c.loop-m.m-index c.m-item.result c.loop-m-test.true c.m-item.is in
    subst (λ (m : Move). IsOn (moves (position (g.G.Game.history c.args.game.now))) m) (sym c.again-then-not-has_move.ensures)
    (subst (λ (ms : List Move). IsOn ms c.m-item.result) c.requires on)
