use Rattle.std.proofs.Common.{subst, sym}
use Rattle.hive_model.specs.Histories.{History, position}
use Rattle.hive_model.specs.Legal.{moves}
use Rattle.hive_model.specs.Lists.{IsOn}
use Rattle.uhp_session.proofs.BestLaws.{best_on}
use Rattle.hive_library.proofs.games.best_of.Goals as goal

pub text_in-requires : goal.text_in-requires
text_in-requires g c =
    let m = c.best_at-found.result.best in
    let here : History = g.G.Game.history c.args.game.now in
    record { legal = subst (λ (k : History). IsOn (moves (position k)) m) (sym c.best_at-found.ensures.game) (best_on (position here) c.args.depth m c.best_at-found.ensures.first) }
