use Rattle.std.proofs.Common.{subst, sym}
use Rattle.hive_model.specs.Lists.{IsOn}
use Rattle.hive_model.specs.Legal.{moves}
use Rattle.uhp_session.specs.Answers.{CurrentGame, reached}
use Rattle.uhp_session.proofs.BestLaws.{best_on}
use Rattle.uhp_session.proofs.current.Current.tell_best.Goals as goal

pub tell_move-requires : goal.tell_move-requires
tell_move-requires g c =
    subst (λ (b : CurrentGame). IsOn (moves (reached b)) c.in_ok-found.found) (sym c.in_ok-found.ensures.same) (best_on (reached c.args.self.now) c.args.depth c.in_ok-found.found c.in_ok-found.ensures.best)
