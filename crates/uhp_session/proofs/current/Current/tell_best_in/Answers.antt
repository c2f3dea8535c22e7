use Rattle.std.proofs.Common.{◌≡◌, sym, ap}
use Rattle.hive_model.specs.Histories.{History, position}
use Rattle.uhp_session.proofs.BestLaws.{best_on_history}
use Rattle.uhp_session.proofs.current.Current.tell_best_in.Goals as goal

pub tell_move-requires : goal.tell_move-requires
tell_move-requires g c =
    let before : History = g.G.Game.history c.reserve.new.self in
    let now : History = g.G.Game.history c.best_in-found.new.game in
    let same : now ≡ before = c.best_in-found.ensures.game in
    best_on_history before (record { game_type = now.game_type; made = now.made; repetition = c.args.self.now.repetition }) c.best_in-found.result.1.depth c.best_in-found.result.0.best (sym (ap position same)) c.best_in-found.ensures.top.first
