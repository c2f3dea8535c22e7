use Rattle.std.proofs.Common.{rules, ◌≡◌, ◌-◌, take, sym, subst}
use Rattle.hive_model.specs.Positions.{opening}
use Rattle.hive_model.specs.Games.{IsGame}
use Rattle.game_text.proofs.WriteLaws.{legal_part}
use Rattle.uhp_session.proofs.current.Current.earlier.Goals as goal

pub begin-requires-clause-game : goal.begin-requires-clause-game
begin-requires-clause-game g c =
    let history = g.G.Game.history c.self.inside.game in
    let items : c.items.result.now ≡ take (c.plies.result - c.args.plies) (g.G.Game.history c.self.inside.game).made = search rules in
    subst (λ t. IsGame t c.items.result.now) (sym c.game_type.ensures)
    (subst (λ ms. IsGame history.game_type ms) (sym items) (legal_part (opening history.game_type) history.made (c.plies.result - c.args.plies) c.lemma_sound.ensures.game))
