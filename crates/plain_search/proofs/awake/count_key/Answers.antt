use Rattle.std.proofs.Common.{◌≡◌, sym, ◌∙◌}
use Rattle.std.specs.Prelude.{None}
use Rattle.hive_model.specs.Histories.{position}
use Rattle.hive_model.specs.Keys.{key, key_of}
use Rattle.rule_laws.proofs.Games.{games_count}
use Rattle.plain_search.specs.Rested.{awake}
use Rattle.plain_search.proofs.MetLaws.{awake_key}
use Rattle.plain_search.proofs.awake.count_key.Goals as goal

pub returns-then-is_untouched : goal.returns-then-is_untouched
returns-then-is_untouched g c =
    let history = g.G.Game.history c.args.game.now in
    let p = position history in
    let kind : c.game_type.result ≡ p.game_type = c.game_type.ensures ∙ sym (games_count history.game_type history.made).game_type in
    let board = g.met.G.Game.on_board c.args.game.now in
    let side : c.side.result ≡ p.side = c.side.ensures in
    let turn : c.turn.result ≡ p.turn = c.turn.ensures in
    let same : c.of.result ≡ key (awake p) = c.of.ensures ∙ (λ i. key_of (kind i) (board i) (side i) (turn i) None) in
    awake_key p _ c.lemma_sound.ensures.sound (c.is_untouched.ensures c.if-is_untouched.true) (sym same)
