use Rattle.std.proofs.Common.{◌≤◌, length, subst, arith}
use Rattle.hive_model.specs.Positions.{IsSound}
use Rattle.hive_model.specs.Histories.{position}
use Rattle.rule_laws.proofs.Games.{games_sound}
use Rattle.board_game.specs.Replayed.{PlayedHistory}
use Rattle.board_game.proofs.game.BoardGameGame.lemma_sound.Goals as goal

pub returns-clause-sound : goal.returns-clause-sound
returns-clause-sound g c =
    let few = c.self.invariant.0.few in
    let low : length c.self.inside.made.items ≤ 9000 = omega (arith, few) in
    subst (λ (s : PlayedHistory). IsSound (position s.history)) c.self.view_is (games_sound c.self.inside.game_type c.self.inside.made.items c.self.invariant.0.game low).0
