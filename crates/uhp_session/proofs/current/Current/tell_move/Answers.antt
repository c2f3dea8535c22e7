use Rattle.std.proofs.Common.{rules, ◌≡◌}
use Rattle.uhp_session.proofs.KeptLaws.{kept_within}
use Rattle.uhp_session.proofs.current.Current.tell_move.Goals as goal

pub write_move-written-requires-clause-within : goal.write_move-written-requires-clause-within
write_move-written-requires-clause-within g c =
    let kind : (g.G.Game.history c.self.inside.game).game_type ≡ c.args.self.now.game_type = search rules in
    let made : (g.G.Game.history c.self.inside.game).made ≡ c.args.self.now.made = search rules in
    kept_within (g.G.Game.history c.self.inside.game) c.args.self.now c.args.m kind made c.lemma_sound.ensures.sound c.requires
