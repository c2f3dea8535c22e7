use Rattle.std.proofs.Common.{rules, ◌≡◌, subst}
use Rattle.hive_model.specs.Lists.{IsOn}
use Rattle.hive_model.specs.Legal.{moves}
use Rattle.hive_model.specs.Stack.{level_of}
use Rattle.uhp_session.specs.Answers.{reached}
use Rattle.uhp_session.proofs.KeptLaws.{kept_within}
use Rattle.uhp_session.proofs.current.Current.tell_moves.Goals as goal

pub joined_moves-requires-clause-within : goal.joined_moves-requires-clause-within
joined_moves-requires-clause-within g c = λ m on.
    let level : level_of c.list.new.out 0 ≡ moves (reached c.args.self.now) = search rules in
    let kind : (g.G.Game.history c.self.inside.game).game_type ≡ c.args.self.now.game_type = search rules in
    let made : (g.G.Game.history c.self.inside.game).made ≡ c.args.self.now.made = search rules in
    kept_within (g.G.Game.history c.self.inside.game) c.args.self.now m kind made c.lemma_sound.ensures.sound (subst (λ ms. IsOn ms m) level on)
