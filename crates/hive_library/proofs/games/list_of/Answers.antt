use Rattle.std.proofs.Common.{rules, ◌≡◌, subst}
use Rattle.hive_model.specs.Histories.{position}
use Rattle.hive_model.specs.Legal.{moves}
use Rattle.hive_model.specs.Lists.{IsOn}
use Rattle.hive_model.specs.Stack.{level_of}
use Rattle.move_text.proofs.LegalSpell.{listed_within}
use Rattle.hive_library.proofs.games.list_of.Goals as goal

pub joined_moves-requires-clause-within : goal.joined_moves-requires-clause-within
joined_moves-requires-clause-within g c = λ m on.
    let level : level_of c.list.new.out 0 ≡ moves (position (g.G.Game.history c.list.new.self)) = search rules in
    listed_within (position (g.G.Game.history c.list.new.self)) m c.lemma_sound.ensures.sound (subst (λ ms. IsOn ms m) level on)
