use Rattle.std.proofs.Common.{rules, ◌≡◌, ◌∷◌, ◌++◌, []}
use Rattle.std.specs.Prelude.{if◌then◌else◌}
use Rattle.hive_model.specs.Histories.{position}
use Rattle.hive_model.specs.Keys.{key}
use Rattle.game_text.proofs.SeenLaws.{sees_first}
use Rattle.game_text.proofs.seen.Seen.of.Goals as goal

pub returns-clause-seen : goal.returns-clause-seen
returns-clause-seen g c =
    let noted : c.note.new.self.keys ≡ (if c.args.repetition then c.new.result ++ key (position (g.G.Game.history c.args.game.now)) ∷ [] else c.new.result) = search rules in
    sees_first c.args.repetition c.note.new.self.repetition c.new.result c.note.new.self.keys (g.G.Game.history c.args.game.now) c.requires c.new.ensures c.note.ensures.same noted
