use Rattle.std.proofs.Common.{rules, ◌≡◌, ◌≤◌, [], ◌∷◌, ◌++◌, length, ◌∙◌, arith}
use Rattle.std.specs.Prelude.{if◌then◌else◌}
use Rattle.hive_model.specs.Histories.{position}
use Rattle.hive_model.specs.Keys.{key}
use Rattle.match_core.specs.Keeps.{IsTelling}
use Rattle.match_core.proofs.Sees.{telling, before_few, noted}
use Rattle.match_core.proofs.referee.Referee.decide.Goals as goal

pub note-requires : goal.note-requires
note-requires g c =
    let game = g.G.Game.history c.self.inside.game in
    let told : IsTelling c.self.inside.stage = search rules in
    let few : length game.made ≤ 1000 = search rules in
    before_few c.self.inside.seen game (telling c.self.inside.stage c.self.inside.seen game told c.self.invariant.sees) few

pub invariant_of-self-2 : goal.invariant_of-self-2
invariant_of-self-2 g c =
    let game = g.G.Game.history c.self.inside.game in
    let i = c.self.invariant in
    let told : IsTelling c.self.inside.stage = search rules in
    let pushed : c.note.new.self.keys ≡ (if c.self.inside.seen.repetition then c.self.inside.seen.keys ++ key (position game) ∷ [] else c.self.inside.seen.keys) = search rules in
    let more : length game.made ≤ c.self.inside.setup.limit = search rules in
    record {
      kind = i.kind;
      same = i.same;
      spare = i.spare;
      setup = i.setup;
      within = i.within;
      line = i.line;
      asked = i.asked;
      count = i.count;
      short = i.short;
      rule = c.note.ensures.same ∙ i.rule;
      sees = noted c.self.inside.seen c.note.new.self game (telling c.self.inside.stage c.self.inside.seen game told i.sees) c.note.ensures.same pushed;
      fits = (tt, omega (arith, more));
      has_room = i.has_room;
    }
