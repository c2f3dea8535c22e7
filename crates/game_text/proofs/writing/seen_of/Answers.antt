use Rattle.std.proofs.Common.{◌≡◌, ◌≤◌, ◌<◌, [], ◌∷◌, ◌++◌, length, ◌∙◌, ap, arith}
use Rattle.std.specs.Prelude.{if◌then◌else◌}
use Rattle.hive_model.specs.Histories.{position}
use Rattle.hive_model.specs.Keys.{key}
use Rattle.game_text.proofs.SeenLaws.{seen_few, sees_on, sees_same}
use Rattle.game_text.proofs.WriteLaws.{taken_size}
use Rattle.game_text.proofs.PlayedLaws.{played_none, played_legal, played_on, played_all}
use Rattle.game_text.proofs.writing.seen_of.Goals as goal

pub loop-i-init : goal.loop-i-init
loop-i-init g c =
    let game = g.G.Game.history c.args.game.now in
    let copy = g.G.Game.history c.in_ok-copy.copy in
    let kind : copy.game_type ≡ game.game_type = c.in_ok-copy.ensures.kind ∙ c.game_type.ensures in
    let plies = c.plies-plies.ensures in
    let made = plies.plies in
    let most = plies.few in
    let spare = c.in_ok-copy.ensures.room in
    let room : length game.made ≤ copy.spare = omega (arith, made, spare) in record {
      played = played_none game.game_type game.made copy kind c.in_ok-copy.ensures.fresh room c.requires;
      seen = c.in_ok-seen.ensures.seen;
      rule = c.in_ok-seen.ensures.rule;
      few = omega (arith, made, most);
    }

pub play-requires-clause-legal : goal.play-requires-clause-legal
play-requires-clause-legal g c =
    played_legal (g.G.Game.history c.args.game.now).game_type (g.G.Game.history c.args.game.now).made (g.G.Game.history c.loop-i.copy) c.loop-i.i c.move_at-m.result c.loop-i.invariant.played c.move_at-m.ensures

pub play-requires-clause-room : goal.play-requires-clause-room
play-requires-clause-room g c =
    let room = c.loop-i.invariant.played.room in
    let made = c.plies-plies.ensures.plies in
    let more = c.loop-i-test.true in
    let less : c.loop-i.i < length (g.G.Game.history c.args.game.now).made = omega (arith, made, more) in
    omega (arith, room, less)

pub note-requires : goal.note-requires
note-requires g c =
    let i = c.loop-i.invariant in
    let made = ap length i.played.made in
    let size = taken_size (g.G.Game.history c.args.game.now).made c.loop-i.i in
    let most = i.few in
    let few : length (g.G.Game.history c.loop-i.copy).made ≤ 5064 = omega (arith, made, size, most) in
    seen_few c.loop-i.seen (g.G.Game.history c.loop-i.copy) i.seen few

pub loop-i-preserved : goal.loop-i-preserved
loop-i-preserved g c =
    let i = c.loop-i.invariant in
    let made = c.plies-plies.ensures.plies in
    let more = c.loop-i-test.true in
    let less : c.loop-i.i < length (g.G.Game.history c.args.game.now).made = omega (arith, made, more) in
    let noted : c.note.new.self.keys ≡ (if c.loop-i.seen.repetition then c.loop-i.seen.keys ++ key (position (g.G.Game.history c.play.new.self)) ∷ [] else c.loop-i.seen.keys) = c.in_ok-note.ensures.pushed in record {
      played = played_on (g.G.Game.history c.args.game.now).game_type (g.G.Game.history c.args.game.now).made (g.G.Game.history c.loop-i.copy) (g.G.Game.history c.play.new.self) c.loop-i.i c.move_at-m.result i.played c.move_at-m.ensures less c.play.ensures.moved;
      seen = sees_on c.loop-i.seen.repetition c.note.new.self.repetition c.loop-i.seen.keys c.note.new.self.keys (g.G.Game.history c.loop-i.copy) (g.G.Game.history c.play.new.self) c.move_at-m.result i.seen c.play.ensures.moved c.note.ensures.same noted;
      rule = c.note.ensures.same ∙ i.rule;
      few = i.few;
    }

pub returns-clause-seen : goal.returns-clause-seen
returns-clause-seen g c =
    let i = c.loop-i.invariant in
    let made = c.plies-plies.ensures.plies in
    let past = c.loop-i-test.false in
    let all : length (g.G.Game.history c.args.game.now).made ≤ c.loop-i.i = omega (arith, made, past) in
    sees_same c.loop-i.seen (g.G.Game.history c.loop-i.copy) (g.G.Game.history c.args.game.now) i.played.kind
    (played_all (g.G.Game.history c.args.game.now).game_type (g.G.Game.history c.args.game.now).made (g.G.Game.history c.loop-i.copy) c.loop-i.i i.played all) i.seen
