use Rattle.std.proofs.Common.{rules, ◌≡◌, ◌≤◌, ◌+◌, ◌-◌, length, refl, sym, ◌∙◌, ap, subst, arith}
use Rattle.std.specs.Prelude.{Some, slice_get}
use Rattle.std.proofs.lemmas.Option.{slice_get_read}
use Rattle.hive_model.specs.Lists.{IsOn}
use Rattle.hive_model.specs.Legal.{moves}
use Rattle.hive_model.specs.Histories.{History, position}
use Rattle.game_text.proofs.PlayedLaws.{played_none, played_legal, played_on}
use Rattle.game_text.proofs.playing.played.Goals as goal

pub loop-m-init : goal.loop-m-init
loop-m-init g c =
    let game = g.G.Game.history c.in_ok-game.game in
    let room : length c.args.moves.now + c.args.room ≤ game.spare = search rules in
    let less : length c.args.moves.now ≤ game.spare = omega (arith, room) in record {
      played = played_none c.args.game_type c.args.moves.now game c.in_ok-game.ensures.kind c.in_ok-game.ensures.fresh less c.requires.game;
      room = omega (arith, room);
    }

pub play-requires-clause-legal : goal.play-requires-clause-legal
play-requires-clause-legal g c =
    let at = slice_get_read c.args.moves.now (length c.args.moves.now) c.loop-m.m-index c.m-item.result refl c.loop-m-test.true c.m-item.is in
    subst (λ m. IsOn (moves (position (g.G.Game.history c.loop-m.game))) m) (sym c.again.ensures)
    (played_legal c.args.game_type c.args.moves.now (g.G.Game.history c.loop-m.game) c.loop-m.m-index c.m-item.result c.loop-m.invariant.played at)

pub play-requires-clause-room : goal.play-requires-clause-room
play-requires-clause-room g c =
    let room = c.loop-m.invariant.room in
    let less = c.loop-m-test.true in
    omega (arith, room, less)

pub loop-m-preserved : goal.loop-m-preserved
loop-m-preserved g c =
    let at = slice_get_read c.args.moves.now (length c.args.moves.now) c.loop-m.m-index c.m-item.result refl c.loop-m-test.true c.m-item.is in
    let at2 : slice_get c.args.moves.now c.loop-m.m-index ≡ Some c.again.result = at ∙ ap Some (sym c.again.ensures) in
    let room = c.loop-m.invariant.room in
    let less = c.loop-m-test.true in
    let spare : (g.G.Game.history c.play.new.self).spare ≡ (g.G.Game.history c.loop-m.game).spare - 1 = ap (λ (z : History). z.spare) c.play.ensures.moved in record {
      played = played_on c.args.game_type c.args.moves.now (g.G.Game.history c.loop-m.game) (g.G.Game.history c.play.new.self) c.loop-m.m-index c.again.result c.loop-m.invariant.played at2 c.loop-m-test.true c.play.ensures.moved;
      room = omega (arith, room, less, spare);
    }

pub returns-clause-room : goal.returns-clause-room
returns-clause-room g c =
    let room = c.loop-m.invariant.room in
    let less = c.loop-m-test.false in
    omega (arith, room, less)
