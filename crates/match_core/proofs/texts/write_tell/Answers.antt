use Rattle.std.proofs.Common.{rules, ◌≡◌}
use Rattle.std.specs.Vec.{vec_len}
use Rattle.hive_model.specs.Histories.{position}
use Rattle.move_text.proofs.LegalSpell.{listed_within}
use Rattle.match_core.proofs.Puts.{word_fits, move_fits, end_fits, tells_pass, tells_move}
use Rattle.match_core.proofs.texts.write_tell.Goals as goal

pub write_move-requires-clause-within : goal.write_move-requires-clause-within
write_move-requires-clause-within g c = listed_within (position (g.G.Game.history c.args.game.now)) c.args.m c.lemma_sound.ensures.sound c.requires.legal

pub put-requires-clause-short : goal.put-requires-clause-short
put-requires-clause-short g c = word_fits (vec_len c.clear.new.self) c.clear.ensures.len

pub put-requires-in-To-clause-short : goal.put-requires-in-To-clause-short
put-requires-in-To-clause-short g c = word_fits (vec_len c.clear.new.self) c.clear.ensures.len

pub put-requires-in-To-2-clause-short : goal.put-requires-in-To-2-clause-short
put-requires-in-To-2-clause-short g c = move_fits (vec_len c.clear.new.self) (vec_len c.put-in-To.new.text) c.as_bytes.result.now c.deref.result.now c.write_move.result.bytes
    c.clear.ensures.len c.put-in-To.ensures.len c.as_bytes.ensures.value c.deref.ensures.0 c.write_move.ensures.len

pub put-requires-in-To-3-clause-short : goal.put-requires-in-To-3-clause-short
put-requires-in-To-3-clause-short g c = end_fits (vec_len c.clear.new.self) (vec_len c.put-in-To.new.text) (vec_len c.put-in-To-2.new.text) c.as_bytes.result.now c.deref.result.now c.write_move.result.bytes
    c.clear.ensures.len c.put-in-To.ensures.len c.put-in-To-2.ensures.len c.as_bytes.ensures.value c.deref.ensures.0 c.write_move.ensures.len

pub put-requires-in-To-3-clause-room : goal.put-requires-in-To-3-clause-room
put-requires-in-To-3-clause-room g c = c.put-in-To-2.ensures.room

pub returns-in-Pass-clause-text : goal.returns-in-Pass-clause-text
returns-in-Pass-clause-text g c = tells_pass (position (g.G.Game.history c.args.game.now)) c.args.m c.clear.new.self.items c.put.new.text.items c.in-Pass.is c.clear.ensures.items c.put.ensures.text

pub returns-in-To-clause-text : goal.returns-in-To-clause-text
returns-in-To-clause-text g c =
    let board : g.G.Board.stacks c.args.game.now ≡ (position (g.G.Game.history c.args.game.now)).board = search rules in
    tells_move (position (g.G.Game.history c.args.game.now)) (g.G.Board.stacks c.args.game.now) c.args.m c.in-To.piece c.in-To.place
    c.clear.new.self.items c.put-in-To.new.text.items c.put-in-To-2.new.text.items c.put-in-To-3.new.text.items c.as_bytes.result.now c.deref.result.now c.write_move.result.bytes
    board c.in-To.is c.clear.ensures.items c.put-in-To.ensures.text c.put-in-To-2.ensures.text c.put-in-To-3.ensures.text c.as_bytes.ensures.value c.deref.ensures.0 c.write_move.ensures.bytes
