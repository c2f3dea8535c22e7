use Rattle.hive_model.specs.Histories.{position}
use Rattle.move_text.proofs.LegalSpell.{listed_within}
use Rattle.certificate_text.proofs.writing.push_move.Goals as goal

pub write_move-written-requires-clause-within : goal.write_move-written-requires-clause-within
write_move-written-requires-clause-within g c = listed_within (position (g.G.Game.history c.args.game.now)) c.args.m c.lemma_sound.ensures.sound c.requires
