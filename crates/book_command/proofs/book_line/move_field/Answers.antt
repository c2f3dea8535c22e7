use Rattle.hive_model.specs.Histories.{position}
use Rattle.move_text.proofs.LegalSpell.{listed_within}
use Rattle.book_command.proofs.book_line.move_field.Goals as goal

pub write_move-written-requires-clause-within : goal.write_move-written-requires-clause-within
write_move-written-requires-clause-within g c = listed_within (position (g.G.Game.history c.args.game.now)) c.args.best c.lemma_sound.ensures.sound c.requires
