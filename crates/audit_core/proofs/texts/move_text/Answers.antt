use Rattle.hive_model.specs.Histories.{position}
use Rattle.move_text.proofs.LegalSpell.{listed_within}
use Rattle.audit_core.proofs.texts.move_text.Goals as goal

pub near_text-requires : goal.near_text-requires
near_text-requires g c = listed_within (position (g.G.Game.history c.args.game.now)) c.args.m c.lemma_sound.ensures.sound c.requires
