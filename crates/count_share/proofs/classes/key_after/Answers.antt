use Rattle.std.proofs.Common.{◌∙◌, ap}
use Rattle.hive_model.specs.Keys.{key}
use Rattle.plain_search.proofs.PlySteps.{behind}
use Rattle.count_share.proofs.classes.key_after.Goals as goal

pub returns-clause-key : goal.returns-clause-key
returns-clause-key g c = c.key-key.ensures.key ∙ ap key (behind _ _ c.args.m c.play.ensures.moved)
