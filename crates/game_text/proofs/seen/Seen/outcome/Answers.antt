use Rattle.std.proofs.Common.{◌∙◌, ap}
use Rattle.hive_model.specs.Repetition.{ends_as}
use Rattle.game_text.specs.Reading.{is_third}
use Rattle.game_text.proofs.SeenLaws.{seen_some, outcome_seen}
use Rattle.game_text.proofs.seen.Seen.outcome.Goals as goal

pub ends_as-requires : goal.ends_as-requires
ends_as-requires g c = seen_some c.args.self.now (g.G.Game.history c.args.game.now) c.requires

pub returns : goal.returns
returns g c =
    c.ends_as.ensures ∙ ap (ends_as (is_third c.args.self.now.repetition c.args.self.now.keys)) c.state.ensures.state
    ∙ outcome_seen c.args.self.now (g.G.Game.history c.args.game.now) c.requires
