use Rattle.hive_model.proofs.PlaceLemmas.{wider}
use Rattle.hand_rules.proofs.colours.may_stand.Goals as goal

pub touches-requires-then-touches : goal.touches-requires-then-touches
touches-requires-then-touches g c = wider c.args.place c.requires
