use Rattle.hive_model.proofs.PlaceLemmas.{wider_on_board}
use Rattle.quiet_reply.proofs.places.is_quiet.Goals as goal

pub may_place-requires : goal.may_place-requires
may_place-requires g c = wider_on_board _ (c.is_inside.ensures c.if-not-is_inside.false)

pub returns : goal.returns
returns g c t = record {
  within = c.is_inside.ensures c.if-not-is_inside.false;
  may = c.may_place.ensures.0 c.if-not-may_place.false;
  pair = c.is_beside_pair.ensures c.if-not-is_beside_pair.false;
  white = c.is_apart.ensures c.if-not-is_apart.false;
  black = c.is_apart-2.ensures t;
}
