use Rattle.std.proofs.Common.{◌≡◌, ◌∙◌, sym, subst, true, false}
use Rattle.hive_model.specs.Boards.{Stacks, lift}
use Rattle.hive_model.specs.PlaceLists.{AreAll}
use Rattle.hive_model.specs.Steps.{FreeStep}
use Rattle.hive_model.proofs.PlaceLemmas.{wider_on_board}
use Rattle.hive_model.proofs.PlaceListLaws.{all_none, all_same}
use Rattle.hive_model.proofs.BoardLemmas.{spot_within}
use Rattle.pillbug_throws.specs.Throwing.{ComesDown, ThrowsTo}
use Rattle.hive_model.proofs.LegalLaws.{neighbour_back}
use Rattle.pillbug_throws.proofs.ThrowParts.{spot_occupied, alone_on_top, throw_loose, throw_up, throw_down, throw_made}
use Rattle.pillbug_throws.proofs.landing.throws.Goals as goal

pub is_loose-requires-clause-occupied : goal.is_loose-requires-clause-occupied
is_loose-requires-clause-occupied g c = spot_occupied (g.B.Board.stacks c.args.board.now) c.args.thrown c.in-Some-spot.from (sym c.in-Some-spot.ensures.spot)

pub returns-then-not-is_loose : goal.returns-then-not-is_loose
returns-then-not-is_loose g c =
    let b = g.B.Board.stacks c.args.board.now in
    all_none (ThrowsTo b c.args.rest c.args.thrower c.args.thrown) c.args.out.now.items c.requires.empty (λ q h.
    let loose = throw_loose b c.args.rest c.args.thrower c.args.thrown c.in-Some.over c.in-Some-spot.from (sym c.in-Some.ensures.spot) (sym c.in-Some-spot.ensures.spot) q h in
    let wrong : false ≡ true = sym c.if-not-is_loose.true ∙ c.is_loose.ensures.1 loose in cc)

pub new-lifted-requires : goal.new-lifted-requires
new-lifted-requires g c = alone_on_top (g.B.Board.stacks c.args.board.now) c.args.thrown c.in-Some-spot.from (sym c.in-Some-spot.ensures.spot) (c.is_loose.ensures.0 c.if-not-is_loose.false).alone

pub climb_ok-requires-clause-near : goal.climb_ok-requires-clause-near
climb_ok-requires-clause-near g c = neighbour_back c.in-Some.over.place c.in-Some-spot.from.place (c.is_loose.ensures.0 c.if-not-is_loose.false).beside

pub climb_ok-requires-clause-within : goal.climb_ok-requires-clause-within
climb_ok-requires-clause-within g c = wider_on_board c.in-Some-spot.from.place (spot_within (g.B.Board.stacks c.args.board.now) c.spot.ensures.board c.args.thrown c.in-Some-spot.from (sym c.in-Some-spot.ensures.spot))

pub add_places-requires-clause-within : goal.add_places-requires-clause-within
add_places-requires-clause-within g c = wider_on_board c.in-Some.over.place (spot_within (g.B.Board.stacks c.args.board.now) c.spot.ensures.board c.args.thrower c.in-Some.over (sym c.in-Some.ensures.spot))

pub returns-then-climb_ok : goal.returns-then-climb_ok
returns-then-climb_ok g c =
    let b = g.B.Board.stacks c.args.board.now in
    let over = sym c.in-Some.ensures.spot in
    let from = sym c.in-Some-spot.ensures.spot in
    let loose = c.is_loose.ensures.0 c.if-not-is_loose.false in
    let up = subst (λ (s : Stacks). FreeStep s c.in-Some-spot.from.place c.in-Some.over.place) c.new-lifted.ensures (c.climb_ok.ensures.0 c.if-climb_ok.true) in
    let down = subst (λ (s : Stacks). AreAll (ComesDown b s c.in-Some.over.place c.in-Some-spot.from.place) c.add_places.new.out.items) c.new-lifted.ensures c.add_places.ensures in
    all_same (ComesDown b (lift b c.args.thrown) c.in-Some.over.place c.in-Some-spot.from.place) (ThrowsTo b c.args.rest c.args.thrower c.args.thrown)
    c.add_places.new.out.items
    (λ q. (
      throw_made b c.args.rest c.args.thrower c.args.thrown c.in-Some.over c.in-Some-spot.from over from loose up q,
      throw_down b c.args.rest c.args.thrower c.args.thrown c.in-Some.over c.in-Some-spot.from over from q,
    ))
    down

pub returns-else-climb_ok : goal.returns-else-climb_ok
returns-else-climb_ok g c =
    let b = g.B.Board.stacks c.args.board.now in
    all_none (ThrowsTo b c.args.rest c.args.thrower c.args.thrown) c.args.out.now.items c.requires.empty (λ q h.
    let up = throw_up b c.args.rest c.args.thrower c.args.thrown c.in-Some.over c.in-Some-spot.from (sym c.in-Some.ensures.spot) (sym c.in-Some-spot.ensures.spot) q h in
    let wrong : false ≡ true =
    sym c.if-climb_ok.false ∙ c.climb_ok.ensures.1 (subst (λ (s : Stacks). FreeStep s c.in-Some-spot.from.place c.in-Some.over.place) (sym c.new-lifted.ensures) up) in cc)
