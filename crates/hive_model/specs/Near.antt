-- Near places: the origin, the occupied places and their neighbours. Every legal move ends on one.
use Rattle.std.specs.Prelude.{List, [], ◌∷◌, ◌++◌}
use Rattle.std.specs.List.{flat_map}
use Rattle.std.specs.declared.cmp.Ordering.{Ordering}
use Rattle.std.specs.declared.cmp.Ordering.TheVariants.{Less, Equal, Greater}
use Rattle.hive_model.specs.declared.places.Place.{Place}
use Rattle.hive_model.specs.Places.{place_cmp, neighbours, origin}
use Rattle.hive_model.specs.Boards.{Stacks, places_of}

-- one step of an insertion: p goes before q, is q, or goes among the rest
abbrev pub placed_by : Ordering → Place → Place → List Place → List Place → List Place
placed_by Less p q qs more = p ∷ q ∷ qs
placed_by Equal p q qs more = q ∷ qs
placed_by Greater p q qs more = q ∷ more

-- the place inserted in order, unless the list has it
abbrev pub with_place : Place → List Place → List Place
with_place p [] = p ∷ []
with_place p (q ∷ qs) = placed_by (place_cmp p q) p q qs (with_place p qs)

-- the places by q and then by r, each once
abbrev pub in_order : List Place → List Place
in_order [] = []
in_order (p ∷ ps) = with_place p (in_order ps)

-- the origin, the occupied places and their neighbours
abbrev pub near : Stacks → List Place
near b = in_order (origin ∷ places_of b ++ flat_map neighbours (places_of b))
