-- Worked rows of single bugs, computed.
use Rattle.std.proofs.Common.{◌≡◌, true, false, List, [], ◌∷◌, refl, pos, negsuc}
use Rattle.std.specs.List.{filter}
use Rattle.hive_model.specs.declared.pieces.Kind.{Kind}
use Rattle.hive_model.specs.declared.pieces.Kind.TheVariants.{Queen, Spider, Beetle, Grasshopper, Ant, Ladybug}
use Rattle.hive_model.specs.declared.places.Place.{Place}
use Rattle.hive_model.specs.Places.{origin}
use Rattle.hive_model.specs.Boards.{Stacks, put}
use Rattle.hive_model.specs.Steps.{is_climbing_step, is_free}
use Rattle.hive_model.specs.Near.{near}
use Rattle.hive_model.specs.Reach.{reaches, copies}
use Rattle.hive_model.proofs.Worked.{place}

-- Two spiders side by side, and a bug on the west end: the places that each kind reaches from
-- there.

pair_of_spiders : Stacks
pair_of_spiders = put (put [] 1 origin) 15 (place (pos 1) (pos 0))

abbrev reached : Kind → List Place
reached k = filter (reaches k pair_of_spiders (place (negsuc 0) (pos 0))) (near pair_of_spiders)

-- a queen slides one place along the hive
queen_slides_one_place : reached Queen ≡ place (negsuc 0) (pos 1) ∷ place (pos 0) (negsuc 0) ∷ []
unfolding pair_of_spiders
queen_slides_one_place = refl

-- a beetle does so too, or climbs onto its neighbour
beetle_slides_or_climbs : reached Beetle ≡ place (negsuc 0) (pos 1) ∷ place (pos 0) (negsuc 0) ∷ origin ∷ []
unfolding pair_of_spiders
beetle_slides_or_climbs = refl

-- a grasshopper hops over the row of two
grasshopper_hops_over_the_row : reached Grasshopper ≡ place (pos 2) (pos 0) ∷ []
unfolding pair_of_spiders
grasshopper_hops_over_the_row = refl

-- a spider goes three places, on either side
spider_goes_three_places : reached Spider ≡ place (pos 1) (pos 1) ∷ place (pos 2) (negsuc 0) ∷ []
unfolding pair_of_spiders
spider_goes_three_places = refl

-- an ant goes to every place round the two
ant_goes_all_round : reached Ant ≡ place (negsuc 0) (pos 1) ∷ place (pos 0) (negsuc 0) ∷ place (pos 0) (pos 1) ∷ place (pos 1) (negsuc 0) ∷ place (pos 1) (pos 1) ∷ place (pos 2) (negsuc 0) ∷ place (pos 2) (pos 0) ∷ []
unfolding pair_of_spiders
ant_goes_all_round = refl

-- a ladybug goes over the two and comes down on the other side
ladybug_goes_over_the_top : reached Ladybug ≡ place (pos 0) (pos 1) ∷ place (pos 1) (negsuc 0) ∷ place (pos 1) (pos 1) ∷ place (pos 2) (negsuc 0) ∷ place (pos 2) (pos 0) ∷ []
unfolding pair_of_spiders
ladybug_goes_over_the_top = refl

-- A ring of six single pieces round an empty place.

ring : Stacks
ring = (place (negsuc 0) (pos 0), 1 ∷ []) ∷ (place (negsuc 0) (pos 1), 2 ∷ []) ∷ (place (pos 0) (negsuc 0), 15 ∷ []) ∷ (place (pos 0) (pos 1), 16 ∷ []) ∷ (place (pos 1) (negsuc 0), 5 ∷ []) ∷ (place (pos 1) (pos 0), 19 ∷ []) ∷ []

abbrev ring_reached : Kind → Place → List Place
ring_reached k p = filter (reaches k ring p) (near ring)

-- an ant in the middle finds no way out
ant_finds_no_way_out_of_a_ring : ring_reached Ant origin ≡ []
unfolding ring
ant_finds_no_way_out_of_a_ring = refl

-- a beetle in the middle climbs onto each of the six
beetle_climbs_out_of_a_ring : ring_reached Beetle origin ≡ place (negsuc 0) (pos 0) ∷ place (negsuc 0) (pos 1) ∷ place (pos 0) (negsuc 0) ∷ place (pos 0) (pos 1) ∷ place (pos 1) (negsuc 0) ∷ place (pos 1) (pos 0) ∷ []
unfolding ring
beetle_climbs_out_of_a_ring = refl

-- an ant outside goes all round it, and not into the middle
ant_finds_no_way_into_a_ring : ring_reached Ant (place (pos 2) (pos 0)) ≡ place (negsuc 1) (pos 0) ∷ place (negsuc 1) (pos 1) ∷ place (negsuc 1) (pos 2) ∷ place (negsuc 0) (negsuc 0) ∷ place (negsuc 0) (pos 2) ∷ place (pos 0) (negsuc 1) ∷ place (pos 0) (pos 2) ∷ place (pos 1) (negsuc 1) ∷ place (pos 1) (pos 1) ∷ place (pos 2) (negsuc 1) ∷ place (pos 2) (negsuc 0) ∷ []
unfolding ring
ant_finds_no_way_into_a_ring = refl

-- Mosquitoes.

-- one that touches a mosquito and nothing else goes nowhere
mosquito_copies_no_mosquito : filter (copies (put [] 25 (place (pos 1) (pos 0))) origin) (near (put [] 25 (place (pos 1) (pos 0)))) ≡ []
mosquito_copies_no_mosquito = refl

-- one that was lifted from the top of a spider moves as a beetle, to each of the six neighbours,
-- whatever it touches
spider_and_ant : Stacks
spider_and_ant = put (put [] 15 origin) 22 (place (pos 1) (pos 0))

mosquito_on_a_stack_is_a_beetle : filter (copies spider_and_ant origin) (near spider_and_ant) ≡ place (negsuc 0) (pos 0) ∷ place (negsuc 0) (pos 1) ∷ place (pos 0) (negsuc 0) ∷ place (pos 0) (pos 1) ∷ place (pos 1) (negsuc 0) ∷ place (pos 1) (pos 0) ∷ []
unfolding spider_and_ant
mosquito_on_a_stack_is_a_beetle = refl

-- A gate: two neighbouring stacks of height two on both sides of a step.

gate : Stacks
gate = put (put (put (put (put [] 5 (place (pos 1) (pos 0))) 1 (place (pos 1) (negsuc 0))) 17 (place (pos 1) (negsuc 0))) 15 (place (pos 0) (pos 1))) 3 (place (pos 0) (pos 1))

-- from the ground up to a single piece it is shut
gate_is_shut : is_free gate origin (place (pos 1) (pos 0)) ≡ false
unfolding gate
gate_is_shut = refl

no_climb_through_a_gate : is_climbing_step gate origin (place (pos 1) (pos 0)) ≡ false
unfolding gate
no_climb_through_a_gate = refl

-- from the top of two pieces, as high as the gate, it is open
gate_is_open_from_its_height : is_free (put (put gate 8 origin) 18 origin) origin (place (pos 1) (pos 0)) ≡ true
unfolding gate
gate_is_open_from_its_height = refl

climb_from_the_height_of_a_gate : is_climbing_step (put (put gate 8 origin) 18 origin) origin (place (pos 1) (pos 0)) ≡ true
unfolding gate
climb_from_the_height_of_a_gate = refl
