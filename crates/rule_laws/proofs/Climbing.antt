-- A moved piece ends on an empty place, unless it is a beetle or a mosquito.
use Rattle.std.proofs.Common.{◌≡◌, ◌⊎◌, inl, inr, refl}
use Rattle.hive_model.specs.declared.pieces.Kind.{Kind}
use Rattle.hive_model.specs.declared.pieces.Kind.TheVariants.{Queen, Spider, Beetle, Grasshopper, Ant, Mosquito, Ladybug, Pillbug}
use Rattle.hive_model.specs.declared.places.Place.{Place}
use Rattle.hive_model.specs.Boards.{Stacks, height_at}
use Rattle.hive_model.specs.Reach.{MovesAs}
use Rattle.hive_model.proofs.TouchLaws.{by_steps}

-- the kind climbs
abbrev pub Climbs : Kind → Type 0
Climbs k = (k ≡ Beetle) ⊎ (k ≡ Mosquito)

pub ends_low : (k : Kind) (c : Stacks) (p q : Place) → MovesAs k c p q → (height_at c q ≡ 0) ⊎ Climbs k
ends_low Mosquito c p q h = inr (inr refl)
ends_low Beetle c p q h = inr (inl refl)
ends_low Queen c p q h = inl h.1.to_empty
ends_low Spider c p q h = inl h.1.three.to_empty
ends_low Grasshopper c p q h = inl h.1.empty
ends_low Ant c p q h = inl (by_steps c (λ z. height_at c z ≡ 0) (λ x y g. g.to_empty) p h.1.0 q h.0 h.1.1)
ends_low Ladybug c p q h = inl h.1.empty
ends_low Pillbug c p q h = inl h.1.to_empty
