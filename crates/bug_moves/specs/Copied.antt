-- What a mosquito copies, kind by kind.
use Rattle.std.specs.Prelude.{◌≡◌, ℕ, ◌<◌, Bool, false, List, [], ◌∷◌, Option, Some, None, IsTrue, slice_get, slice_index_or, map}
use Rattle.std.specs.List.{list_any}
use Rattle.hive_model.specs.declared.pieces.Kind.{Kind}
use Rattle.hive_model.specs.declared.pieces.Kind.TheVariants.{Queen, Spider, Beetle, Grasshopper, Ant, Ladybug, Pillbug}
use Rattle.hive_model.specs.declared.places.Place.{Place}
use Rattle.hive_model.specs.Pieces.{kind_of, is_kind}
use Rattle.hive_model.specs.Places.{step, dirs}
use Rattle.hive_model.specs.Boards.{Stacks, top_at}
use Rattle.hive_model.specs.Reach.{Reach}

-- a piece of this kind is on top
abbrev pub shows : Kind → Option ℕ → Bool
shows k None = false
shows k (Some x) = is_kind (kind_of x) k

-- a piece of this kind is on top of a neighbour
abbrev pub touches_kind : Stacks → Place → Kind → Bool
touches_kind b p k = list_any (λ d. shows k (top_at b (step p d))) dirs

-- the top pieces of the six neighbours
abbrev pub tops_round : Stacks → Place → List (Option ℕ)
tops_round b p = map (λ d. top_at b (step p d)) dirs

-- as a neighbour of this kind moves
abbrev pub CopiesKind : Stacks → Place → Kind → Place → Type 0
CopiesKind b p k q = IsTrue (touches_kind b p k) × Reach k b p q

-- the kinds that a mosquito copies
abbrev pub copied_kinds : List Kind
copied_kinds = Queen ∷ Spider ∷ Beetle ∷ Grasshopper ∷ Ant ∷ Ladybug ∷ Pillbug ∷ []

abbrev pub copied_kind : ℕ → Kind
copied_kind n = slice_index_or copied_kinds n Queen

-- for one of the first n kinds
abbrev pub InKinds : ℕ → (Kind → Place → Type 0) → Place → Type 0
InKinds n P q = (k : ℕ) × (k < n) × P (copied_kind k) q

-- one of the first n places of a list
abbrev pub AmongFirst : ℕ → List Place → Place → Type 0
AmongFirst n ps q = (k : ℕ) × (k < n) × (slice_get ps k ≡ Some q)
