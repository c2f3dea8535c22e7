-- A moved piece ends, on the board that it left, beside an occupied place or on one.
use Rattle.std.proofs.Common.{◌≡◌, ◌≢◌, ℕ, suc, zero, ◌≤◌, ◌<◌, Bool, true, false, not, List, [], ◌∷◌, ◌⊎◌, inl, inr, refl, sym, ◌∙◌, ap, subst, arith}
use Rattle.std.specs.Prelude.{IsTrue}
use Rattle.hive_model.specs.declared.pieces.Kind.{Kind}
use Rattle.hive_model.specs.declared.pieces.Kind.TheVariants.{Queen, Spider, Beetle, Grasshopper, Ant, Mosquito, Ladybug, Pillbug}
use Rattle.hive_model.specs.declared.places.Place.{Place}
use Rattle.hive_model.specs.declared.places.Dir.{Dir}
use Rattle.hive_model.specs.Lists.{IsPath}
use Rattle.hive_model.specs.Pieces.{kind_of}
use Rattle.hive_model.specs.Places.{step, steps, dir_after, dir_before}
use Rattle.hive_model.specs.Boards.{Stacks, is_occupied}
use Rattle.hive_model.specs.Steps.{GroundStep, ClimbingStep}
use Rattle.hive_model.specs.Reach.{Hop, ReachBy, Copies, MovesAs}
use Rattle.hive_model.proofs.RuleLaws.{over_last, over_next}
use Rattle.hive_model.proofs.LegalLaws.{opposite, back}

-- the place or one of its neighbours is occupied
abbrev pub Touched : Stacks → Place → Type 0
Touched c q = IsTrue (is_occupied c q) ⊎ ((d : Dir) × IsTrue (is_occupied c (step q d)))

pub beside : (c : Stacks) (p q : Place) (d : Dir) → step p d ≡ q → IsTrue (is_occupied c p) → Touched c q
beside c p q d leads h = inr (opposite d, subst (λ z. IsTrue (is_occupied c z)) (sym (ap (λ z. step z (opposite d)) (sym leads) ∙ back p d)) h)

pub ground_touches : (c : Stacks) (p q : Place) → GroundStep c p q → Touched c q
ground_touches c p q h = go (is_occupied c (step p (dir_after h.dir))) refl
  where
    go : (t : Bool) → is_occupied c (step p (dir_after h.dir)) ≡ t → Touched c q
    go true e = beside c (step p (dir_after h.dir)) q (dir_before h.dir) (over_next p h.dir ∙ h.leads) e
    go false e = beside c (step p (dir_before h.dir)) q (dir_after h.dir) (over_last p h.dir ∙ h.leads) (h.beside ∙ ap not e)

-- a property that each ground step leaves is left by one or more
pub by_steps : (c : Stacks) (P : Place → Type 0) → ((p q : Place) → GroundStep c p q → P q) → (p : Place) (way : List Place) (q : Place) → p ≢ q → IsPath (GroundStep c) p way q → P q
by_steps c P each p [] q apart path = absurd (apart path)
by_steps c P each p (x ∷ way) q apart path = go x (each p x path.0) way path.1
  where
    go : (x : Place) → P x → (way : List Place) → IsPath (GroundStep c) x way q → P q
    go x t [] path = subst P path t
    go x t (y ∷ way) path = go y (each x y path.0) way path.1

pub climb_touches : (c : Stacks) (p q : Place) → ClimbingStep c p q → Touched c q
climb_touches c p q h = elim h.high [ inl from ↦ beside c p q h.dir h.leads from | inr to ↦ inl to ]

hop_touches : (c : Stacks) (p q : Place) → Hop c p q → Touched c q
hop_touches c p q h = over h.far h.far_enough h.leads h.over
  where
    over : (n : ℕ) → 2 ≤ n → steps n p h.dir ≡ q → ((k : ℕ) → 0 < k → k < n → IsTrue (is_occupied c (steps k p h.dir))) → Touched c q
    over zero two leads all = absurd (omega (arith, two))
    over (suc n) two leads all =
        let some : 0 < n = omega (arith, two) in
        let low : n < suc n = omega arith in
        beside c (steps n p h.dir) q h.dir leads (all n some low)

pub reach_touches : (k : Kind) (c : Stacks) (p q : Place) → p ≢ q → ReachBy k c p q → Touched c q
reach_touches Queen c p q apart h = ground_touches c p q h
reach_touches Pillbug c p q apart h = ground_touches c p q h
reach_touches Beetle c p q apart (inl ground) = ground_touches c p q ground
reach_touches Beetle c p q apart (inr climb) = climb_touches c p q climb
reach_touches Grasshopper c p q apart h = hop_touches c p q h
reach_touches Ant c p q apart h = by_steps c (Touched c) (ground_touches c) p h.0 q apart h.1
reach_touches Spider c p q apart h = ground_touches c h.second q h.three
reach_touches Ladybug c p q apart h = beside c h.second q h.down.dir h.down.leads h.second_occupied
reach_touches Mosquito c p q apart h = absurd h

copies_touch : (c : Stacks) (p q : Place) → Copies c p q → Touched c q
copies_touch c p q (inl (high, reach)) = reach_touches Beetle c p q reach.0 reach.1
copies_touch c p q (inr (low, one)) = reach_touches (kind_of one.other) c p q one.reach.0 one.reach.1

pub moves_touch : (k : Kind) (c : Stacks) (p q : Place) → MovesAs k c p q → Touched c q
moves_touch Mosquito c p q h = copies_touch c p q h
moves_touch Queen c p q h = reach_touches Queen c p q h.0 h.1
moves_touch Spider c p q h = reach_touches Spider c p q h.0 h.1
moves_touch Beetle c p q h = reach_touches Beetle c p q h.0 h.1
moves_touch Grasshopper c p q h = reach_touches Grasshopper c p q h.0 h.1
moves_touch Ant c p q h = reach_touches Ant c p q h.0 h.1
moves_touch Ladybug c p q h = reach_touches Ladybug c p q h.0 h.1
moves_touch Pillbug c p q h = reach_touches Pillbug c p q h.0 h.1
