use Rattle.std.proofs.Common.{◌≡◌, ℕ, zero, suc, ◌+◌, ◌-◌, ◌≤◌, List, [], ◌∷◌, length, take, map, refl, ap, arith, rules, ◌∙◌}
use Rattle.std.proofs.lemmas.List.{length-map, length-take-le}
use Rattle.std.specs.List.{take-map}
use Rattle.hive_model.specs.declared.places.Move.{Move}
use Rattle.hive_model.specs.Stack.{Levels, without_level}
use Rattle.hive_model.proofs.move_stack.MoveStack.drop_level.Goals as goal

take-shorter : {A : Type 0} (n m : ℕ) (xs : List A) → n ≤ m → take n (take m xs) ≡ take n xs
take-shorter zero m xs h = refl
take-shorter (suc n) zero xs h = absurd (omega arith)
take-shorter (suc n) (suc m) [] h = refl
take-shorter (suc n) (suc m) (x ∷ xs) h = ap (λ ys. x ∷ ys) (take-shorter n m xs (omega arith))

shorter : {A : Type 0} (f : A → List Move) (xs : List A) (used len : ℕ) (s : Levels) →
    record { lists = map f (take used xs); free = len - used } ≡ s → length xs ≡ len → used ≤ len → 1 ≤ length s.lists →
    record { lists = map f (take (used - 1) xs); free = len - (used - 1) } ≡ without_level s
shorter f xs used len s is all low some =
    let e : length (map f (take used xs)) ≡ used = length-map (take used xs) f ∙ length-take-le used xs (omega arith) in
    let one : 1 ≤ used = omega (arith, ap (λ (v : Levels). length v.lists) is) in
    let g : take (used - 1) (map f (take used xs)) ≡ map f (take (used - 1) xs) =
    take-map f (used - 1) (take used xs) ∙ ap (map f) (take-shorter (used - 1) used xs (omega arith)) in
    let k : len - used + 1 ≡ len - (used - 1) = omega arith in
    rw (← is, e, g, k) refl

pub returns : goal.returns
returns c = shorter _ _ _ _ _ c.self.view_is (search rules) c.self.invariant.0 c.requires
