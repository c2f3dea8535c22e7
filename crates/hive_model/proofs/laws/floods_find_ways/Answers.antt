use Rattle.std.proofs.Common.{◌≡◌, ℕ, suc, zero, Bool, List, [], ◌∷◌, inl, inr, refl, sym, subst}
use Rattle.hive_model.specs.Lists.{IsOn, IsPath, is_met, flood}
use Rattle.hive_model.proofs.Floods.{on_filter, on_append, next_from, path_weaker, Within, path_flood}
use Rattle.hive_model.proofs.laws.floods_find_ways.Goals as goal

-- an item of a flood is the end of a way of one step or more from an item in front
flood_way : {X : Type 0} (s : X → X → Bool) (n : ℕ) (front rest : List X) (x : X) → IsOn (flood s n front rest) x → (f : X) × IsOn front f × ((p : X) × (ps : List X) × IsPath (Within s rest) f (p ∷ ps) x)
flood_way s zero front rest x h = absurd h
flood_way s (suc n) front rest x h = elim (on_append _ _ x h) [
  | inl here ↦
      let on = on_filter (is_met s front) rest x here in
      let from = next_from s front x on.1 in
      (from.0, from.1, (x, [], ((from.2, on.0), refl)))
  | inr later ↦
      let r = flood_way s n _ _ x later in
      let on = on_filter (is_met s front) rest r.0 r.1 in
      let from = next_from s front r.0 on.1 in
      (from.0, from.1, (r.0, (r.2.0 ∷ r.2.1), ((from.2, on.0), path_weaker _ (Within s rest) (λ a b w. (w.0, (on_filter _ rest b w.1).0)) r.0 (r.2.0 ∷ r.2.1) x r.2.2)))
]

pub returns : goal.returns
returns c = λ s places rounds enough p q. (
  λ on.
      let found = flood_way s rounds (p ∷ []) places q on in
      let start : found.0 ≡ p = elim (found.1) [ inl same ↦ sym same | inr none ↦ absurd none ] in
      (found.2.0, found.2.1, subst (λ z. IsPath (Within s places) z (found.2.0 ∷ found.2.1) q) start found.2.2),
  λ way. path_flood s rounds (p ∷ []) places enough p (inl refl) way.0 way.1 q way.2,
)
