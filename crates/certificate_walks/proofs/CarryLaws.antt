-- What holds of an unread walk still holds however the walk goes on.
use Rattle.std.proofs.Common.{◌≡◌, ℕ, zero, suc, Bool, true, false, List, [], ◌∷◌, refl, sym, subst, ℤ, neg_ℤ, Option, Some, None, inl, inr}
use Rattle.std.specs.List.{slice_get}
use Rattle.hive_model.specs.declared.places.Move.{Move}
use Rattle.hive_model.specs.Positions.{Position}
use Rattle.hive_model.specs.Legal.{moves, is_over}
use Rattle.hive_model.specs.Games.{after}
use Rattle.hive_model.specs.Minimax.{value}
use Rattle.certificate_walks.specs.declared.limit.Limit.{Limit}
use Rattle.certificate_walks.specs.declared.limit.Limit.TheVariants.{AtMost, AtLeast}
use Rattle.certificate_walks.specs.Limits.{is_kept}
use Rattle.certificate_walks.specs.Walks.{WalkEnd, Left, Fault, Halt, Step, Below, Ends, Rules, go_on, walk_all, walk_at, walk_step, walk_inner, leaf_outcome, walk}
use Rattle.certificate_walks.specs.Follows.{Sight, Carries, CarriesOn}
use Rattle.certificate_walks.proofs.WalkLaws.{walk-leaf, walk-suc}

-- ---- parts, one after another

module _ {S W N : Type 0} (V : Sight S W N) where
  pub go-carries : (o : WalkEnd S W) (g : S → WalkEnd S W) (n : N) → Carries V g → V.unread o n → V.unread (go_on o g) n
  go-carries (Left s) g n later h = later s n h
  go-carries (Fault why k) g n later h = h
  go-carries (Halt k) g n later h = h

  pub then-carries : (f g : S → WalkEnd S W) → Carries V f → Carries V g → Carries V (λ s. go_on (f s) g)
  then-carries f g first later s n h = go-carries (f s) g n later (first s n h)

  pub all-carries : (f : Move → S → WalkEnd S W) → ((m : Move) → Carries V (f m)) → (ms : List Move) → Carries V (walk_all f ms)
  all-carries f each [] s n h = h
  all-carries f each (m ∷ ms) s n h = then-carries (f m) (walk_all f ms) (each m) (all-carries f each ms) s n h

-- ---- a walk

module _ {S W N : Type 0} (R : Rules S W) (V : Sight S W N) (on : CarriesOn R V) where
  leaf-carries : (kept : Bool) → Carries V (leaf_outcome R kept)
  leaf-carries true s n h = h
  leaf-carries false s n h = on.leaf s n h

  at-carries : (f : Move → S → WalkEnd S W) → ((m : Move) → Carries V (f m)) → (m : Option Move) (s : S) (n : N) → V.unread (Left s) n → V.unread (walk_at R.reasons.bad_index (R.taken s) f m s) n
  at-carries f each None s n h = on.place s n h
  at-carries f each (Some m) s n h = each m s n h

  step-carries : (f : Move → S → WalkEnd S W) → ((m : Move) → Carries V (f m)) → (p : Position) (e : ℕ) (x : ℤ) (ms : List Move) (s : S) (step : Step S W) → R.take p e x s ≡ step → (n : N) → V.unread (Left s) n →
      V.unread (walk_step R f ms step) n
  step-carries f each p e x ms s (Ends o) took n h = on.ends p e x s o took n h
  step-carries f each p e x ms s (Below i t) took n h = at-carries f each (slice_get ms i) t n (on.below p e x i s t took n h)

  inner-carries : (p : Position) (e : ℕ) (f : Move → Limit → S → WalkEnd S W) → ((m : Move) (c : Limit) → Carries V (f m c)) → (c : Limit) → Carries V (walk_inner R p e f c)
  inner-carries p e f each (AtMost x) s n h = all-carries V (λ m. f m (AtLeast (neg_ℤ x))) (λ m. each m (AtLeast (neg_ℤ x))) (moves p) s n h
  inner-carries p e f each (AtLeast x) s n h =
      step-carries (λ m s1. go_on (f m (AtMost (neg_ℤ x)) s1) (λ s2. Left (R.keep p e x s2)))
      (λ m. then-carries V (f m (AtMost (neg_ℤ x))) (λ s2. Left (R.keep p e x s2)) (each m (AtMost (neg_ℤ x))) (on.keep p e x)) p e x (moves p) s (R.take p e x s) refl n h

  over-carries : (p : Position) (e : ℕ) (c : Limit) (s : S) (n : N) (over : Bool) → is_over p ≡ over → ((m : Move) (d : Limit) → Carries V (walk R (after p m) e d)) → V.unread (Left s) n → V.unread (walk R p (suc e) c s) n
  over-carries p e c s n true over each h = subst (λ (o : WalkEnd S W). V.unread o n) (sym (walk-leaf R p (suc e) c s (inr over))) (leaf-carries (is_kept c (value p (suc e))) s n h)
  over-carries p e c s n false goes each h = subst (λ (o : WalkEnd S W). V.unread o n) (sym (walk-suc R p e c s goes)) (inner-carries p (suc e) (λ m. walk R (after p m) e) each c s n h)

  pub walk-carries : (e : ℕ) (p : Position) (c : Limit) → Carries V (walk R p e c)
  walk-carries zero p c s n h = subst (λ (o : WalkEnd S W). V.unread o n) (sym (walk-leaf R p zero c s (inl refl))) (leaf-carries (is_kept c (value p zero)) s n h)
  walk-carries (suc e) p c s n h = over-carries p e c s n (is_over p) refl (λ m d. walk-carries e (after p m) d) h
