-- How a walk goes, and an induction over the walks that come to their end.
use Rattle.std.proofs.Common.{◌≡◌, ℕ, zero, suc, ◌-◌, Bool, true, false, List, [], ◌∷◌, refl, sym, ap, subst, arith, ◌∙◌, ℤ, neg_ℤ, Option, Some, None, inl, inr}
use Rattle.std.specs.List.{slice_get}
use Rattle.hive_model.specs.declared.places.Move.{Move}
use Rattle.hive_model.specs.Positions.{Position}
use Rattle.hive_model.specs.Legal.{moves, is_over}
use Rattle.hive_model.specs.Games.{after}
use Rattle.hive_model.specs.Minimax.{IsInner, value}
use Rattle.certificate_walks.specs.declared.limit.Limit.{Limit}
use Rattle.certificate_walks.specs.declared.limit.Limit.TheVariants.{AtMost, AtLeast}
use Rattle.search_laws.specs.Leaves.{IsLeaf}
use Rattle.certificate_walks.specs.Limits.{is_kept}
use Rattle.certificate_walks.specs.Walks.{WalkEnd, Left, Fault, Halt, Step, Below, Ends, Rules, go_on, walk_all, walk_at, walk_step, walk_inner, leaf_outcome, walk}

pub go_on-left : {S W : Type 0} (o : WalkEnd S W) (next : S → WalkEnd S W) (t : S) → go_on o next ≡ Left t → (s : S) × (o ≡ Left s) × (next s ≡ Left t)
go_on-left (Left s) next t e = (s, refl, e)
go_on-left (Fault why n) next t e = cc
go_on-left (Halt n) next t e = cc

pub go_on-done : {S W : Type 0} (o : WalkEnd S W) → go_on o (λ s. Left s) ≡ o
go_on-done (Left s) = refl
go_on-done (Fault why n) = refl
go_on-done (Halt n) = refl

pub left-is : {S W : Type 0} (s t : S) → (let o : WalkEnd S W = Left s in o ≡ Left t) → s ≡ t
left-is s t e = cc

-- ---- one node

pub walk-leaf : {S W : Type 0} (R : Rules S W) (p : Position) (e : ℕ) (c : Limit) (s : S) → IsLeaf p e → walk R p e c s ≡ leaf_outcome R (is_kept c (value p e)) s
unfolding walk
walk-leaf R p zero c s leaf = refl
walk-leaf R p (suc e) c s (inl zero_left) = absurd (omega (arith, zero_left))
walk-leaf R p (suc e) c s (inr over) = rw over refl

pub walk-suc : {S W : Type 0} (R : Rules S W) (p : Position) (e : ℕ) (c : Limit) (s : S) → is_over p ≡ false → walk R p (suc e) c s ≡ walk_inner R p (suc e) (λ m. walk R (after p m) e) c s
unfolding walk
walk-suc R p e c s goes = rw goes refl

pub walk-inner : {S W : Type 0} (R : Rules S W) (p : Position) (e : ℕ) (c : Limit) (s : S) → IsInner p e → walk R p e c s ≡ walk_inner R p e (λ m. walk R (after p m) (e - 1)) c s
walk-inner R p zero c s inner = absurd (omega (arith, inner.deep))
walk-inner R p (suc e) c s inner = let less : suc e - 1 ≡ e = omega arith in rw less (walk-suc R p e c s inner.open_)

pub leaf-left : {S W : Type 0} (R : Rules S W) (kept : Bool) (s t : S) → leaf_outcome R kept s ≡ Left t → (kept ≡ true) × (s ≡ t)
leaf-left R true s t e = (refl, left-is s t e)
leaf-left R false s t e = cc

-- ---- a walk that comes to its end

-- how each move's walk follows from what the one before it left
abbrev pub Chain : {S : Type 0} → (Move → S → S → Type 0) → List Move → S → S → Type 0
Chain {S} Q [] s t = s ≡ t
Chain {S} Q (m ∷ ms) s t = (u : S) × Q m s u × Chain Q ms u t

pub walk_all-chain : {S W : Type 0} (f : Move → S → WalkEnd S W) (Q : Move → S → S → Type 0) → ((m : Move) (s t : S) → f m s ≡ Left t → Q m s t)
    → (ms : List Move) (s t : S) → walk_all f ms s ≡ Left t → Chain Q ms s t
walk_all-chain f Q shows [] s t e = left-is s t e
walk_all-chain f Q shows (m ∷ ms) s t e =
    let first = go_on-left (f m s) (walk_all f ms) t e in
    (first.0, shows m s first.0 first.1, walk_all-chain f Q shows ms first.0 t first.2)

-- A property of a claim, and of what is left before and after its walk, that holds at each kind of
-- node.
pub record Shows {S W : Type 0} (R : Rules S W) (Q : Position → ℕ → Limit → S → S → Type 0) : Type 0 where
  pub leaf : (p : Position) (e : ℕ) (c : Limit) (s : S) → IsLeaf p e → is_kept c (value p e) ≡ true → Q p e c s s
  pub every : (p : Position) (e : ℕ) (x : ℤ) (s t : S) → is_over p ≡ false → Chain (λ m. Q (after p m) e (AtLeast (neg_ℤ x))) (moves p) s t → Q p (suc e) (AtMost x) s t
  pub ends : (p : Position) (e : ℕ) (x : ℤ) (s t : S) → is_over p ≡ false → walk R p (suc e) (AtLeast x) s ≡ Left t → R.take p (suc e) x s ≡ Ends (Left t) → Q p (suc e) (AtLeast x) s t
  pub below : (p : Position) (e : ℕ) (x : ℤ) (s t : S) → is_over p ≡ false → walk R p (suc e) (AtLeast x) s ≡ Left t → (i : ℕ) (s1 s2 : S) (m : Move) →
      R.take p (suc e) x s ≡ Below i s1 → slice_get (moves p) i ≡ Some m → walk R (after p m) e (AtMost (neg_ℤ x)) s1 ≡ Left s2 → Q (after p m) e (AtMost (neg_ℤ x)) s1 s2 →
      R.keep p (suc e) x s2 ≡ t → Q p (suc e) (AtLeast x) s t

module _ {S W : Type 0} (R : Rules S W) (Q : Position → ℕ → Limit → S → S → Type 0) (shows : Shows R Q) where
  named-shows : (p : Position) (e : ℕ) (x : ℤ) (s t : S) → is_over p ≡ false → walk R p (suc e) (AtLeast x) s ≡ Left t →
      ((m : Move) (c : Limit) (s1 s2 : S) → walk R (after p m) e c s1 ≡ Left s2 → Q (after p m) e c s1 s2) →
      (i : ℕ) (s1 : S) → R.take p (suc e) x s ≡ Below i s1 → (o : Option Move) → slice_get (moves p) i ≡ o →
      walk_at R.reasons.bad_index (R.taken s1) (λ m s1. go_on (walk R (after p m) e (AtMost (neg_ℤ x)) s1) (λ s2. Left (R.keep p (suc e) x s2))) o s1 ≡ Left t → Q p (suc e) (AtLeast x) s t
  named-shows p e x s t goes whole deeper i s1 took None here h = cc
  named-shows p e x s t goes whole deeper i s1 took (Some m) here h =
      let first = go_on-left (walk R (after p m) e (AtMost (neg_ℤ x)) s1) (λ s2. Left (R.keep p (suc e) x s2)) t h in
      shows.below p e x s t goes whole i s1 first.0 m took here first.1 (deeper m (AtMost (neg_ℤ x)) s1 first.0 first.1) (left-is _ t first.2)

  step-shows : (p : Position) (e : ℕ) (x : ℤ) (s t : S) → is_over p ≡ false → walk R p (suc e) (AtLeast x) s ≡ Left t →
      ((m : Move) (c : Limit) (s1 s2 : S) → walk R (after p m) e c s1 ≡ Left s2 → Q (after p m) e c s1 s2) →
      (step : Step S W) → R.take p (suc e) x s ≡ step →
      walk_step R (λ m s1. go_on (walk R (after p m) e (AtMost (neg_ℤ x)) s1) (λ s2. Left (R.keep p (suc e) x s2))) (moves p) step ≡ Left t → Q p (suc e) (AtLeast x) s t
  step-shows p e x s t goes whole deeper (Ends o) took h = shows.ends p e x s t goes whole (took ∙ ap (λ (y : WalkEnd S W). Ends y) h)
  step-shows p e x s t goes whole deeper (Below i s1) took h = named-shows p e x s t goes whole deeper i s1 took (slice_get (moves p) i) refl h

  inner-shows : (p : Position) (e : ℕ) (c : Limit) (s t : S) → is_over p ≡ false → walk R p (suc e) c s ≡ Left t →
      ((m : Move) (c : Limit) (s1 s2 : S) → walk R (after p m) e c s1 ≡ Left s2 → Q (after p m) e c s1 s2) →
      walk_inner R p (suc e) (λ m. walk R (after p m) e) c s ≡ Left t → Q p (suc e) c s t
  inner-shows p e (AtMost x) s t goes whole deeper h =
      shows.every p e x s t goes (walk_all-chain (λ m. walk R (after p m) e (AtLeast (neg_ℤ x))) (λ m. Q (after p m) e (AtLeast (neg_ℤ x))) (λ m s1 s2 w. deeper m (AtLeast (neg_ℤ x)) s1 s2 w) (moves p) s t h)
  inner-shows p e (AtLeast x) s t goes whole deeper h = step-shows p e x s t goes whole deeper (R.take p (suc e) x s) refl h

  leaf-shows : (p : Position) (e : ℕ) (c : Limit) (s t : S) → IsLeaf p e → walk R p e c s ≡ Left t → Q p e c s t
  leaf-shows p e c s t leaf h =
      let k = leaf-left R (is_kept c (value p e)) s t (sym (walk-leaf R p e c s leaf) ∙ h) in
      subst (λ (u : S). Q p e c s u) k.1 (shows.leaf p e c s leaf k.0)

  over-shows : (p : Position) (e : ℕ) (c : Limit) (s t : S) → (over : Bool) → is_over p ≡ over → walk R p (suc e) c s ≡ Left t →
      ((m : Move) (c : Limit) (s1 s2 : S) → walk R (after p m) e c s1 ≡ Left s2 → Q (after p m) e c s1 s2) → Q p (suc e) c s t
  over-shows p e c s t true over h deeper = leaf-shows p (suc e) c s t (inr over) h
  over-shows p e c s t false goes h deeper = inner-shows p e c s t goes h deeper (sym (walk-suc R p e c s goes) ∙ h)

  pub walk-shows : (e : ℕ) (p : Position) (c : Limit) (s t : S) → walk R p e c s ≡ Left t → Q p e c s t
  walk-shows zero p c s t h = leaf-shows p zero c s t (inl refl) h
  walk-shows (suc e) p c s t h = over-shows p e c s t (is_over p) refl h (λ m c1 s1 s2 w. walk-shows e (after p m) c1 s1 s2 w)

-- ---- a walk from the walks below it

pub walk-kept : {S W : Type 0} (R : Rules S W) (p : Position) (e : ℕ) (c : Limit) (s : S) → IsLeaf p e → is_kept c (value p e) ≡ true → walk R p e c s ≡ Left s
walk-kept R p e c s leaf kept = walk-leaf R p e c s leaf ∙ ap (λ b. leaf_outcome R b s) kept

pub walk-every : {S W : Type 0} (R : Rules S W) (p : Position) (e : ℕ) (x : ℤ) (s t : S) → is_over p ≡ false →
    walk_all (λ m. walk R (after p m) e (AtLeast (neg_ℤ x))) (moves p) s ≡ Left t → walk R p (suc e) (AtMost x) s ≡ Left t
walk-every R p e x s t goes all = walk-suc R p e (AtMost x) s goes ∙ all

pub walk-ends : {S W : Type 0} (R : Rules S W) (p : Position) (e : ℕ) (x : ℤ) (s : S) (o : WalkEnd S W) → is_over p ≡ false → R.take p (suc e) x s ≡ Ends o → walk R p (suc e) (AtLeast x) s ≡ o
walk-ends {S} {W} R p e x s o goes took =
    walk-suc R p e (AtLeast x) s goes
    ∙ ap (λ (step : Step S W). walk_step R (λ m s1. go_on (walk R (after p m) e (AtMost (neg_ℤ x)) s1) (λ s2. Left (R.keep p (suc e) x s2))) (moves p) step) took

pub walk-below : {S W : Type 0} (R : Rules S W) (p : Position) (e : ℕ) (x : ℤ) (s : S) (i : ℕ) (s1 s2 : S) (m : Move) → is_over p ≡ false → R.take p (suc e) x s ≡ Below i s1 →
    slice_get (moves p) i ≡ Some m → walk R (after p m) e (AtMost (neg_ℤ x)) s1 ≡ Left s2 → walk R p (suc e) (AtLeast x) s ≡ Left (R.keep p (suc e) x s2)
walk-below {S} {W} R p e x s i s1 s2 m goes took here deeper =
    walk-suc R p e (AtLeast x) s goes
    ∙ ap (λ (step : Step S W). walk_step R (λ m s1. go_on (walk R (after p m) e (AtMost (neg_ℤ x)) s1) (λ s2. Left (R.keep p (suc e) x s2))) (moves p) step) took
    ∙ ap (λ o. walk_at R.reasons.bad_index (R.taken s1) (λ m s1. go_on (walk R (after p m) e (AtMost (neg_ℤ x)) s1) (λ s2. Left (R.keep p (suc e) x s2))) o s1) here
    ∙ ap (λ o. go_on o (λ s2. Left (R.keep p (suc e) x s2))) deeper
