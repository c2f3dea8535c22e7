-- The short walk ends as the walk over the indices does, whatever that meets.
use Rattle.std.proofs.Common.{◌≡◌, ℕ, zero, suc, ◌+◌, ◌-◌, Bool, true, false, cond, List, [], ◌∷◌, ◌++◌, take, drop, refl, sym, ap, ◌∙◌, ℤ, pos, neg_ℤ, ◌-ℤ◌, Option, Some, None, inl, inr}
use Rattle.std.specs.List.{slice_get}
use Rattle.hive_model.specs.declared.places.Move.{Move}
use Rattle.hive_model.specs.Positions.{Position}
use Rattle.hive_model.specs.Legal.{moves, is_over}
use Rattle.hive_model.specs.Games.{after}
use Rattle.hive_model.specs.Keys.{key}
use Rattle.hive_model.specs.Minimax.{value}
use Rattle.search_laws.specs.Leaves.{IsLeaf}
use Rattle.certificate_walks.specs.declared.limit.Limit.{Limit}
use Rattle.certificate_walks.specs.declared.limit.Limit.TheVariants.{AtMost, AtLeast}
use Rattle.certificate_walks.specs.Items.{is_none_left}
use Rattle.certificate_walks.specs.Limits.{is_kept}
use Rattle.certificate_walks.specs.Walks.{WalkEnd, Left, Fault, Halt, Step, Below, Ends, go_on, walk_all, walk_at, walk_step, leaf_outcome, walk, walk_moves, walk_root, place_of, certificate}
use Rattle.certificate_walks.proofs.WalkLaws.{walk-leaf, walk-suc, walk-ends}
use Rattle.strategy_check.specs.declared.why.Why.{Why}
use Rattle.strategy_check.specs.declared.why.Why.TheVariants.{BadIndex, Rest}
use Rattle.strategy_check.specs.Trace.{Steps, steps, take_index, index_rules, trace, checked}
use Rattle.strategy_lemmas.specs.declared.tokens.Token.{Token}
use Rattle.strategy_lemmas.specs.declared.tokens.Token.TheVariants.{Index, Cite}
use Rattle.strategy_lemmas.specs.declared.lemmas.Lemma.{Lemma}
use Rattle.strategy_lemmas.specs.Short.{ShortSteps, short_steps, passes_over, writes_index, short_take, short_rules, of_indices, shortened}
use Rattle.strategy_lemmas.specs.Lemmas.{server}

go-same : (o : WalkEnd ShortSteps Why) (q : WalkEnd Steps Why) (f : ShortSteps → WalkEnd ShortSteps Why) (g : Steps → WalkEnd Steps Why) → of_indices o ≡ q →
    ((t : ShortSteps) → of_indices (f t) ≡ g t.items) → of_indices (go_on o f) ≡ go_on q g
go-same (Left t) q f g e h = h t ∙ ap (λ o. go_on o g) e
go-same (Fault why n) q f g e h = ap (λ o. go_on o g) e
go-same (Halt n) q f g e h = ap (λ o. go_on o g) e

all-same : (f : Move → ShortSteps → WalkEnd ShortSteps Why) (g : Move → Steps → WalkEnd Steps Why) → ((m : Move) (t : ShortSteps) → of_indices (f m t) ≡ g m t.items) →
    (ms : List Move) (t : ShortSteps) → of_indices (walk_all f ms t) ≡ walk_all g ms t.items
all-same f g h [] t = refl
all-same f g h (m ∷ ms) t = go-same (f m t) (g m t.items) (walk_all f ms) (walk_all g ms) (h m t) (λ u. all-same f g h ms u)

at-same : (f : Move → ShortSteps → WalkEnd ShortSteps Why) (g : Move → Steps → WalkEnd Steps Why) → ((m : Move) (t : ShortSteps) → of_indices (f m t) ≡ g m t.items) →
    (o : Option Move) (t : ShortSteps) → of_indices (walk_at BadIndex t.items.taken f o t) ≡ walk_at BadIndex t.items.taken g o t.items
at-same f g h None t = refl
at-same f g h (Some m) t = h m t

pub passed-same : (o : WalkEnd Steps Why) (ls : List Lemma) (ws : List Token) → of_indices (passes_over o ls ws) ≡ o
passed-same (Left s) ls ws = refl
passed-same (Fault why n) ls ws = refl
passed-same (Halt n) ls ws = refl

leaf-is : (b : Bool) (t : ShortSteps) → of_indices (leaf_outcome short_rules b t) ≡ leaf_outcome index_rules b t.items
leaf-is true t = refl
leaf-is false t = refl

leaf-same : (p : Position) (e : ℕ) (c : Limit) (t : ShortSteps) → IsLeaf p e → of_indices (walk short_rules p e c t) ≡ walk index_rules p e c t.items
leaf-same p e c t leaf = ap of_indices (walk-leaf short_rules p e c t leaf) ∙ leaf-is (is_kept c (value p e)) t ∙ sym (walk-leaf index_rules p e c t.items leaf)

module _ (p : Position) (e : ℕ) (goes : is_over p ≡ false) (deeper : (m : Move) (c : Limit) (t : ShortSteps) → of_indices (walk short_rules (after p m) e c t) ≡ walk index_rules (after p m) e c t.items) where
  below-same : (x : ℤ) (m : Move) (t : ShortSteps) →
      of_indices (go_on (walk short_rules (after p m) e (AtMost (neg_ℤ x)) t) (λ s. Left (short_rules.keep p (suc e) x s)))
      ≡ go_on (walk index_rules (after p m) e (AtMost (neg_ℤ x)) t.items) (λ s. Left (index_rules.keep p (suc e) x s))
  below-same x m t =
      go-same (walk short_rules (after p m) e (AtMost (neg_ℤ x)) t) (walk index_rules (after p m) e (AtMost (neg_ℤ x)) t.items) (λ s. Left (short_rules.keep p (suc e) x s)) (λ s. Left (index_rules.keep p (suc e) x s))
      (deeper m (AtMost (neg_ℤ x)) t) (λ u. refl)

  step-same : (x : ℤ) (ls : List Lemma) (ws : List Token) (step : Step Steps Why) →
      of_indices (walk_step short_rules (λ m t. go_on (walk short_rules (after p m) e (AtMost (neg_ℤ x)) t) (λ s. Left (short_rules.keep p (suc e) x s))) (moves p) (writes_index step ls ws))
      ≡ walk_step index_rules (λ m t. go_on (walk index_rules (after p m) e (AtMost (neg_ℤ x)) t) (λ s. Left (index_rules.keep p (suc e) x s))) (moves p) step
  step-same x ls ws (Below i s) =
      at-same (λ m t. go_on (walk short_rules (after p m) e (AtMost (neg_ℤ x)) t) (λ s. Left (short_rules.keep p (suc e) x s)))
      (λ m t. go_on (walk index_rules (after p m) e (AtMost (neg_ℤ x)) t) (λ s. Left (index_rules.keep p (suc e) x s))) (below-same x) (slice_get (moves p) i) (short_steps s ls (ws ++ Index i ∷ []))
  step-same x ls ws (Ends o) = passed-same o ls ws

  least-same : (x : ℤ) (t : ShortSteps) (o : Option ℕ) → server (key p) (suc e) x t.lemmas ≡ o → of_indices (walk short_rules p (suc e) (AtLeast x) t) ≡ walk index_rules p (suc e) (AtLeast x) t.items
  least-same x t None none =
      ap of_indices (walk-suc short_rules p e (AtLeast x) t goes)
      ∙ ap (λ o. of_indices (walk_step short_rules (λ m t. go_on (walk short_rules (after p m) e (AtMost (neg_ℤ x)) t) (λ s. Left (short_rules.keep p (suc e) x s))) (moves p) (short_take o p (suc e) x t))) none
      ∙ step-same x t.lemmas t.written (take_index t.items.left t.items.taken)
      ∙ sym (walk-suc index_rules p e (AtLeast x) t.items goes)
  least-same x t (Some n) some =
      ap of_indices (walk-ends short_rules p e x t (passes_over (trace p (suc e) (AtLeast x) t.items) t.lemmas (t.written ++ Cite n ∷ [])) goes (ap (λ o. short_take o p (suc e) x t) some))
      ∙ passed-same (trace p (suc e) (AtLeast x) t.items) t.lemmas (t.written ++ Cite n ∷ [])

  inner-same : (c : Limit) (t : ShortSteps) → of_indices (walk short_rules p (suc e) c t) ≡ walk index_rules p (suc e) c t.items
  inner-same (AtMost x) t =
      ap of_indices (walk-suc short_rules p e (AtMost x) t goes)
      ∙ all-same (λ m. walk short_rules (after p m) e (AtLeast (neg_ℤ x))) (λ m. walk index_rules (after p m) e (AtLeast (neg_ℤ x))) (λ m u. deeper m (AtLeast (neg_ℤ x)) u) (moves p) t
      ∙ sym (walk-suc index_rules p e (AtMost x) t.items goes)
  inner-same (AtLeast x) t = least-same x t (server (key p) (suc e) x t.lemmas) refl

over-same : (p : Position) (e : ℕ) (c : Limit) (t : ShortSteps) (over : Bool) → is_over p ≡ over →
    ((m : Move) (c : Limit) (t : ShortSteps) → of_indices (walk short_rules (after p m) e c t) ≡ walk index_rules (after p m) e c t.items) → of_indices (walk short_rules p (suc e) c t) ≡ walk index_rules p (suc e) c t.items
over-same p e c t true over deeper = leaf-same p (suc e) c t (inr over)
over-same p e c t false goes deeper = inner-same p e goes deeper c t

pub walk-same : (e : ℕ) (p : Position) (c : Limit) (t : ShortSteps) → of_indices (walk short_rules p e c t) ≡ walk index_rules p e c t.items
walk-same zero p c t = leaf-same p zero c t (inl refl)
walk-same (suc e) p c t = over-same p e c t (is_over p) refl (λ m c1 u. walk-same e (after p m) c1 u)

-- ---- a whole certificate

finish-is : (b : Bool) (t : ShortSteps) → of_indices (cond b (Left t) (Fault Rest t.items.taken)) ≡ cond b (Left t.items) (Fault Rest t.items.taken)
finish-is true t = refl
finish-is false t = refl

moves-same : (p : Position) (e k : ℕ) (m : Move) (v : ℤ) (t : ShortSteps) →
    of_indices (walk_moves (λ n. walk short_rules (after p n) e) (moves p) k m v t) ≡ walk_moves (λ n. walk index_rules (after p n) e) (moves p) k m v t.items
moves-same p e k m v t =
    go-same _ _ _ _ (all-same (λ n. walk short_rules (after p n) e (AtLeast (pos 1 -ℤ v))) (λ n. walk index_rules (after p n) e (AtLeast (pos 1 -ℤ v))) (λ n u. walk-same e (after p n) (AtLeast (pos 1 -ℤ v)) u) (take k (moves p)) t)
    (λ t1. go-same _ _ _ _ (walk-same e (after p m) (AtMost (neg_ℤ v)) t1)
    (λ t2. go-same _ _ _ _ (walk-same e (after p m) (AtLeast (neg_ℤ v)) t2)
    (λ t3. all-same (λ n. walk short_rules (after p n) e (AtLeast (neg_ℤ v))) (λ n. walk index_rules (after p n) e (AtLeast (neg_ℤ v))) (λ n u. walk-same e (after p n) (AtLeast (neg_ℤ v)) u) (drop (k + 1) (moves p)) t3)))

root-same : (p : Position) (e : ℕ) (o : Option ℕ) (m : Move) (v : ℤ) (t : ShortSteps) →
    of_indices (walk_root short_rules (λ n. walk short_rules (after p n) e) (moves p) o m v t) ≡ walk_root index_rules (λ n. walk index_rules (after p n) e) (moves p) o m v t.items
root-same p e None m v t = refl
root-same p e (Some k) m v t = go-same _ _ _ _ (moves-same p e k m v t) (λ u. finish-is (is_none_left u.items.left) u)

pub ends-as : (p : Position) (d : ℕ) (m : Move) (v : ℤ) (items : List (Option ℕ)) → of_indices (shortened p d m v items) ≡ checked p d m v items
unfolding certificate
ends-as p d m v items = root-same p (d - 1) (place_of m (moves p)) m v (short_steps (steps items 0) [] [])
