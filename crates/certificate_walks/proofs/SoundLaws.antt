-- What a walk that comes to its end shows of values.
use Rattle.std.proofs.Common.{◌≡◌, ℕ, zero, suc, ◌+◌, ◌-◌, ◌<◌, Bool, true, false, List, [], ◌∷◌, ◌++◌, map, length, take, drop, refl, sym, ap, subst, arith, ◌∙◌, ℤ, pos, neg_ℤ, ◌-ℤ◌, ◌≤ℤ◌, ◌<ℤ◌, Option, Some, None, inl, inr}
use Rattle.std.proofs.lemmas.Int.{ints, clamps}
use Rattle.std.specs.List.{slice_get, find}
use Rattle.std.specs.Int.{int_max}
use Rattle.hive_model.specs.declared.places.Move.{Move}
use Rattle.hive_model.specs.Lists.{IsOn}
use Rattle.hive_model.specs.Positions.{Position}
use Rattle.hive_model.specs.Legal.{moves, is_over}
use Rattle.hive_model.specs.Games.{after}
use Rattle.hive_model.specs.Minimax.{IsInner, value, reply_value, greatest_from, greatest, best}
use Rattle.search_laws.proofs.Greatest.{greatest-each}
use Rattle.search_laws.proofs.MinimaxLaws.{value-inner, value-greatest, moves-not_over}
use Rattle.search_laws.proofs.BestLaws.{best-reaches, reaches}
use Rattle.search_laws.proofs.CostLaws.{int_le-false, int_le-true}
use Rattle.search_laws.proofs.LoopLaws.{on-at}
use Rattle.certificate_walks.specs.declared.limit.Limit.{Limit}
use Rattle.certificate_walks.specs.declared.limit.Limit.TheVariants.{AtMost, AtLeast}
use Rattle.certificate_walks.specs.Limits.{Keeps, is_kept, Each}
use Rattle.certificate_walks.specs.Walks.{Left, Below, Ends, Rules, walk_all, walk, walk_moves, walk_root, finish, place_of, certificate}
use Rattle.certificate_walks.proofs.WalkLaws.{go_on-left, Chain, Shows, walk-shows, walk_all-chain}
use Rattle.certificate_walks.proofs.PlaceLaws.{place-here, split-at, on-before, on-behind, Each-weaker, Each-append}

pub keeps-true : (c : Limit) (v : ℤ) → is_kept c v ≡ true → Keeps c v
keeps-true (AtMost x) v e = grind (arith, ints)
keeps-true (AtLeast x) v e = grind (arith, ints)

pub true-keeps : (c : Limit) (v : ℤ) → Keeps c v → is_kept c v ≡ true
true-keeps (AtMost x) v e = grind (arith, ints)
true-keeps (AtLeast x) v e = grind (arith, ints)

-- ---- how a value follows from those one ply deeper

greatest_from-below : (r : Move → ℤ) (x a : ℤ) (ms : List Move) → a ≤ℤ x → Each (λ m. r m ≤ℤ x) ms → greatest_from a (map r ms) ≤ℤ x
greatest_from-below r x a [] h all = h
greatest_from-below r x a (m ∷ ms) h all = greatest_from-below r x (int_max a (r m)) ms (omega (arith, ints, clamps, all.0)) all.1

greatest-below : (r : Move → ℤ) (x : ℤ) (ms : List Move) → 0 < length ms → Each (λ m. r m ≤ℤ x) ms → greatest (map r ms) ≤ℤ x
greatest-below r x [] some all = absurd (omega arith)
greatest-below r x (m ∷ ms) some all = greatest_from-below r x (r m) ms all.0 all.1

pub value-at_most : (p : Position) (e : ℕ) (x : ℤ) → is_over p ≡ false → Each (λ m. reply_value p e m ≤ℤ x) (moves p) → value p (suc e) ≤ℤ x
value-at_most p e x goes all = rw (value-inner p e goes) (greatest-below (reply_value p e) x (moves p) (moves-not_over p goes) all)

pub value-at_least : (p : Position) (e : ℕ) (x : ℤ) (i : ℕ) (m : Move) → is_over p ≡ false → slice_get (moves p) i ≡ Some m → value (after p m) e ≤ℤ neg_ℤ x → x ≤ℤ value p (suc e)
value-at_least p e x i m goes here low =
    let each : reply_value p e m ≤ℤ greatest (map (reply_value p e) (moves p)) = greatest-each (reply_value p e) (moves p) i m here in
    rw (value-inner p e goes) (omega (arith, ints, low, each))

-- ---- a walk

-- What its tokens keep true, if each position after a good one is good. What a node finds that ends
-- there is true, and so is what is kept of what was shown.
pub record IsTrusted {S W : Type 0} (R : Rules S W) (Good : Position → ℕ → Type 0) (Inv : S → Type 0) : Type 0 where
  pub child : (p : Position) (e : ℕ) (m : Move) → Good p (suc e) → IsOn (moves p) m → Good (after p m) e
  pub ends : (p : Position) (e : ℕ) (x : ℤ) (s t : S) → Good p (suc e) → Inv s → R.take p (suc e) x s ≡ Ends (Left t) → Inv t × (x ≤ℤ value p (suc e))
  pub below : (p : Position) (e : ℕ) (x : ℤ) (s t : S) (i : ℕ) → Inv s → R.take p (suc e) x s ≡ Below i t → Inv t
  pub keep : (p : Position) (e : ℕ) (x : ℤ) (s : S) → Good p (suc e) → Inv s → x ≤ℤ value p (suc e) → Inv (R.keep p (suc e) x s)

module _ {S W : Type 0} (R : Rules S W) (Good : Position → ℕ → Type 0) (Inv : S → Type 0) (trusted : IsTrusted R Good Inv) where
  -- a walk from true lemmas shows its claim, and leaves true lemmas
  abbrev pub Tells : Position → ℕ → Limit → S → S → Type 0
  Tells p e c s t = Good p e → Inv s → Inv t × Keeps c (value p e)

  chain-tells : (p : Position) (e : ℕ) (c : Limit) (ms : List Move) (s t : S) → ((m : Move) → IsOn ms m → Good (after p m) e) →
      Chain (λ m. Tells (after p m) e c) ms s t → Inv s → Inv t × Each (λ m. Keeps c (value (after p m) e)) ms
  chain-tells p e c [] s t good chain inv = (subst Inv chain inv, tt)
  chain-tells p e c (m ∷ ms) s t good chain inv =
      let first = chain.1 (good m (inl refl)) inv in
      let later = chain-tells p e c ms chain.0 t (λ n on. good n (inr on)) chain.2 first.0 in
      (later.0, (first.1, later.1))

  walk-shown : Shows R Tells
  walk-shown = record {
    leaf = λ p e c s leaf kept good inv. (inv, keeps-true c (value p e) kept);
    every = λ p e x s t goes chain good inv.
        let all = chain-tells p e (AtLeast (neg_ℤ x)) (moves p) s t (λ m on. trusted.child p e m good on) chain inv in
        (all.0, value-at_most p e x goes (Each-weaker (λ m. neg_ℤ x ≤ℤ value (after p m) e) (λ m. reply_value p e m ≤ℤ x) (λ m low. omega (arith, ints, low)) (moves p) all.1));
    ends = λ p e x s t goes whole took good inv. trusted.ends p e x s t good inv took;
    below = λ p e x s t goes whole i s1 s2 m took here walked deeper kept good inv.
        let down = deeper (trusted.child p e m good (on-at (moves p) i m here)) (trusted.below p e x s s1 i inv took) in
        let shown = value-at_least p e x i m goes here down.1 in
        (subst Inv kept (trusted.keep p e x s2 good down.0 shown), shown);
  }

  pub walk-sound : (p : Position) (e : ℕ) (c : Limit) (s t : S) → walk R p e c s ≡ Left t → Good p e → Inv s → Inv t × Keeps c (value p e)
  walk-sound p e c s t h = walk-shows R Tells walk-shown e p c s t h

  all-sound : (p : Position) (e : ℕ) (c : Limit) (ms : List Move) (s t : S) → ((m : Move) → IsOn ms m → Good (after p m) e) →
      walk_all (λ m. walk R (after p m) e c) ms s ≡ Left t → Inv s → Inv t × Each (λ m. Keeps c (value (after p m) e)) ms
  all-sound p e c ms s t good h inv =
      chain-tells p e c ms s t good (walk_all-chain (λ m. walk R (after p m) e c) (λ m. Tells (after p m) e c) (λ m s1 t1 w. walk-sound (after p m) e c s1 t1 w) ms s t h) inv

-- ---- a certificate

find-middle : (test : Move → Bool) (xs ys : List Move) (m : Move) → Each (λ n. test n ≡ false) xs → test m ≡ true → find test (xs ++ m ∷ ys) ≡ Some m
find-middle test [] ys m none passes = rw passes refl
find-middle test (x ∷ xs) ys m none passes = rw none.0 (find-middle test xs ys m none.1 passes)

some-at : (ms : List Move) (k : ℕ) (m : Move) → slice_get ms k ≡ Some m → 0 < length ms
some-at [] k m e = cc
some-at (n ∷ ms) k m e = omega arith

-- the first move of the greatest value, from the values of the others
pub best-at : (p : Position) (d : ℕ) (k : ℕ) (m : Move) (v : ℤ) → IsInner p d → slice_get (moves p) k ≡ Some m →
    Each (λ n. reply_value p (d - 1) n <ℤ v) (take k (moves p)) → reply_value p (d - 1) m ≡ v → Each (λ n. reply_value p (d - 1) n ≤ℤ v) (drop (k + 1) (moves p)) →
    (best p d ≡ Some m) × (value p d ≡ v)
best-at p d k m v inner at less here rest =
    let worth = reply_value p (d - 1) in
    let parts : moves p ≡ take k (moves p) ++ m ∷ drop (k + 1) (moves p) = split-at (moves p) k m at in
    let all : Each (λ n. worth n ≤ℤ v) (moves p) = subst (Each (λ n. worth n ≤ℤ v)) (sym parts)
    (Each-append (λ n. worth n ≤ℤ v) (take k (moves p)) (m ∷ drop (k + 1) (moves p))
    (Each-weaker (λ n. worth n <ℤ v) (λ n. worth n ≤ℤ v) (λ n h. omega (arith, ints)) (take k (moves p)) less) (omega (arith, ints, here), rest)) in
    let high : greatest (map worth (moves p)) ≤ℤ v = greatest-below worth v (moves p) (some-at (moves p) k m at) all in
    let low : worth m ≤ℤ greatest (map worth (moves p)) = greatest-each worth (moves p) k m at in
    let is : value p d ≡ v = omega (arith, ints, high, low, value-greatest p d inner, here) in
    let none : Each (λ n. reaches p d n ≡ false) (take k (moves p)) = Each-weaker (λ n. worth n <ℤ v) (λ n. reaches p d n ≡ false) (λ n h. int_le-false (value p d) (worth n) (omega (arith, ints, is))) (take k (moves p)) less in
    let passes : reaches p d m ≡ true = int_le-true (value p d) (worth m) (omega (arith, ints, is, here)) in
    (best-reaches p d inner ∙ ap (find (reaches p d)) parts ∙ find-middle (reaches p d) (take k (moves p)) (drop (k + 1) (moves p)) m none passes, is)

module _ {S W : Type 0} (R : Rules S W) (Good : Position → ℕ → Type 0) (Inv : S → Type 0) (trusted : IsTrusted R Good Inv) where
  moves-sound : (p : Position) (d : ℕ) (k : ℕ) (m : Move) (v : ℤ) (s t : S) → IsInner p d → Good p d → Inv s → slice_get (moves p) k ≡ Some m →
      walk_moves (λ n. walk R (after p n) (d - 1)) (moves p) k m v s ≡ Left t → (best p d ≡ Some m) × (value p d ≡ v)
  moves-sound p zero k m v s t inner good inv at h = absurd (omega (arith, inner.deep))
  moves-sound p (suc d) k m v s t inner good inv at h =
      let e : ℕ = suc d - 1 in
      let same : e ≡ d = omega arith in
      let deeper : (n : Move) → IsOn (moves p) n → Good (after p n) e = λ n on. subst (Good (after p n)) (sym same) (trusted.child p d n good on) in
      let first = go_on-left (walk_all (λ n. walk R (after p n) e (AtLeast (pos 1 -ℤ v))) (take k (moves p)) s) _ t h in
      let second = go_on-left (walk R (after p m) e (AtMost (neg_ℤ v)) first.0) _ t first.2 in
      let third = go_on-left (walk R (after p m) e (AtLeast (neg_ℤ v)) second.0) _ t second.2 in
      let a = all-sound R Good Inv trusted p e (AtLeast (pos 1 -ℤ v)) (take k (moves p)) s first.0 (λ n on. deeper n (on-before k (moves p) n on)) first.1 inv in
      let on : IsOn (moves p) m = on-at (moves p) k m at in
      let b = walk-sound R Good Inv trusted (after p m) e (AtMost (neg_ℤ v)) first.0 second.0 second.1 (deeper m on) a.0 in
      let c = walk-sound R Good Inv trusted (after p m) e (AtLeast (neg_ℤ v)) second.0 third.0 third.1 (deeper m on) b.0 in
      let r = all-sound R Good Inv trusted p e (AtLeast (neg_ℤ v)) (drop (k + 1) (moves p)) third.0 t (λ n on. deeper n (on-behind (k + 1) (moves p) n on)) third.2 c.0 in
      let above : value (after p m) e ≤ℤ neg_ℤ v = b.1 in
      let under : neg_ℤ v ≤ℤ value (after p m) e = c.1 in
      best-at p (suc d) k m v inner at
      (Each-weaker (λ n. (pos 1 -ℤ v) ≤ℤ value (after p n) e) (λ n. reply_value p e n <ℤ v) (λ n low. omega (arith, ints, low)) (take k (moves p)) a.1)
      (omega (arith, ints, above, under))
      (Each-weaker (λ n. neg_ℤ v ≤ℤ value (after p n) e) (λ n. reply_value p e n ≤ℤ v) (λ n low. omega (arith, ints, low)) (drop (k + 1) (moves p)) r.1)

  root-sound : (p : Position) (d : ℕ) (m : Move) (v : ℤ) (s t : S) → IsInner p d → Good p d → Inv s → (o : Option ℕ) → place_of m (moves p) ≡ o →
      walk_root R (λ n. walk R (after p n) (d - 1)) (moves p) o m v s ≡ Left t → (best p d ≡ Some m) × (value p d ≡ v)
  root-sound p d m v s t inner good inv None place h = cc
  root-sound p d m v s t inner good inv (Some k) place h =
      let walked = go_on-left (walk_moves (λ n. walk R (after p n) (d - 1)) (moves p) k m v s) (finish R) t h in
      moves-sound p d k m v s walked.0 inner good inv (place-here m (moves p) k place) walked.1

  pub certificate-sound : (p : Position) (d : ℕ) (m : Move) (v : ℤ) (s t : S) → IsInner p d → Good p d → Inv s → certificate R p d m v s ≡ Left t →
      (best p d ≡ Some m) × (value p d ≡ v)
  unfolding certificate
  certificate-sound p d m v s t inner good inv h = root-sound p d m v s t inner good inv (place_of m (moves p)) refl h
