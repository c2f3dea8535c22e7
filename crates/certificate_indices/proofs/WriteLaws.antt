-- What is written piece by piece, and the least indices of a node.
use Rattle.std.proofs.Common.{◌≡◌, ℕ, zero, suc, ◌+◌, ◌-◌, ◌<◌, ◌≤◌, Bool, true, false, cond, List, [], ◌∷◌, ◌++◌, length, take, drop, refl, sym, ap, subst, arith, ◌∙◌, Some, None, inl, inr}
use Rattle.search_laws.proofs.LoopLaws.{drop-at, drop-all}
use Rattle.std.specs.Prelude.{ℤ, pos, neg_ℤ, ◌-ℤ◌, slice_get}
use Rattle.std.specs.List.{flat_map, position_from}
use Rattle.std.proofs.lemmas.Grind.{flat_map-append}
use Rattle.std.proofs.lemmas.List.{take-append-le, append-nil, length-append}
use Rattle.std.proofs.Math.Seq.{take-append-add}
use Rattle.io_edge.specs.Outside.{Told, behind}
use Rattle.io_edge.proofs.Told.{behind-behind}
use Rattle.hive_model.specs.declared.places.Move.{Move}
use Rattle.hive_model.specs.Positions.{Position}
use Rattle.hive_model.specs.Legal.{moves}
use Rattle.hive_model.specs.Games.{after}
use Rattle.hive_model.specs.Histories.{History, position, with_move}
use Rattle.hive_model.specs.Minimax.{IsInner, value}
use Rattle.std.proofs.lemmas.Int.{ints}
use Rattle.certificate_walks.proofs.SoundLaws.{keeps-true, true-keeps}
use Rattle.search_laws.specs.Leaves.{IsLeaf}
use Rattle.search_laws.specs.Laws.{IsSmall}
use Rattle.certificate_walks.specs.declared.limit.Limit.{Limit}
use Rattle.certificate_walks.specs.declared.limit.Limit.TheVariants.{AtMost, AtLeast}
use Rattle.certificate_walks.specs.Limits.{Keeps, is_kept, number}
use Rattle.certificate_walks.specs.Follows.{range_of}
use Rattle.certificate_walks.proofs.FollowLaws.{range-next, range-end, range-all, position-behind, place-low}
use Rattle.certificate_walks.proofs.PlaceLaws.{position-at}
use Rattle.search_laws.proofs.Signs.{neg-is}
use Rattle.std.proofs.Common.{to_z, of_z}
use mir.Syntax.{w32}
use Rattle.std.specs.Bool.{OnTrue, OnFalse}
use Rattle.strategy_check.specs.Least.{least, least_from, least_inner}
use Rattle.certificate_text.specs.Text.{index_line}
use Rattle.certificate_indices.specs.Writing.{Wrote, index_lines, lines_below, keeps_below, first_kept}

-- ---- pieces

pub wrote-as : (r : Bool) (s t : List ℕ) (a b : Told) → s ≡ t → Wrote r s a b → Wrote r t a b
wrote-as r s t a b e h = subst (λ (x : List ℕ). Wrote r x a b) e h

pub wrote-then : (r : Bool) (s t : List ℕ) (a b c : Told) → Wrote true s a b → Wrote r t b c → Wrote r (s ++ t) a c
wrote-then true s t a b c first then_ = then_ ∙ ap (λ z. behind z t) first ∙ behind-behind a s t
wrote-then false s t a b c first then_ = (
  length s + then_.0,
  more then_.1,
  then_.2 ∙ ap (λ z. behind z (take then_.0 t)) first ∙ behind-behind a s (take then_.0 t) ∙ ap (behind a) (sym (take-append-add s t then_.0)),
)
  where
    more : then_.0 < length t → length s + then_.0 < length (s ++ t)
    more less = rw (length-append s t) (omega (arith, less))

-- a cut in the first piece is a cut in the whole
pub wrote-stop : (s t : List ℕ) (a b : Told) → Wrote false s a b → Wrote false (s ++ t) a b
wrote-stop s t a b h = (h.0, longer h.1, h.2 ∙ ap (behind a) (sym (take-append-le h.0 s t (within h.1))))
  where
    longer : h.0 < length s → h.0 < length (s ++ t)
    longer less = rw (length-append s t) (omega (arith, less))

    within : h.0 < length s → h.0 ≤ length s
    within less = omega (arith, less)

pub wrote-nothing : (a : Told) → Wrote true [] a a
wrote-nothing None = refl
wrote-nothing (Some w) = ap (λ l. Some l) (sym (append-nil w))

-- what was written, whole or in part, by the answer
pub wrote-is : (r : Bool) (w : Bool) (s : List ℕ) (a b : Told) → r ≡ w → Wrote r s a b → Wrote w s a b
wrote-is r w s a b e h = subst (λ (x : Bool). Wrote x s a b) e h

-- ---- the moves of a level

pub lines-next : (p : Position) (e : ℕ) (c : Limit) (i to : ℕ) (m : Move) → slice_get (moves p) i ≡ Some m → i < to →
    lines_below p e c (range_of (moves p) i to) ≡ index_lines (least (after p m) e c) ++ lines_below p e c (range_of (moves p) (i + 1) to)
lines-next p e c i to m here low =
    ap (lines_below p e c) (range-next (moves p) i to m here low)
    ∙ flat_map-append index_line (least (after p m) e c) (flat_map (λ n. least (after p n) e c) (range_of (moves p) (i + 1) to))

pub lines-end : (p : Position) (e : ℕ) (c : Limit) (i to : ℕ) → to ≤ i → lines_below p e c (range_of (moves p) i to) ≡ []
lines-end p e c i to past = ap (lines_below p e c) (range-end (moves p) i to past)

-- ---- a node

pub least-leaf : (p : Position) (e : ℕ) (c : Limit) → IsLeaf p e → least p e c ≡ []
unfolding least
least-leaf p zero c leaf = refl
least-leaf p (suc e) c (inl none) = absurd (cc)
least-leaf p (suc e) c (inr over) = ap (λ b. cond b [] (least_inner p e (λ m. least (after p m) e) c)) over

pub least-node : (p : Position) (e : ℕ) (c : Limit) → IsInner p e → least p e c ≡ least_inner p (e - 1) (λ m. least (after p m) (e - 1)) c
unfolding least
least-node p zero c inner = absurd (omega (arith, inner.deep))
least-node p (suc e) c inner =
    let one : e ≡ suc e - 1 = omega arith in
    ap (λ b. cond b [] (least_inner p e (λ m. least (after p m) e) c)) inner.open_
    ∙ ap (λ d. least_inner p d (λ m. least (after p m) d) c) one

module _ (passes : Move → Bool) (below : Move → List ℕ) where
  least_from-at : (j : ℕ) (ms : List Move) (k : ℕ) → position_from passes j ms ≡ Some k → (i : ℕ) × (m : Move) × (k ≡ j + i) × (slice_get ms i ≡ Some m) × (least_from passes below j ms ≡ k ∷ below m)
  least_from-at j [] k e = cc
  least_from-at j (m ∷ ms) k e =
      elim (passes m) as (λ b. cond b (Some j) (position_from passes (j + 1) ms) ≡ Some k →
      (i : ℕ) × (n : Move) × (k ≡ j + i) × (slice_get (m ∷ ms) i ≡ Some n) × (cond b (j ∷ below m) (least_from passes below (j + 1) ms) ≡ k ∷ below n)) [
        | true ↦ λ h. let same : j ≡ k = cc in (0, m, omega (arith, same), refl, ap (λ n. n ∷ below m) same)
        | false ↦ λ h. let later = least_from-at (j + 1) ms k h in (suc later.0, later.1, omega (arith, later.2), later.3, later.4)
      ] e

  least_from-none : (j : ℕ) (ms : List Move) → position_from passes j ms ≡ None → least_from passes below j ms ≡ []
  least_from-none j [] e = refl
  least_from-none j (m ∷ ms) e =
      elim (passes m) as (λ b. cond b (Some j) (position_from passes (j + 1) ms) ≡ None → cond b (j ∷ below m) (least_from passes below (j + 1) ms) ≡ []) [
        | true ↦ λ h. absurd (cc)
        | false ↦ λ h. least_from-none (j + 1) ms h
      ] e

  position-step : (ms : List Move) (i : ℕ) (m : Move) → position_from passes 0 ms ≡ position_from passes i (drop i ms) → slice_get ms i ≡ Some m → passes m ≡ false →
      position_from passes 0 ms ≡ position_from passes (i + 1) (drop (i + 1) ms)
  position-step ms i m so here not = so ∙ ap (position_from passes i) (drop-at ms i m here) ∙ ap (λ b. cond b (Some i) (position_from passes (i + 1) (drop (i + 1) ms))) not

  position-met : (ms : List Move) (i : ℕ) (m : Move) → position_from passes 0 ms ≡ position_from passes i (drop i ms) → slice_get ms i ≡ Some m → passes m ≡ true → Some i ≡ position_from passes 0 ms
  position-met ms i m so here yes_ = sym (so ∙ ap (position_from passes i) (drop-at ms i m here) ∙ ap (λ b. cond b (Some i) (position_from passes (i + 1) (drop (i + 1) ms))) yes_)

  position-none : (ms : List Move) (i : ℕ) → position_from passes 0 ms ≡ position_from passes i (drop i ms) → length ms ≤ i → None ≡ position_from passes 0 ms
  position-none ms i so past = sym (so ∙ ap (position_from passes i) (drop-all ms i past))

-- the least indices of a node that names a move: its place, and the indices after it
pub named-is : (p : Position) (d : ℕ) (x y : ℤ) (k : ℕ) (m : Move) → IsInner p d → y ≡ neg_ℤ x → Some k ≡ first_kept p (d - 1) (AtMost y) (moves p) → slice_get (moves p) k ≡ Some m →
    index_lines (least p d (AtLeast x)) ≡ index_line k ++ index_lines (least (after p m) (d - 1) (AtMost y))
named-is p d x y k m inner turned found here =
    let at = least_from-at (keeps_below p (d - 1) (AtMost y)) (λ n. least (after p n) (d - 1) (AtMost y)) 0 (moves p) k (sym found) in
    let same_place : at.0 ≡ k = omega (arith, at.2) in
    let there : slice_get (moves p) k ≡ Some at.1 = ap (slice_get (moves p)) (sym same_place) ∙ at.3 in
    let both : Some at.1 ≡ Some m = sym there ∙ here in
    let same : at.1 ≡ m = cc in
    ap index_lines (least-node p d (AtLeast x) inner ∙ ap (λ z. least_from (keeps_below p (d - 1) (AtMost z)) (λ n. least (after p n) (d - 1) (AtMost z)) 0 (moves p)) (sym turned) ∙ at.4)
    ∙ ap (λ n. index_line k ++ index_lines (least (after p n) (d - 1) (AtMost y))) same

pub none-named : (p : Position) (d : ℕ) (x y : ℤ) → IsInner p d → y ≡ neg_ℤ x → None ≡ first_kept p (d - 1) (AtMost y) (moves p) → index_lines (least p d (AtLeast x)) ≡ []
none-named p d x y inner turned found =
    ap index_lines (least-node p d (AtLeast x) inner ∙ ap (λ z. least_from (keeps_below p (d - 1) (AtMost z)) (λ n. least (after p n) (d - 1) (AtMost z)) 0 (moves p)) (sym turned)
    ∙ least_from-none (keeps_below p (d - 1) (AtMost y)) (λ n. least (after p n) (d - 1) (AtMost y)) 0 (moves p) (sym found))

-- the same for one that walks every move
pub every-is : (p : Position) (d : ℕ) (x y : ℤ) (count : ℕ) → IsInner p d → y ≡ neg_ℤ x → count ≡ length (moves p) →
    lines_below p (d - 1) (AtLeast y) (range_of (moves p) 0 count) ≡ index_lines (least p d (AtMost x))
every-is p d x y count inner turned all =
    ap (lines_below p (d - 1) (AtLeast y)) (range-all (moves p) count all)
    ∙ ap (λ z. lines_below p (d - 1) (AtLeast z) (moves p)) turned
    ∙ ap index_lines (sym (least-node p d (AtMost x) inner))

-- ---- the code's limits

pub small-of : (c k : Limit) (x : ℤ) → c ≡ k → number k ≡ x → IsSmall 1000090 (number c) → IsSmall 1000090 x
small-of c k x e is h = subst (IsSmall 1000090) (ap number e ∙ is) h

-- ---- what a search in a window shows of a limit

kept-same : (c : Limit) (v w : ℤ) → (Keeps c w → Keeps c v) → (Keeps c v → Keeps c w) → is_kept c w ≡ is_kept c v
kept-same c v w forth back =
    elim (is_kept c w) as (λ b. is_kept c w ≡ b → b ≡ is_kept c v) [
      | true ↦ λ e. sym (true-keeps c v (forth (keeps-true c w e)))
      | false ↦ λ e. no (is_kept c v) refl e
    ] refl
  where
    no : (b : Bool) → is_kept c v ≡ b → is_kept c w ≡ false → false ≡ is_kept c v
    no true e g = let yes_ : is_kept c w ≡ true = true-keeps c w (back (keeps-true c v e)) in absurd (cc)
    no false e g = sym e

-- ---- the code

pub child-written : (start played : History) (m : Move) (e : ℕ) (c : Limit) (r : Bool) (a b : Told) → played ≡ with_move start m →
    Wrote r (index_lines (least (position played) e c)) a b → Wrote r (index_lines (least (after (position start) m) e c)) a b
child-written start played m e c r a b moved h = wrote-as r _ _ a b (ap (λ q. index_lines (least q e c)) (position-behind start played m moved)) h

pub child-kept : (start played : History) (m : Move) (e : ℕ) (c : Limit) (r : Bool) → played ≡ with_move start m → r ≡ is_kept c (value (position played) e) → r ≡ keeps_below (position start) e c m
child-kept start played m e c r moved h = h ∙ ap (λ q. is_kept c (value q e)) (position-behind start played m moved)

here-written : (start now : History) (e : ℕ) (c : Limit) (m : Move) (r0 r : Bool) (a mid : Told) → now ≡ start → r0 ≡ r → Wrote r0 (index_lines (least (after (position now) m) e c)) a mid →
    Wrote r (index_lines (least (after (position start) m) e c)) a mid
here-written start now e c m r0 r a mid same is h = wrote-is r0 r _ a mid is (subst (λ (g : History). Wrote r0 (index_lines (least (after (position g) m) e c)) a mid) same h)

pub turn-written : (start now : History) (e : ℕ) (c : Limit) (i to : ℕ) (m : Move) (r0 r : Bool) (a mid b : Told) → now ≡ start → slice_get (moves (position start)) i ≡ Some m → i < to → r0 ≡ true →
    Wrote r0 (index_lines (least (after (position now) m) e c)) a mid → Wrote r (lines_below (position start) e c (range_of (moves (position start)) (i + 1) to)) mid b →
    Wrote r (lines_below (position start) e c (range_of (moves (position start)) i to)) a b
turn-written start now e c i to m r0 r a mid b same here low whole first later =
    wrote-as r _ _ a b (sym (lines-next (position start) e c i to m here low))
    (wrote-then r (index_lines (least (after (position start) m) e c)) (lines_below (position start) e c (range_of (moves (position start)) (i + 1) to)) a mid b (here-written start now e c m r0 true a mid same whole first) later)

pub turn-cut : (start now : History) (e : ℕ) (c : Limit) (i to : ℕ) (m : Move) (r0 : Bool) (a mid : Told) → now ≡ start → slice_get (moves (position start)) i ≡ Some m → i < to → r0 ≡ false →
    Wrote r0 (index_lines (least (after (position now) m) e c)) a mid → Wrote false (lines_below (position start) e c (range_of (moves (position start)) i to)) a mid
turn-cut start now e c i to m r0 a mid same here low cut first =
    wrote-as false _ _ a mid (sym (lines-next (position start) e c i to m here low))
    (wrote-stop (index_lines (least (after (position start) m) e c)) (lines_below (position start) e c (range_of (moves (position start)) (i + 1) to)) a mid (here-written start now e c m r0 false a mid same cut first))

pub turn-over : (p : Position) (e : ℕ) (c : Limit) (i to : ℕ) (a : Told) → to ≤ i → Wrote true (lines_below p e c (range_of (moves p) i to)) a a
turn-over p e c i to a past = wrote-as true _ _ a a (sym (lines-end p e c i to past)) (wrote-nothing a)

-- a node that names a move
pub node-written : (start now : History) (d : ℕ) (l : Limit) (x y : ℤ) (k : ℕ) (m : Move) (r0 r : Bool) (a mid b : Told) → IsInner (position start) d → l ≡ AtLeast x → y ≡ neg_ℤ x → now ≡ start →
    Some k ≡ first_kept (position start) (d - 1) (AtMost y) (moves (position start)) → slice_get (moves (position start)) k ≡ Some m → r0 ≡ true →
    Wrote r0 (index_line k) a mid → Wrote r (index_lines (least (after (position now) m) (d - 1) (AtMost y))) mid b → Wrote r (index_lines (least (position start) d l)) a b
node-written start now d l x y k m r0 r a mid b inner is turned same found here whole first later =
    wrote-as r _ _ a b (sym (ap (λ c. index_lines (least (position start) d c)) is ∙ named-is (position start) d x y k m inner turned found here))
    (wrote-then r (index_line k) (index_lines (least (after (position start) m) (d - 1) (AtMost y))) a mid b (wrote-is r0 true _ a mid whole first)
    (here-written start now (d - 1) (AtMost y) m r r mid b same refl later))

pub node-cut : (p : Position) (d : ℕ) (l : Limit) (x y : ℤ) (k : ℕ) (r0 : Bool) (a mid : Told) → IsInner p d → l ≡ AtLeast x → y ≡ neg_ℤ x →
    Some k ≡ first_kept p (d - 1) (AtMost y) (moves p) → r0 ≡ false → Wrote r0 (index_line k) a mid → Wrote false (index_lines (least p d l)) a mid
node-cut p d l x y k r0 a mid inner is turned found cut first =
    let at = position-at (keeps_below p (d - 1) (AtMost y)) 0 (moves p) k (sym found) in
    let place : at.0 ≡ k = omega (arith, at.2) in
    let here : slice_get (moves p) k ≡ Some at.1 = ap (slice_get (moves p)) (sym place) ∙ at.3 in
    wrote-as false _ _ a mid (sym (ap (λ c. index_lines (least p d c)) is ∙ named-is p d x y k at.1 inner turned found here))
    (wrote-stop (index_line k) (index_lines (least (after p at.1) (d - 1) (AtMost y))) a mid (wrote-is r0 false _ a mid cut first))

pub node-none : (p : Position) (d : ℕ) (l : Limit) (x y : ℤ) (a : Told) → IsInner p d → l ≡ AtLeast x → y ≡ neg_ℤ x → None ≡ first_kept p (d - 1) (AtMost y) (moves p) → Wrote true (index_lines (least p d l)) a a
node-none p d l x y a inner is turned found = wrote-as true _ _ a a (sym (ap (λ c. index_lines (least p d c)) is ∙ none-named p d x y inner turned found)) (wrote-nothing a)

pub node-every : (p : Position) (d : ℕ) (l : Limit) (x y : ℤ) (count : ℕ) (r : Bool) (a b : Told) → IsInner p d → l ≡ AtMost x → y ≡ neg_ℤ x → count ≡ length (moves p) →
    Wrote r (lines_below p (d - 1) (AtLeast y) (range_of (moves p) 0 count)) a b → Wrote r (index_lines (least p d l)) a b
node-every p d l x y count r a b inner is turned all h = wrote-as r _ _ a b (every-is p d x y count inner turned all ∙ ap (λ c. index_lines (least p d c)) (sym is)) h

pub leaf-written : (p : Position) (d : ℕ) (c : Limit) (a : Told) → IsLeaf p d → Wrote true (index_lines (least p d c)) a a
leaf-written p d c a leaf = wrote-as true _ _ a a (sym (ap index_lines (least-leaf p d c leaf))) (wrote-nothing a)

pub index-written : (r : Bool) (bytes line : List ℕ) (a b : Told) → bytes ≡ line → OnTrue r (b ≡ behind a bytes) → OnFalse r ((n : ℕ) × (n < length bytes) × (b ≡ behind a (take n bytes))) → Wrote r line a b
index-written true bytes line a b e all part = all ∙ ap (behind a) e
index-written false bytes line a b e all part = (part.0, subst (λ (s : List ℕ). part.0 < length s) e part.1, part.2 ∙ ap (λ s. behind a (take part.0 s)) e)

-- the first move that keeps to the limit, as the code finds it
pub find-step : (p : Position) (e : ℕ) (c : Limit) (i : ℕ) (m : Move) → slice_get (moves p) i ≡ Some m → first_kept p e c (moves p) ≡ position_from (keeps_below p e c) i (drop i (moves p)) → keeps_below p e c m ≡ false →
    first_kept p e c (moves p) ≡ position_from (keeps_below p e c) (i + 1) (drop (i + 1) (moves p))
find-step p e c i m here so not = position-step (keeps_below p e c) (λ n. []) (moves p) i m so here not

pub find-met : (p : Position) (e : ℕ) (c : Limit) (i : ℕ) (m : Move) → slice_get (moves p) i ≡ Some m → first_kept p e c (moves p) ≡ position_from (keeps_below p e c) i (drop i (moves p)) → keeps_below p e c m ≡ true →
    Some i ≡ first_kept p e c (moves p)
find-met p e c i m here so yes_ = position-met (keeps_below p e c) (λ n. []) (moves p) i m so here yes_

pub kept-at : (start now : History) (e : ℕ) (c : Limit) (m : Move) (r b : Bool) → now ≡ start → r ≡ keeps_below (position now) e c m → r ≡ b → keeps_below (position start) e c m ≡ b
kept-at start now e c m r b same kept is = ap (λ (g : History). keeps_below (position g) e c m) (sym same) ∙ sym kept ∙ is

pub place-under : (p : Position) (e : ℕ) (c : Limit) (k : ℕ) → Some k ≡ first_kept p e c (moves p) → k < length (moves p)
place-under p e c k found =
    let at = position-at (keeps_below p e c) 0 (moves p) k (sym found) in
    let low : at.0 < length (moves p) = place-low (moves p) at.0 at.1 at.3 in omega (arith, low, at.2)

pub wider : (z : ℤ) → IsSmall 1000090 z → IsSmall 1000100 z
wider z h = let low = h.low in let high = h.high in record { low = omega (arith, ints, low); high = omega (arith, ints, high) }

small-neg : (z : ℤ) → IsSmall 1000090 z → IsSmall 1000090 (neg_ℤ z)
small-neg z h = let low = h.low in let high = h.high in record { low = omega (arith, ints, high); high = omega (arith, ints, low) }

pub small-turned : (z : ℤ) → IsSmall 1000090 z → IsSmall 1000090 (to_z w32 (of_z w32 (pos 0 -ℤ to_z w32 (of_z w32 z))))
small-turned z h = subst (IsSmall 1000090) (sym (neg-is z (wider z h))) (small-neg z h)
