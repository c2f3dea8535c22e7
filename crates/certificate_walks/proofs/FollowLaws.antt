-- What code that walks answers at each node, over plain values.
use Rattle.std.proofs.Common.{◌≡◌, ℕ, zero, suc, ◌+◌, ◌-◌, ◌<◌, ◌≤◌, Bool, true, false, cond, List, [], ◌∷◌, length, take, drop, refl, sym, ap, subst, arith, ◌∙◌, ℤ, pos, neg_ℤ, ◌-ℤ◌, ◌≤ℤ◌, ◌<ℤ◌, to_z, of_z, Some, None}
use Rattle.std.proofs.lemmas.Int.{ints}
use Rattle.std.specs.List.{slice_get}
use mir.Syntax.{w32}
use Rattle.hive_model.specs.declared.places.Move.{Move}
use Rattle.hive_model.specs.Positions.{Position}
use Rattle.hive_model.specs.Legal.{moves}
use Rattle.hive_model.specs.Games.{after}
use Rattle.hive_model.specs.Histories.{History, position, with_move}
use Rattle.hive_model.specs.Minimax.{IsInner, value, reply_value, best}
use Rattle.search_laws.specs.Laws.{IsSmall}
use Rattle.search_laws.specs.Leaves.{IsLeaf}
use Rattle.search_laws.proofs.HistoryLaws.{position-with_move}
use Rattle.search_laws.proofs.LoopLaws.{drop-at}
use Rattle.search_laws.proofs.Signs.{neg-is}
use Rattle.certificate_walks.specs.declared.limit.Limit.{Limit}
use Rattle.certificate_walks.specs.declared.limit.Limit.TheVariants.{AtMost, AtLeast}
use Rattle.certificate_walks.specs.Limits.{Keeps, is_kept, EachKeeps, number}
use Rattle.certificate_walks.specs.Walks.{WalkEnd, Left, Fault, Rules, go_on, walk_all, leaf_outcome, walk, walk_moves, walk_root, finish, place_of, certificate}
use Rattle.certificate_walks.specs.Follows.{held, range_of, Ending, Shown, Refused, BadItem, Unread, Sight, Meets, Follows, Carries, CarriesOn}
use Rattle.certificate_walks.proofs.WalkLaws.{walk-leaf, walk-inner}
use Rattle.certificate_walks.proofs.CarryLaws.{go-carries, then-carries, all-carries, walk-carries}
use Rattle.certificate_walks.proofs.SoundLaws.{value-at_most, value-at_least, best-at}
use Rattle.certificate_walks.proofs.PlaceLaws.{Each-weaker}

-- ---- ranges of moves

pub range-next : (ms : List Move) (i to : ℕ) (m : Move) → slice_get ms i ≡ Some m → i < to → range_of ms i to ≡ m ∷ range_of ms (i + 1) to
range-next ms i to m here low =
    let count : to - i ≡ suc (to - (i + 1)) = omega (arith, low) in
    rw (count, drop-at ms i m here) refl

pub range-end : (ms : List Move) (i to : ℕ) → to ≤ i → range_of ms i to ≡ []
range-end ms i to past = let count : to - i ≡ 0 = omega (arith, past) in rw count refl

take-more : {A : Type 0} (n : ℕ) (xs : List A) → length xs ≤ n → take n xs ≡ xs
take-more zero [] h = refl
take-more zero (x ∷ xs) h = absurd (omega (arith, h))
take-more (suc n) [] h = refl
take-more (suc n) (x ∷ xs) h = ap (λ ys. x ∷ ys) (take-more n xs (omega (arith, h)))

length-behind : {A : Type 0} (n : ℕ) (xs : List A) → length (drop n xs) ≡ length xs - n
length-behind zero xs = omega arith
length-behind (suc n) [] = omega arith
length-behind (suc n) (x ∷ xs) = length-behind n xs ∙ omega arith

pub range-all : (ms : List Move) (count : ℕ) → count ≡ length ms → range_of ms 0 count ≡ ms
range-all ms count e = take-more (count - 0) ms (omega (arith, e))

pub range-before : (ms : List Move) (k : ℕ) → range_of ms 0 k ≡ take k ms
range-before ms k = let same : k - 0 ≡ k = omega arith in rw same refl

pub range-behind : (ms : List Move) (k count : ℕ) → count ≡ length ms → range_of ms k count ≡ drop k ms
range-behind ms k count e = take-more (count - k) (drop k ms) (omega (arith, e, length-behind k ms))

-- ---- what is shown

pub position-behind : (start played : History) (m : Move) → played ≡ with_move start m → position played ≡ after (position start) m
position-behind start played m moved = ap position moved ∙ position-with_move start m

pub shown-child : (start played : History) (m : Move) (d : ℕ) (c : Limit) → played ≡ with_move start m → Keeps c (value (position played) d) → Keeps c (value (after (position start) m) d)
shown-child start played m d c moved h = subst (λ (p : Position). Keeps c (value p d)) (position-behind start played m moved) h

shown-next : (p : Position) (d : ℕ) (c : Limit) (i to : ℕ) (m : Move) → slice_get (moves p) i ≡ Some m → i < to → Keeps c (value (after p m) d) →
    EachKeeps p d c (range_of (moves p) (i + 1) to) → EachKeeps p d c (range_of (moves p) i to)
shown-next p d c i to m here low first later = subst (EachKeeps p d c) (sym (range-next (moves p) i to m here low)) (first, later)

pub turn-shown : (start now : History) (d : ℕ) (c : Limit) (i to : ℕ) (m : Move) → now ≡ start → slice_get (moves (position start)) i ≡ Some m → i < to →
    Keeps c (value (after (position now) m) d) → EachKeeps (position start) d c (range_of (moves (position start)) (i + 1) to) → EachKeeps (position start) d c (range_of (moves (position start)) i to)
turn-shown start now d c i to m same here low first later =
    shown-next (position start) d c i to m here low (subst (λ (h : History). Keeps c (value (after (position h) m) d)) same first) later

less-one : (d : ℕ) → suc d - 1 ≡ d
less-one d = omega arith

every-shown : (p : Position) (d : ℕ) (x : ℤ) → IsInner p d → EachKeeps p (d - 1) (AtLeast (neg_ℤ x)) (moves p) → value p d ≤ℤ x
every-shown p zero x inner all = absurd (omega (arith, inner.deep))
every-shown p (suc d) x inner all =
    let here : EachKeeps p d (AtLeast (neg_ℤ x)) (moves p) = subst (λ (e : ℕ). EachKeeps p e (AtLeast (neg_ℤ x)) (moves p)) (less-one d) all in
    value-at_most p d x inner.open_ (Each-weaker (λ m. neg_ℤ x ≤ℤ value (after p m) d) (λ m. reply_value p d m ≤ℤ x) (λ m low. omega (arith, ints, low)) (moves p) here)

index-shown : (p : Position) (d : ℕ) (x : ℤ) (i : ℕ) (m : Move) → IsInner p d → slice_get (moves p) i ≡ Some m → value (after p m) (d - 1) ≤ℤ neg_ℤ x → x ≤ℤ value p d
index-shown p zero x i m inner here low = absurd (omega (arith, inner.deep))
index-shown p (suc d) x i m inner here low =
    value-at_least p d x i m inner.open_ here (subst (λ (e : ℕ). value (after p m) e ≤ℤ neg_ℤ x) (less-one d) low)

pub shown-every : (p : Position) (d : ℕ) (c : Limit) (x y : ℤ) (count : ℕ) → IsInner p d → count ≡ length (moves p) → c ≡ AtMost x → y ≡ neg_ℤ x →
    EachKeeps p (d - 1) (AtLeast y) (range_of (moves p) 0 count) → Keeps c (value p d)
shown-every p d c x y count inner all ec ey h =
    let each : EachKeeps p (d - 1) (AtLeast (neg_ℤ x)) (moves p) =
    subst (λ (z : ℤ). EachKeeps p (d - 1) (AtLeast z) (moves p)) ey (subst (EachKeeps p (d - 1) (AtLeast y)) (range-all (moves p) count all) h) in
    subst (λ (l : Limit). Keeps l (value p d)) (sym ec) (every-shown p d x inner each)

pub shown-index : (p : Position) (d : ℕ) (c : Limit) (x y : ℤ) (i : ℕ) (m : Move) → IsInner p d → slice_get (moves p) i ≡ Some m → c ≡ AtLeast x → y ≡ neg_ℤ x →
    Keeps (AtMost y) (value (after p m) (d - 1)) → Keeps c (value p d)
shown-index p d c x y i m inner here ec ey h =
    let low : value (after p m) (d - 1) ≤ℤ neg_ℤ x = subst (λ (z : ℤ). value (after p m) (d - 1) ≤ℤ z) ey h in
    subst (λ (l : Limit). Keeps l (value p d)) (sym ec) (index-shown p d x i m inner here low)

-- ---- numbers of the code

pub number-small : (c : Limit) (x : ℤ) (k : Limit) → c ≡ k → number k ≡ x → IsSmall 1000100 (number c) → IsSmall 1000100 x
number-small c x k e n small = subst (IsSmall 1000100) (ap number e ∙ n) small

pub small-turned : (z : ℤ) → IsSmall 1000100 z → IsSmall 1000100 (to_z w32 (of_z w32 (pos 0 -ℤ to_z w32 (of_z w32 z))))
small-turned z small = rw (neg-is z small) (record { low = omega (arith, ints, small.high); high = omega (arith, ints, small.low) })

-- one less than a small number
pub one-less : (v : ℤ) → IsSmall 1000064 v → to_z w32 (of_z w32 (pos 1 -ℤ to_z w32 (of_z w32 v))) ≡ pos 1 -ℤ v
one-less v small = omega (arith, ints, small.low, small.high)

pub place-low : (ms : List Move) (k : ℕ) (m : Move) → slice_get ms k ≡ Some m → k < length ms
place-low [] k m e = cc
place-low (n ∷ ms) zero m e = omega arith
place-low (n ∷ ms) (suc k) m e = let low = place-low ms k m e in omega (arith, low)

-- ---- parts of a walk, one after the other

module _ {S W N : Type 0} (V : Sight S W N) where
  pub follows-as : (f g : S → WalkEnd S W) (a b : N) (w : Ending W) → ((s : S) → f s ≡ g s) → Follows V f a w b → Follows V g a w b
  follows-as f g a b w same h s e = subst (λ (o : WalkEnd S W). Meets V o w b) (same s) (h s e)

  pub follows-then : (f g : S → WalkEnd S W) (a b c : N) (w : Ending W) → Follows V f a Shown b → Follows V g b w c → Follows V (λ s. go_on (f s) g) a w c
  follows-then f g a b c w first second s e =
      let m = first s e in
      subst (λ (o : WalkEnd S W). Meets V o w c) (sym (ap (λ o. go_on o g) m.1)) (second m.0 m.2)

  stop-meets : (o : WalkEnd S W) (g : S → WalkEnd S W) (w : Ending W) (b : N) → (w ≡ Shown → ⊥) → Carries V g → Meets V o w b → Meets V (go_on o g) w b
  stop-meets o g Shown b not carries m = absurd (not refl)
  stop-meets o g (Refused why) b not carries m = (m.0, ap (λ o. go_on o g) m.1, m.2)
  stop-meets o g BadItem b not carries m = (m.0, ap (λ o. go_on o g) m.1, m.2)
  stop-meets o g Unread b not carries m = go-carries V o g b carries m

  pub follows-stop : (f g : S → WalkEnd S W) (a b : N) (w : Ending W) → (w ≡ Shown → ⊥) → Carries V g → Follows V f a w b → Follows V (λ s. go_on (f s) g) a w b
  follows-stop f g a b w not carries h s e = stop-meets (f s) g w b not carries (h s e)

  pub follows-none : (a : N) → (let f : S → WalkEnd S W = λ s. Left s in Follows V f a Shown a)
  follows-none a s e = (s, refl, e)

  pub follows-next : (f : Move → S → WalkEnd S W) (ms : List Move) (i to : ℕ) (m : Move) (a b c : N) (w : Ending W) → slice_get ms i ≡ Some m → i < to →
      Follows V (f m) a Shown b → Follows V (walk_all f (range_of ms (i + 1) to)) b w c → Follows V (walk_all f (range_of ms i to)) a w c
  follows-next f ms i to m a b c w here low first later =
      subst (λ (ns : List Move). Follows V (walk_all f ns) a w c) (sym (range-next ms i to m here low)) (follows-then (f m) (walk_all f (range_of ms (i + 1) to)) a b c w first later)

  pub follows-here : (f : Move → S → WalkEnd S W) (ms : List Move) (i to : ℕ) (m : Move) (a b : N) (w : Ending W) → slice_get ms i ≡ Some m → i < to → (w ≡ Shown → ⊥) → ((n : Move) → Carries V (f n)) →
      Follows V (f m) a w b → Follows V (walk_all f (range_of ms i to)) a w b
  follows-here f ms i to m a b w here low not carries first =
      subst (λ (ns : List Move). Follows V (walk_all f ns) a w b) (sym (range-next ms i to m here low)) (follows-stop (f m) (walk_all f (range_of ms (i + 1) to)) a b w not (all-carries V f carries (range_of ms (i + 1) to)) first)

  pub follows-past : (f : Move → S → WalkEnd S W) (ms : List Move) (i to : ℕ) (a : N) → to ≤ i → Follows V (walk_all f (range_of ms i to)) a Shown a
  follows-past f ms i to a past = subst (λ (ns : List Move). Follows V (walk_all f ns) a Shown a) (sym (range-end ms i to past)) (follows-none a)

-- ---- a walk

module _ {S W N : Type 0} (R : Rules S W) (V : Sight S W N) where
  abbrev pub Walks : Position → ℕ → Limit → N → Ending W → N → Type 0
  Walks p d c = Follows V (walk R p d c)

  leaf-meets : ((s : S) → V.place (V.view s) ≡ held (R.taken s)) → (b : Bool) (s : S) (n : N) (w : Ending W) → n ≡ V.view s → w ≡ cond b Shown (Refused R.reasons.leaf_fails) → Meets V (leaf_outcome R b s) w n
  leaf-meets counts true s n w e is = subst (λ (u : Ending W). Meets V (leaf_outcome R true s) u n) (sym is) (s, refl, e)
  leaf-meets counts false s n w e is = subst (λ (u : Ending W). Meets V (leaf_outcome R false s) u n) (sym is) (R.taken s, refl, ap V.place e ∙ counts s)

  pub follows-leaf : ((s : S) → V.place (V.view s) ≡ held (R.taken s)) → (p : Position) (e : ℕ) (c : Limit) (v : ℤ) (w : Ending W) (a : N) → IsLeaf p e → v ≡ value p e →
      w ≡ cond (is_kept c v) Shown (Refused R.reasons.leaf_fails) → Walks p e c a w a
  follows-leaf counts p e c v w a leaf worth is s here =
      subst (λ (o : WalkEnd S W). Meets V o w a) (sym (walk-leaf R p e c s leaf))
      (leaf-meets counts (is_kept c (value p e)) s a w here (is ∙ ap (λ z. cond (is_kept c z) Shown (Refused R.reasons.leaf_fails)) worth))

  pub follows-child : (start played : History) (m : Move) (d : ℕ) (c : Limit) (a b : N) (w : Ending W) → played ≡ with_move start m → Walks (position played) d c a w b → Walks (after (position start) m) d c a w b
  follows-child start played m d c a b w moved h = subst (λ (p : Position). Walks p d c a w b) (position-behind start played m moved) h

  -- every move of a range
  abbrev pub WalksAll : Position → ℕ → Limit → List Move → N → Ending W → N → Type 0
  WalksAll p d c ms = Follows V (walk_all (λ m. walk R (after p m) d c) ms)

  pub turn-told : (start now : History) (d : ℕ) (c : Limit) (i to : ℕ) (m : Move) (a b : N) (w : Ending W) → now ≡ start → slice_get (moves (position start)) i ≡ Some m → i < to → w ≡ Shown →
      Walks (after (position now) m) d c a w b → (u : Ending W) (e : N) →
      WalksAll (position start) d c (range_of (moves (position start)) (i + 1) to) b u e → WalksAll (position start) d c (range_of (moves (position start)) i to) a u e
  turn-told start now d c i to m a b w same here low done first u e later =
      let first_here : Walks (after (position start) m) d c a w b = subst (λ (h : History). Walks (after (position h) m) d c a w b) same first in
      let first_done : Walks (after (position start) m) d c a Shown b = subst (λ (v : Ending W). Walks (after (position start) m) d c a v b) done first_here in
      follows-next V (λ m. walk R (after (position start) m) d c) (moves (position start)) i to m a b e u here low first_done later

  pub turn-stops : CarriesOn R V → (start now : History) (d : ℕ) (c : Limit) (i to : ℕ) (m : Move) (a b : N) (w : Ending W) → now ≡ start → slice_get (moves (position start)) i ≡ Some m → i < to → (w ≡ Shown → ⊥) →
      Walks (after (position now) m) d c a w b → WalksAll (position start) d c (range_of (moves (position start)) i to) a w b
  turn-stops on start now d c i to m a b w same here low not first =
      follows-here V (λ m. walk R (after (position start) m) d c) (moves (position start)) i to m a b w here low not (λ n. walk-carries R V on d (after (position start) n) c)
      (subst (λ (h : History). Walks (after (position h) m) d c a w b) same first)

  pub turn-past : (p : Position) (d : ℕ) (c : Limit) (i to : ℕ) (a : N) → to ≤ i → WalksAll p d c (range_of (moves p) i to) a Shown a
  turn-past p d c i to a past = follows-past V (λ m. walk R (after p m) d c) (moves p) i to a past

  -- a node that walks every move
  pub node-every : (p : Position) (d : ℕ) (c : Limit) (x y : ℤ) (count : ℕ) (a b : N) (w : Ending W) → IsInner p d → count ≡ length (moves p) → c ≡ AtMost x → y ≡ neg_ℤ x →
      WalksAll p (d - 1) (AtLeast y) (range_of (moves p) 0 count) a w b → Walks p d c a w b
  node-every p d c x y count a b w inner all ec ey h =
      let whole : WalksAll p (d - 1) (AtLeast y) (moves p) a w b = subst (λ (ns : List Move). WalksAll p (d - 1) (AtLeast y) ns a w b) (range-all (moves p) count all) h in
      let turned : WalksAll p (d - 1) (AtLeast (neg_ℤ x)) (moves p) a w b = subst (λ (z : ℤ). WalksAll p (d - 1) (AtLeast z) (moves p) a w b) ey whole in
      subst (λ (l : Limit). Walks p d l a w b) (sym ec)
      (follows-as V (walk_all (λ m. walk R (after p m) (d - 1) (AtLeast (neg_ℤ x))) (moves p)) (walk R p d (AtMost x)) a b w (λ s. sym (walk-inner R p d (AtMost x) s inner)) turned)

  -- ---- the four parts of a root

  abbrev pub Root : Position → ℕ → ℕ → Move → ℤ → N → Ending W → N → Type 0
  Root p e k m v = Follows V (walk_moves (λ n. walk R (after p n) e) (moves p) k m v)

  abbrev pub Before : Position → ℕ → ℕ → ℤ → N → Ending W → N → Type 0
  Before p e k v = WalksAll p e (AtLeast (pos 1 -ℤ v)) (take k (moves p))

  abbrev pub High : Position → ℕ → Move → ℤ → N → Ending W → N → Type 0
  High p e m v = Walks (after p m) e (AtMost (neg_ℤ v))

  abbrev pub Low : Position → ℕ → Move → ℤ → N → Ending W → N → Type 0
  Low p e m v = Walks (after p m) e (AtLeast (neg_ℤ v))

  abbrev pub Behind : Position → ℕ → ℕ → ℤ → N → Ending W → N → Type 0
  Behind p e k v = WalksAll p e (AtLeast (neg_ℤ v)) (drop (k + 1) (moves p))

  module _ (p : Position) (e k : ℕ) (m : Move) (v : ℤ) where
    abbrev last_part : S → WalkEnd S W
    last_part = walk_all (λ n. walk R (after p n) e (AtLeast (neg_ℤ v))) (drop (k + 1) (moves p))

    abbrev low_part : S → WalkEnd S W
    low_part s = go_on (walk R (after p m) e (AtLeast (neg_ℤ v)) s) last_part

    abbrev high_part : S → WalkEnd S W
    high_part s = go_on (walk R (after p m) e (AtMost (neg_ℤ v)) s) low_part

    last-carries : CarriesOn R V → Carries V last_part
    last-carries on = all-carries V (λ n. walk R (after p n) e (AtLeast (neg_ℤ v))) (λ n. walk-carries R V on e (after p n) (AtLeast (neg_ℤ v))) (drop (k + 1) (moves p))

    low-carries : CarriesOn R V → Carries V low_part
    low-carries on = then-carries V (walk R (after p m) e (AtLeast (neg_ℤ v))) last_part (walk-carries R V on e (after p m) (AtLeast (neg_ℤ v))) (last-carries on)

    high-carries : CarriesOn R V → Carries V high_part
    high-carries on = then-carries V (walk R (after p m) e (AtMost (neg_ℤ v))) low_part (walk-carries R V on e (after p m) (AtMost (neg_ℤ v))) (low-carries on)

    goes : (f g : S → WalkEnd S W) (a b c : N) (w x : Ending W) → w ≡ Shown → Follows V f a w b → Follows V g b x c → Follows V (λ s. go_on (f s) g) a x c
    goes f g a b c w x done first later = follows-then V f g a b c x (subst (λ (u : Ending W). Follows V f a u b) done first) later

    pub before-stops : CarriesOn R V → (a b : N) (w : Ending W) → (w ≡ Shown → ⊥) → Before p e k v a w b → Root p e k m v a w b
    before-stops on a b w not first = follows-stop V (walk_all (λ n. walk R (after p n) e (AtLeast (pos 1 -ℤ v))) (take k (moves p))) high_part a b w not (high-carries on) first

    pub high-stops : CarriesOn R V → (a b c : N) (w x : Ending W) → w ≡ Shown → Before p e k v a w b → (x ≡ Shown → ⊥) → High p e m v b x c → Root p e k m v a x c
    high-stops on a b c w x done first not high =
        goes (walk_all (λ n. walk R (after p n) e (AtLeast (pos 1 -ℤ v))) (take k (moves p))) high_part a b c w x done first
        (follows-stop V (walk R (after p m) e (AtMost (neg_ℤ v))) low_part b c x not (low-carries on) high)

    pub low-stops : CarriesOn R V → (a b c d : N) (w x y : Ending W) → w ≡ Shown → Before p e k v a w b → x ≡ Shown → High p e m v b x c → (y ≡ Shown → ⊥) → Low p e m v c y d → Root p e k m v a y d
    low-stops on a b c d w x y done first done_too high not low =
        goes (walk_all (λ n. walk R (after p n) e (AtLeast (pos 1 -ℤ v))) (take k (moves p))) high_part a b d w y done first
        (goes (walk R (after p m) e (AtMost (neg_ℤ v))) low_part b c d x y done_too high
        (follows-stop V (walk R (after p m) e (AtLeast (neg_ℤ v))) last_part c d y not (last-carries on) low))

    pub all-goes : (a b c d f : N) (w x y z : Ending W) → w ≡ Shown → Before p e k v a w b → x ≡ Shown → High p e m v b x c → y ≡ Shown → Low p e m v c y d → Behind p e k v d z f → Root p e k m v a z f
    all-goes a b c d f w x y z done first done_too high done_three low last =
        goes (walk_all (λ n. walk R (after p n) e (AtLeast (pos 1 -ℤ v))) (take k (moves p))) high_part a b f w z done first
        (goes (walk R (after p m) e (AtMost (neg_ℤ v))) low_part b c f x z done_too high
        (goes (walk R (after p m) e (AtLeast (neg_ℤ v))) last_part c d f y z done_three low last))

  -- the parts as the code walks them
  pub before-is : (p : Position) (e k : ℕ) (v y : ℤ) (a b : N) (w : Ending W) → y ≡ pos 1 -ℤ v → WalksAll p e (AtLeast y) (range_of (moves p) 0 k) a w b → Before p e k v a w b
  before-is p e k v y a b w ey h =
      subst (λ (ms : List Move). WalksAll p e (AtLeast (pos 1 -ℤ v)) ms a w b) (range-before (moves p) k)
      (subst (λ (z : ℤ). WalksAll p e (AtLeast z) (range_of (moves p) 0 k) a w b) ey h)

  pub high-is : (start now : History) (e : ℕ) (m : Move) (v y : ℤ) (a b : N) (w : Ending W) → now ≡ start → y ≡ neg_ℤ v → Walks (after (position now) m) e (AtMost y) a w b → High (position start) e m v a w b
  high-is start now e m v y a b w same ey h =
      subst (λ (g : History). Walks (after (position g) m) e (AtMost (neg_ℤ v)) a w b) same (subst (λ (z : ℤ). Walks (after (position now) m) e (AtMost z) a w b) ey h)

  pub low-is : (start now : History) (e : ℕ) (m : Move) (v y : ℤ) (a b : N) (w : Ending W) → now ≡ start → y ≡ neg_ℤ v → Walks (after (position now) m) e (AtLeast y) a w b → Low (position start) e m v a w b
  low-is start now e m v y a b w same ey h =
      subst (λ (g : History). Walks (after (position g) m) e (AtLeast (neg_ℤ v)) a w b) same (subst (λ (z : ℤ). Walks (after (position now) m) e (AtLeast z) a w b) ey h)

  pub behind-is : (start now : History) (e k count : ℕ) (v y : ℤ) (a b : N) (w : Ending W) → now ≡ start → y ≡ neg_ℤ v → count ≡ length (moves (position start)) →
      WalksAll (position now) e (AtLeast y) (range_of (moves (position now)) (k + 1) count) a w b → Behind (position start) e k v a w b
  behind-is start now e k count v y a b w same ey all h =
      subst (λ (ms : List Move). WalksAll (position start) e (AtLeast (neg_ℤ v)) ms a w b) (range-behind (moves (position start)) (k + 1) count all)
      (subst (λ (g : History). WalksAll (position g) e (AtLeast (neg_ℤ v)) (range_of (moves (position g)) (k + 1) count) a w b) same
      (subst (λ (z : ℤ). WalksAll (position now) e (AtLeast z) (range_of (moves (position now)) (k + 1) count) a w b) ey h))

  pub root-as : (start now : History) → now ≡ start → (e k : ℕ) (m : Move) (v : ℤ) (a b : N) (w : Ending W) → Root (position now) e k m v a w b → Root (position start) e k m v a w b
  root-as start now same e k m v a b w h = subst (λ (g : History). Root (position g) e k m v a w b) same h

  pub certificate-at : (p : Position) (d k : ℕ) (m : Move) (v : ℤ) (s : S) → Some k ≡ place_of m (moves p) →
      certificate R p d m v s ≡ go_on (walk_moves (λ n. walk R (after p n) (d - 1)) (moves p) k m v s) (finish R)
  unfolding certificate
  certificate-at p d k m v s place = ap (λ o. walk_root R (λ n. walk R (after p n) (d - 1)) (moves p) o m v s) (sym place)

  pub certificate-none : (p : Position) (d : ℕ) (m : Move) (v : ℤ) (s : S) → None ≡ place_of m (moves p) → certificate R p d m v s ≡ Fault R.reasons.no_such_move 0
  unfolding certificate
  certificate-none p d m v s place = ap (λ o. walk_root R (λ n. walk R (after p n) (d - 1)) (moves p) o m v s) (sym place)

-- ---- what the four parts show

pub root-shown : (start g1 g2 g3 : History) (d k count : ℕ) (m : Move) (v y z : ℤ) → IsInner (position start) d → slice_get (moves (position start)) k ≡ Some m → count ≡ length (moves (position start)) →
    y ≡ pos 1 -ℤ v → z ≡ neg_ℤ v → g1 ≡ start → g2 ≡ start → g3 ≡ start →
    EachKeeps (position start) (d - 1) (AtLeast y) (range_of (moves (position start)) 0 k) → Keeps (AtMost z) (value (after (position g1) m) (d - 1)) → Keeps (AtLeast z) (value (after (position g2) m) (d - 1)) →
    EachKeeps (position g3) (d - 1) (AtLeast z) (range_of (moves (position g3)) (k + 1) count) → (best (position start) d ≡ Some m) × (value (position start) d ≡ v)
root-shown start g1 g2 g3 d k count m v y z inner at all ey ez e1 e2 e3 first high low last =
    let p = position start in
    let e = d - 1 in
    let before : EachKeeps p e (AtLeast (pos 1 -ℤ v)) (take k (moves p)) =
    subst (λ (x : ℤ). EachKeeps p e (AtLeast x) (take k (moves p))) ey (subst (EachKeeps p e (AtLeast y)) (range-before (moves p) k) first) in
    let above : value (after p m) e ≤ℤ neg_ℤ v = subst (λ (x : ℤ). value (after p m) e ≤ℤ x) ez (subst (λ (g : History). value (after (position g) m) e ≤ℤ z) e1 high) in
    let under : neg_ℤ v ≤ℤ value (after p m) e = subst (λ (x : ℤ). x ≤ℤ value (after p m) e) ez (subst (λ (g : History). z ≤ℤ value (after (position g) m) e) e2 low) in
    let behind : EachKeeps p e (AtLeast (neg_ℤ v)) (drop (k + 1) (moves p)) =
    subst (λ (x : ℤ). EachKeeps p e (AtLeast x) (drop (k + 1) (moves p))) ez
    (subst (EachKeeps p e (AtLeast z)) (range-behind (moves p) (k + 1) count all)
    (subst (λ (g : History). EachKeeps (position g) e (AtLeast z) (range_of (moves (position g)) (k + 1) count)) e3 last)) in
    best-at p d k m v inner at
    (Each-weaker (λ n. (pos 1 -ℤ v) ≤ℤ value (after p n) e) (λ n. reply_value p e n <ℤ v) (λ n h. omega (arith, ints, h)) (take k (moves p)) before)
    (omega (arith, ints, above, under))
    (Each-weaker (λ n. neg_ℤ v ≤ℤ value (after p n) e) (λ n. reply_value p e n ≤ℤ v) (λ n h. omega (arith, ints, h)) (drop (k + 1) (moves p)) behind)
