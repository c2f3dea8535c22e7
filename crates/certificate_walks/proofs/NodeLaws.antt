-- What code answers at each node, with a game under way and a walker that takes the tokens.
use Rattle.std.proofs.Common.{◌≡◌, ℕ, ◌-◌, ◌≤◌, Bool, true, false, cond, length, refl, sym, ap, subst, ◌∙◌, ℤ, neg_ℤ, Some, None}
use Rattle.std.specs.Prelude.{IsTrue, ◌↔◌}
use Rattle.std.specs.List.{slice_get}
use Rattle.hive_model.specs.declared.places.Move.{Move}
use Rattle.hive_model.specs.Positions.{Position}
use Rattle.hive_model.specs.Legal.{moves}
use Rattle.hive_model.specs.Games.{after}
use Rattle.hive_model.specs.Histories.{History, position}
use Rattle.hive_model.specs.Minimax.{IsInner, value}
use Rattle.certificate_walks.specs.declared.limit.Limit.{Limit}
use Rattle.certificate_walks.specs.declared.limit.Limit.TheVariants.{AtMost, AtLeast}
use Rattle.certificate_walks.specs.declared.walker.Walked.{Walked}
use Rattle.certificate_walks.specs.declared.walker.Walked.TheVariants.{Done, LeafFails, BadIndex, Stops}
use Rattle.certificate_walks.specs.Limits.{Keeps, EachKeeps}
use Rattle.certificate_walks.specs.Walks.{WalkEnd, Left, Step, Below, Ends, Rules, go_on, walk_at, walk_step, walk, goes_below}
use Rattle.certificate_walks.specs.Follows.{held, range_of, Ending, Shown, Refused, Sight, Meets, Follows, Carries, CarriesOn}
use Rattle.certificate_walks.specs.Parts.{EndsHere, IsPart, Parts, ending_of, leaf_walked}
use Rattle.certificate_walks.proofs.WalkLaws.{walk-inner}
use Rattle.certificate_walks.proofs.CarryLaws.{then-carries, walk-carries}
use Rattle.certificate_walks.proofs.FollowLaws.{Walks, WalksAll, follows-stop, node-every, range-end, shown-every, shown-index}

-- ---- endings

module _ {S W T : Type 0} (R : Rules S W) (ends : T → Ending W) where
  pub leaf-ending : (b : Bool) (w : Walked T) → w ≡ leaf_walked b → ending_of R ends w ≡ cond b Shown (Refused R.reasons.leaf_fails)
  leaf-ending true w e = ap (ending_of R ends) e
  leaf-ending false w e = ap (ending_of R ends) e

  pub shown-done : ((t : T) → ends t ≡ Shown → ⊥) → (w : Walked T) → ending_of R ends w ≡ Shown → w ≡ Done
  shown-done short Done e = refl
  shown-done short LeafFails e = cc
  shown-done short BadIndex e = cc
  shown-done short (Stops t) e = absurd (short t e)

  pub not-shown : ((t : T) → ends t ≡ Shown → ⊥) → (b : Bool) (w : Walked T) → (IsTrue b ↔ (w ≡ Done)) → b ≡ false → ending_of R ends w ≡ Shown → ⊥
  not-shown short b w iff no_ e = let yes_ : b ≡ true = iff.1 (shown-done short w e) in cc

  pub is-shown : (b : Bool) (w : Walked T) → (IsTrue b ↔ (w ≡ Done)) → b ≡ true → ending_of R ends w ≡ Shown
  is-shown b w iff yes_ = ap (ending_of R ends) (iff.0 yes_)

pub is-done : {T : Type 0} (b : Bool) (w : Walked T) → (IsTrue b ↔ (w ≡ Done)) → b ≡ true → w ≡ Done
is-done b w iff yes_ = iff.0 yes_

-- ---- what else holds

pub part-behind : {A T : Type 0} (parts : Parts A T) (w : Walked T) (a b c : A) → parts.goes a b → IsPart parts w b c → IsPart parts w a c
part-behind parts Done a b c first later = parts.both a b c first later
part-behind parts LeafFails a b c first later = parts.both a b c first later
part-behind parts BadIndex a b c first later = parts.both a b c first later
part-behind parts (Stops stop) a b c first later = parts.behind stop a b c first later

-- a part after one that came to its end, by the test of the code
pub part-goes-on : {A T : Type 0} (parts : Parts A T) (test : Bool) (w x : Walked T) (a b c : A) → (IsTrue test ↔ (w ≡ Done)) → test ≡ true → IsPart parts w a b → IsPart parts x b c → IsPart parts x a c
part-goes-on {A} {T} parts test w x a b c iff yes_ first later = part-behind parts x a b c (subst (λ (u : Walked T). IsPart parts u a b) (iff.0 yes_) first) later

-- a leaf changes nothing
pub part-leaf : {A T : Type 0} (parts : Parts A T) (kept : Bool) (w : Walked T) (a : A) → w ≡ leaf_walked kept → IsPart parts w a a
part-leaf {A} {T} parts true w a e = subst (λ (u : Walked T). IsPart parts u a a) (sym e) (parts.none a)
part-leaf {A} {T} parts false w a e = subst (λ (u : Walked T). IsPart parts u a a) (sym e) (parts.none a)

-- what is kept after a part that came to its end, by the test of the code
pub part-keeps : {A T : Type 0} (parts : Parts A T) (test : Bool) (w : Walked T) (a b c : A) → (IsTrue test ↔ (w ≡ Done)) → test ≡ true → IsPart parts w a b → parts.goes b c → parts.goes a c
part-keeps {A} {T} parts test w a b c iff yes_ first later = parts.both a b c (subst (λ (u : Walked T). IsPart parts u a b) (iff.0 yes_) first) later

-- by the test of the code, it did not come to its end
pub not-done : {T : Type 0} (test : Bool) (w : Walked T) → (IsTrue test ↔ (w ≡ Done)) → test ≡ false → w ≡ Done → ⊥
not-done test w iff no_ e = let yes_ : test ≡ true = iff.1 e in cc

-- ---- what is shown

pub game-every : (start now : History) (d : ℕ) (x y : ℤ) (count : ℕ) → now ≡ start → IsInner (position start) d → count ≡ length (moves (position start)) → y ≡ neg_ℤ x →
    EachKeeps (position now) (d - 1) (AtLeast y) (range_of (moves (position now)) 0 count) → Keeps (AtMost x) (value (position start) d)
game-every start now d x y count same inner all ey h =
    shown-every (position start) d (AtMost x) x y count inner all refl ey
    (subst (λ (g : History). EachKeeps (position g) (d - 1) (AtLeast y) (range_of (moves (position g)) 0 count)) same h)

pub game-index : (start now : History) (d : ℕ) (x y : ℤ) (i : ℕ) (m : Move) → now ≡ start → IsInner (position start) d → slice_get (moves (position start)) i ≡ Some m → y ≡ neg_ℤ x →
    Keeps (AtMost y) (value (after (position now) m) (d - 1)) → Keeps (AtLeast x) (value (position start) d)
game-index start now d x y i m same inner here ey h =
    shown-index (position start) d (AtLeast x) x y i m inner here refl ey (subst (λ (g : History). Keeps (AtMost y) (value (after (position g) m) (d - 1))) same h)

pub keeps-still : (start now : History) (d : ℕ) (x y : ℤ) → now ≡ start → y ≡ x → Keeps (AtLeast x) (value (position start) d) → Keeps (AtLeast y) (value (position now) d)
keeps-still start now d x y same ey h = subst (λ (g : History). Keeps (AtLeast y) (value (position g) d)) (sym same) (subst (λ (z : ℤ). Keeps (AtLeast z) (value (position start) d)) (sym ey) h)

-- a claim that is walked as it was found, if the game is as before
pub claim-keeps : (start now : History) (d : ℕ) (limit : ℤ → Limit) (c : Limit) (x y : ℤ) → c ≡ limit x → now ≡ start → y ≡ x → Keeps (limit y) (value (position now) d) → Keeps c (value (position start) d)
claim-keeps start now d limit c x y ec same ey h =
    subst (λ (l : Limit). Keeps l (value (position start) d)) (sym ec)
    (subst (λ (z : ℤ). Keeps (limit z) (value (position start) d)) ey (subst (λ (g : History). Keeps (limit y) (value (position g) d)) same h))

-- an empty list of moves keeps to the limit
pub shown-past : (p : Position) (d : ℕ) (c : Limit) (i to : ℕ) → to ≤ i → EachKeeps p d c (range_of (moves p) i to)
shown-past p d c i to past = subst (EachKeeps p d c) (sym (range-end (moves p) i to past)) tt

-- ---- what is known

module _ {S W N : Type 0} (R : Rules S W) (V : Sight S W N) where
  pub game-walks : (start now : History) (d : ℕ) (x y : ℤ) (count : ℕ) (a b : N) (w : Ending W) → now ≡ start → IsInner (position start) d → count ≡ length (moves (position start)) → y ≡ neg_ℤ x →
      WalksAll R V (position now) (d - 1) (AtLeast y) (range_of (moves (position now)) 0 count) a w b → Walks R V (position start) d (AtMost x) a w b
  game-walks start now d x y count a b w same inner all ey h =
      node-every R V (position start) d (AtMost x) x y count a b w inner all refl ey
      (subst (λ (g : History). WalksAll R V (position g) (d - 1) (AtLeast y) (range_of (moves (position g)) 0 count) a w b) same h)

  pub claim-told : (start now : History) (d : ℕ) (limit : ℤ → Limit) (c : Limit) (x y : ℤ) (a b : N) (w : Ending W) → c ≡ limit x → now ≡ start → y ≡ x → Walks R V (position now) d (limit y) a w b → Walks R V (position start) d c a w b
  claim-told start now d limit c x y a b w ec same ey h =
      subst (λ (l : Limit). Walks R V (position start) d l a w b) (sym ec)
      (subst (λ (z : ℤ). Walks R V (position start) d (limit z) a w b) ey (subst (λ (g : History). Walks R V (position g) d (limit y) a w b) same h))

  -- if what is taken is known to end the walk
  pub ends-here : (p : Position) (d : ℕ) (x : ℤ) (a b : N) (w : Ending W) → ((s : S) → a ≡ V.view s → (o : WalkEnd S W) × (R.take p d x s ≡ Ends o) × Meets V o w b) → EndsHere R V p d x a w b
  ends-here p d x a b w took walk ms carries s e = let t = took s e in subst (λ (o : WalkEnd S W). Meets V o w b) (sym (ap (walk_step R walk ms) t.1)) t.2

  -- what is walked below a move and kept
  below-carries : CarriesOn R V → (p : Position) (d : ℕ) (x : ℤ) (m : Move) → (let f : S → WalkEnd S W = λ s1. go_on (walk R (after p m) (d - 1) (AtMost (neg_ℤ x)) s1) (λ s2. Left (R.keep p d x s2)) in Carries V f)
  below-carries on p d x m = then-carries V (walk R (after p m) (d - 1) (AtMost (neg_ℤ x))) (λ s2. Left (R.keep p d x s2)) (walk-carries R V on (d - 1) (after p m) (AtMost (neg_ℤ x))) (on.keep p d x)

  -- a node that takes something goes on or ends
  pub claim-ends : CarriesOn R V → (start now : History) (d : ℕ) (c : Limit) (x y : ℤ) (a b : N) (w : Ending W) → IsInner (position start) d → c ≡ AtLeast x → now ≡ start → y ≡ x →
      EndsHere R V (position now) d y a w b → Walks R V (position start) d c a w b
  claim-ends on start now d c x y a b w inner ec same ey h =
      let p = position start in
      let here : EndsHere R V p d x a w b = subst (λ (z : ℤ). EndsHere R V p d z a w b) ey (subst (λ (g : History). EndsHere R V (position g) d y a w b) same h) in
      subst (λ (l : Limit). Walks R V p d l a w b) (sym ec)
      (λ s e. subst (λ (o : WalkEnd S W). Meets V o w b) (sym (walk-inner R p d (AtLeast x) s inner))
      (here (λ m s1. go_on (walk R (after p m) (d - 1) (AtMost (neg_ℤ x)) s1) (λ s2. Left (R.keep p d x s2))) (moves p) (below-carries on p d x) s e))

  -- what is walked below the move that is named
  abbrev pub below : Position → ℕ → ℤ → Move → S → WalkEnd S W
  below p d x m s1 = go_on (walk R (after p m) (d - 1) (AtMost (neg_ℤ x)) s1) (λ s2. Left (R.keep p d x s2))

  pub claim-below : (start now then_ : History) (d : ℕ) (c : Limit) (x y z : ℤ) (i : ℕ) (a b e : N) (w : Ending W) → IsInner (position start) d → c ≡ AtLeast x → now ≡ start → then_ ≡ start → y ≡ x → z ≡ x →
      ((s : S) → a ≡ V.view s → (s1 : S) × (R.take (position now) d y s ≡ Below i s1) × (b ≡ V.view s1)) → Follows V (goes_below R (position then_) d z i) b w e → Walks R V (position start) d c a w e
  claim-below start now then_ d c x y z i a b e w inner ec same later ey ez took h =
      let p = position start in
      let here : (s : S) → a ≡ V.view s → (s1 : S) × (R.take p d x s ≡ Below i s1) × (b ≡ V.view s1) =
      subst (λ (v : ℤ). (s : S) → a ≡ V.view s → (s1 : S) × (R.take p d v s ≡ Below i s1) × (b ≡ V.view s1)) ey
      (subst (λ (g : History). (s : S) → a ≡ V.view s → (s1 : S) × (R.take (position g) d y s ≡ Below i s1) × (b ≡ V.view s1)) same took) in
      let goes : Follows V (goes_below R p d x i) b w e =
      subst (λ (v : ℤ). Follows V (goes_below R p d v i) b w e) ez (subst (λ (g : History). Follows V (goes_below R (position g) d z i) b w e) later h) in
      subst (λ (l : Limit). Walks R V p d l a w e) (sym ec)
      (λ s seen. let t = here s seen in
      subst (λ (o : WalkEnd S W). Meets V o w e)
      (sym (walk-inner R p d (AtLeast x) s inner ∙ ap (λ (step : Step S W). walk_step R (below p d x) (moves p) step) t.1)) (goes t.0 t.2))

  pub below-none : ((s : S) → V.place (V.view s) ≡ held (R.taken s)) → (p : Position) (d : ℕ) (x : ℤ) (i : ℕ) (a : N) → None ≡ slice_get (moves p) i → Follows V (goes_below R p d x i) a (Refused R.reasons.bad_index) a
  below-none counts p d x i a none s seen = (R.taken s, ap (λ o. walk_at R.reasons.bad_index (R.taken s) (below p d x) o s) (sym none), ap V.place seen ∙ counts s)

  below-at : (p : Position) (d : ℕ) (x : ℤ) (i : ℕ) (m : Move) (a b : N) (w : Ending W) → Some m ≡ slice_get (moves p) i → Follows V (below p d x m) a w b → Follows V (goes_below R p d x i) a w b
  below-at p d x i m a b w here h s seen = subst (λ (o : WalkEnd S W). Meets V o w b) (ap (λ o. walk_at R.reasons.bad_index (R.taken s) (below p d x) o s) here) (h s seen)

  turned : (start now : History) (d : ℕ) (x y : ℤ) (m : Move) (a b : N) (w : Ending W) → now ≡ start → y ≡ neg_ℤ x → Walks R V (after (position now) m) (d - 1) (AtMost y) a w b →
      Walks R V (after (position start) m) (d - 1) (AtMost (neg_ℤ x)) a w b
  turned start now d x y m a b w same ey h =
      subst (λ (z : ℤ). Walks R V (after (position start) m) (d - 1) (AtMost z) a w b) ey (subst (λ (g : History). Walks R V (after (position g) m) (d - 1) (AtMost y) a w b) same h)

  pub below-stops : CarriesOn R V → (start now : History) (d : ℕ) (x y : ℤ) (i : ℕ) (m : Move) (a b : N) (w : Ending W) → now ≡ start → y ≡ neg_ℤ x → Some m ≡ slice_get (moves (position start)) i → (w ≡ Shown → ⊥) →
      Walks R V (after (position now) m) (d - 1) (AtMost y) a w b → Follows V (goes_below R (position start) d x i) a w b
  below-stops on start now d x y i m a b w same ey here not h =
      let p = position start in
      below-at p d x i m a b w here
      (follows-stop V (walk R (after p m) (d - 1) (AtMost (neg_ℤ x))) (λ s2. Left (R.keep p d x s2)) a b w not (on.keep p d x) (turned start now d x y m a b w same ey h))

  pub below-done : (start now later : History) (d : ℕ) (x y z : ℤ) (i : ℕ) (m : Move) (a b c : N) (w : Ending W) → now ≡ start → y ≡ neg_ℤ x → Some m ≡ slice_get (moves (position start)) i → w ≡ Shown →
      Walks R V (after (position now) m) (d - 1) (AtMost y) a w b → later ≡ start → z ≡ x → ((s : S) → b ≡ V.view s → c ≡ V.view (R.keep (position later) d z s)) →
      Follows V (goes_below R (position start) d x i) a Shown c
  below-done start now later d x y z i m a b c w same ey here done h after_ ez kept =
      let p = position start in
      let walked : Walks R V (after p m) (d - 1) (AtMost (neg_ℤ x)) a Shown b = subst (λ (u : Ending W). Walks R V (after p m) (d - 1) (AtMost (neg_ℤ x)) a u b) done (turned start now d x y m a b w same ey h) in
      let keeps : (s : S) → b ≡ V.view s → c ≡ V.view (R.keep p d x s) =
      subst (λ (v : ℤ). (s : S) → b ≡ V.view s → c ≡ V.view (R.keep p d v s)) ez (subst (λ (g : History). (s : S) → b ≡ V.view s → c ≡ V.view (R.keep (position g) d z s)) after_ kept) in
      below-at p d x i m a c Shown here
      (λ s seen. let t = walked s seen in (R.keep p d x t.0, ap (λ o. go_on o (λ s2. Left (R.keep p d x s2))) t.1, keeps t.0 t.2))
