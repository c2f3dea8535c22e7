-- What a throw is made of.
use Rattle.std.proofs.Common.{◌≡◌, ℕ, suc, zero, ◌+◌, ◌-◌, ◌≤◌, ◌<◌, Bool, true, not, ◌&&◌, List, [], ◌∷◌, length, take, inl, inr, refl, sym, ◌∙◌, ap, subst, arith, get_or}
use Rattle.std.specs.Prelude.{Option, Some, IsTrue, nat_eq, slice_get}
use Rattle.std.specs.declared.cmp.Ordering.TheVariants.{Less, Equal, Greater}
use Rattle.std.proofs.lemmas.Bool.{eqb-true, eq-eqb, and_parts}
use Rattle.hive_model.specs.declared.places.Place.{Place}
use Rattle.hive_model.specs.declared.places.Dir.{Dir}
use Rattle.hive_model.specs.declared.places.Dir.TheVariants.{E}
use Rattle.hive_model.specs.declared.places.Spot.{Spot}
use Rattle.hive_model.specs.Lists.{IsOn, Rises}
use Rattle.hive_model.specs.Places.{place_cmp, step, dirs}
use Rattle.hive_model.specs.Boards.{Stacks, stack_at, height_at, top_at, is_occupied, spot_of, is_on_top, is_top_spot, lift}
use Rattle.hive_model.specs.Hive.{IsCut, are_neighbours}
use Rattle.hive_model.specs.Near.{placed_by, with_place}
use Rattle.hive_model.specs.Positions.{is_piece}
use Rattle.hive_model.specs.Steps.{FreeStep}
use Rattle.hive_model.proofs.PieceLaws.{awake_from}
use Rattle.hive_model.proofs.RuleLaws.{dir_on, neighbours_from}
use Rattle.hive_model.proofs.NearLaws.{on_with_place, with_place_on, rises_with}
use Rattle.hive_model.proofs.GetLemmas.{get_within}
use Rattle.hive_model.proofs.BoardLemmas.{stands_occupied, spot_of_stands}
use Rattle.one_hive.proofs.Walking.{on_take_next}
use Rattle.pillbug_throws.specs.Throwing.{IsLoose, StandsLoose, ComesDown, ThrowsTo}

-- Where a piece stands

pub spot_occupied : (b : Stacks) (x : ℕ) (a : Spot) → spot_of b x ≡ Some a → IsTrue (is_occupied b a.place)
spot_occupied b x a h = stands_occupied b x a.place a.level (spot_of_stands b x a h)

-- a piece that is alone on its place is on top of it
pub alone_on_top : (b : Stacks) (x : ℕ) (a : Spot) → spot_of b x ≡ Some a → height_at b a.place ≡ 1 → IsTrue (is_on_top b x)
alone_on_top b x a h one =
    let w = get_within (stack_at b a.place) a.level x (spot_of_stands b x a h) in
    let same : a.level + 1 ≡ height_at b a.place = omega (arith, w, one) in
    ap (is_top_spot b) h ∙ eq-eqb (a.level + 1) (height_at b a.place) same

-- The tests

abbrev at_hand : Stacks → Option ℕ → Place → ℕ → Place → Bool
at_hand b rest t x a = nat_eq (height_at b a) 1 && (not (is_piece x rest) && are_neighbours t a)

pub loose_from : (b : Stacks) (rest : Option ℕ) (t : Place) (x : ℕ) (a : Place) → at_hand b rest t x a ≡ true → (¬ IsCut b a) → IsLoose b rest t x a
loose_from b rest t x a e cut =
    let one = and_parts (nat_eq (height_at b a) 1) (not (is_piece x rest) && are_neighbours t a) e in
    let two = and_parts (not (is_piece x rest)) (are_neighbours t a) one.1 in
    record { alone = eqb-true (height_at b a) 1 one.0; awake = awake_from x rest two.0; beside = neighbours_from t a two.1; not_cut = cut }

-- a piece that is loose beside a place is on top of one of its neighbours
pub loose_top : (b : Stacks) (rest : Option ℕ) (t : Place) (x : ℕ) → StandsLoose b rest t x → (d : Dir) × (top_at b (step t d) ≡ Some x)
loose_top b rest t x (a, stands, loose) =
    let w = get_within (stack_at b a.place) a.level x (spot_of_stands b x a stands) in
    let one = loose.alone in
    let last : a.level ≡ height_at b a.place - 1 = omega (arith, w, one) in
    let top : top_at b a.place ≡ Some x = ap (slice_get (stack_at b a.place)) (sym last) ∙ spot_of_stands b x a stands in
    (loose.beside.0, ap (top_at b) loose.beside.1 ∙ top)

-- Lists of places

pub longer_by_one : (p : Place) (ps : List Place) → length (with_place p ps) ≤ length ps + 1
longer_by_one p [] = omega arith
longer_by_one p (q ∷ qs) = elim (place_cmp p q) as (λ o. length (placed_by o p q qs (with_place p qs)) ≤ length (q ∷ qs) + 1) [
  | Less ↦ omega arith
  | Equal ↦ omega arith
  | Greater ↦ omega (arith, longer_by_one p qs)
]

-- in order, and of the neighbours in the first n directions those on which the piece may come down
pub record AreDown (P : Place → Type 0) (t : Place) (n : ℕ) (ps : List Place) : Type 0 where
  pub order : Rises place_cmp ps
  pub sound : (q : Place) → IsOn ps q → P q
  pub all : (d : Dir) → IsOn (take n dirs) d → P (step t d) → IsOn ps (step t d)
  pub few : length ps ≤ n

module _ (P : Place → Type 0) (t : Place) where
  pub none_down : (ps : List Place) → ps ≡ [] → AreDown P t 0 ps
  none_down ps e = record {
    order = subst (Rises place_cmp) (sym e) tt;
    sound = λ q on. absurd (subst (λ zs. IsOn zs q) e on);
    all = λ d on. absurd on;
    few = omega (arith, ap length e);
  }

  module _ (n : ℕ) (low : n < length dirs) (ps : List Place) (h : AreDown P t n ps) (dir : Dir) (is : dir ≡ get_or dirs n E) (q : Place) (leads : q ≡ step t dir) where
    -- the direction is the last of those that were gone over, or an earlier one
    last_or : (qs : List Place) → ((r : Place) → IsOn ps r → IsOn qs r) → (P q → IsOn qs q) → (d : Dir) → IsOn (take (n + 1) dirs) d → P (step t d) → IsOn qs (step t d)
    last_or qs kept here d on there = elim (on_take_next dirs n E d low on) [
      | inl before ↦ kept (step t d) (h.all d before there)
      | inr this ↦
          let same : q ≡ step t d = leads ∙ ap (step t) (is ∙ sym this) in
          subst (IsOn qs) same (here (subst P (sym same) there))
    ]

    pub down_not : (¬ P q) → AreDown P t (n + 1) ps
    down_not not_here = record {
      order = h.order;
      sound = h.sound;
      all = last_or ps (λ r on. on) (λ here. absurd (not_here here));
      few = omega (arith, h.few);
    }

    pub down_more : P q → (qs : List Place) → qs ≡ with_place q ps → AreDown P t (n + 1) qs
    down_more here qs e = record {
      order = subst (Rises place_cmp) (sym e) (rises_with q ps h.order);
      sound = λ r on. elim (with_place_on q r ps (subst (λ zs. IsOn zs r) e on)) [ inl same ↦ subst P (sym same) here | inr old ↦ h.sound r old ];
      all = last_or qs (λ r on. subst (λ zs. IsOn zs r) (sym e) (on_with_place q r ps (inr on))) (λ _. subst (λ zs. IsOn zs q) (sym e) (on_with_place q q ps (inl refl)));
      few = omega (arith, h.few, longer_by_one q ps, ap length e);
    }

-- so many of its first elements are the whole list
pub whole : (ds : List Dir) (n : ℕ) → length ds ≤ n → (d : Dir) → IsOn ds d → IsOn (take n ds) d
whole [] n h d on = absurd on
whole (e ∷ ds) zero h d on = absurd (omega (arith, h))
whole (e ∷ ds) (suc n) h d on = let less : length ds ≤ n = omega (arith, h) in elim on [ inl same ↦ inl same | inr later ↦ inr (whole ds n less d later) ]

-- all directions were gone over
pub all_down : (b c : Stacks) (t a : Place) (n : ℕ) → 6 ≤ n → (ps : List Place) → AreDown (ComesDown b c t a) t n ps → (q : Place) → ComesDown b c t a q → IsOn ps q
all_down b c t a n most ps h q there =
    let leads = there.down.leads in
    subst (IsOn ps) leads (h.all there.down.dir (whole dirs n most there.down.dir (dir_on there.down.dir)) (subst (ComesDown b c t a) (sym leads) there))

-- Throws

module _ (b : Stacks) (rest : Option ℕ) (y x : ℕ) (t a : Spot) (over : spot_of b y ≡ Some t) (from : spot_of b x ≡ Some a) where
  same_spots : (q : Place) (h : ThrowsTo b rest y x q) → (h.0 ≡ t) × (h.1 ≡ a)
  same_spots q h =
      let one : Some h.0 ≡ Some t = sym h.2 ∙ over in
      let two : Some h.1 ≡ Some a = sym h.3.stands ∙ from in
      (cc, cc)

  pub throw_loose : (q : Place) → ThrowsTo b rest y x q → IsLoose b rest t.place x a.place
  throw_loose q h =
      let same = same_spots q h in
      subst (λ (s : Spot). IsLoose b rest s.place x a.place) same.0 (subst (λ (s : Spot). IsLoose b rest h.0.place x s.place) same.1
      (record { alone = h.3.alone; awake = h.3.awake; beside = h.3.beside; not_cut = h.3.not_cut }))

  pub throw_up : (q : Place) → ThrowsTo b rest y x q → FreeStep (lift b x) a.place t.place
  throw_up q h = let same = same_spots q h in subst (λ (s : Spot). FreeStep (lift b x) a.place s.place) same.0 (subst (λ (s : Spot). FreeStep (lift b x) s.place h.0.place) same.1 h.3.up)

  pub throw_down : (q : Place) → ThrowsTo b rest y x q → ComesDown b (lift b x) t.place a.place q
  throw_down q h =
      let same = same_spots q h in
      subst (λ (s : Spot). ComesDown b (lift b x) s.place a.place q) same.0 (subst (λ (s : Spot). ComesDown b (lift b x) h.0.place s.place q) same.1
      (record { down = h.3.down; empty = h.3.empty; other = h.3.other }))

  pub throw_made : IsLoose b rest t.place x a.place → FreeStep (lift b x) a.place t.place → (q : Place) → ComesDown b (lift b x) t.place a.place q → ThrowsTo b rest y x q
  throw_made loose up q down = (
    t,
    a,
    over,
    record {
      stands = from;
      alone = loose.alone;
      awake = loose.awake;
      beside = loose.beside;
      not_cut = loose.not_cut;
      up = up;
      down = down.down;
      empty = down.empty;
      other = down.other;
    },
  )
