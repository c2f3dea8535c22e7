-- What an ant finds is closed under steps, and so it is all that it reaches.
use Rattle.std.proofs.Common.{◌≡◌, false, ◌≢◌, ℕ, suc, ◌+◌, ◌≤◌, ◌<◌, List, [], ◌∷◌, ◌++◌, length, ◌⊎◌, inl, inr, refl, sym, ◌∙◌, ap, subst, arith, length-append}
use Rattle.std.specs.Prelude.{Some, slice_get, nat_lt}
use Rattle.std.proofs.lemmas.Bool.{cases_eq}
use Rattle.std.specs.declared.cmp.Ordering.TheVariants.{Less, Equal, Greater}
use Rattle.std.proofs.lemmas.Option.{same_Some}
use Rattle.hive_model.specs.declared.places.Place.{Place}
use Rattle.hive_model.specs.declared.places.Dir.{Dir}
use Rattle.hive_model.specs.Lists.{IsOn, IsPath}
use Rattle.hive_model.specs.Places.{place_cmp, step, IsWithin}
use Rattle.hive_model.specs.Boards.{Stacks, IsBoard, height_at, is_occupied}
use Rattle.hive_model.specs.Near.{placed_by, with_place}
use Rattle.hive_model.specs.Steps.{GroundStep}
use Rattle.hive_model.proofs.PlaceLemmas.{exact_places, cases_place}
use Rattle.hive_model.proofs.CountLaws.{touched_few}
use Rattle.hive_model.proofs.Floods.{on_append, append_left, append_right}
use Rattle.hive_model.proofs.NearLaws.{with_place_on, on_with_place}
use Rattle.hive_model.proofs.GetLemmas.{get_within, get_exists, get_in_front, on-at}
use Rattle.bug_moves.specs.Adding.{IsAround, Gains}
use Rattle.bug_moves.proofs.Gaining.{gains_toward}
use Rattle.bug_moves.proofs.AtHive.{ground_at_hive, at_hive_within}
use Rattle.bug_moves.specs.Trails.{sorted}
use Rattle.bug_moves.specs.Walks.{StepAwayToward, AntWay, IsWorklist, Extends, IsExpanded}
use Rattle.bug_moves.specs.Ways.{StepAway}

-- A new place

pub length_with : (p : Place) (xs : List Place) → (¬ IsOn xs p) → length (with_place p xs) ≡ length xs + 1
length_with p [] new = refl
length_with p (x ∷ xs) new =
    elim (place_cmp p x) as (λ o. place_cmp p x ≡ o → length (placed_by o p x xs (with_place p xs)) ≡ length (x ∷ xs) + 1) [
      | Less ↦ λ _. omega arith
      | Equal ↦ λ e. absurd (new (inl (sym (exact_places p x e))))
      | Greater ↦ λ _. let rest = length_with p xs (λ on. new (inr on)) in omega (arith, rest)
    ] refl

pub worklist_with : (p : Place) (found work new_found new_work : List Place) → IsWorklist found work → (¬ IsOn found p) → new_found ≡ with_place p found → new_work ≡ work ++ p ∷ [] → IsWorklist new_found new_work
worklist_with p found work new_found new_work h new f w = record {
  from_found = λ q on. subst (λ xs. IsOn xs q) (sym f) (on_with_place p q found (elim (on_append work (p ∷ []) q (subst (λ xs. IsOn xs q) w on)) [
    | inl old ↦ inr (h.from_found q old)
    | inr last ↦ elim last [ inl same ↦ inl (sym same) | inr none ↦ absurd none ]
  ]));
  has_found = λ q on. subst (λ xs. IsOn xs q) (sym w) (elim (with_place_on p q found (subst (λ xs. IsOn xs q) f on)) [
    | inl same ↦ append_right work (p ∷ []) q (inl (sym same))
    | inr old ↦ append_left work (p ∷ []) q (h.has_found q old)
  ]);
  many =
      let one = length_with p found new in
      let two = length-append work (p ∷ []) in
      let three = ap length f in
      let four = ap length w in
      let five = h.many in
      omega (arith, one, two, three, four, five);
}

pub room_to_push : (p : Place) (found work : List Place) (n : ℕ) → IsWorklist found work → (¬ IsOn found p) → length (with_place p found) ≤ n → length work < n
room_to_push p found work n h new room = let one = length_with p found new in let same = h.many in omega (arith, one, same, room)

pub begins_with : (p : Place) (work new_work : List Place) → new_work ≡ work ++ p ∷ [] → Extends work new_work
begins_with p work new_work w k q at = subst (λ xs. slice_get xs k ≡ Some q) (sym w) (get_in_front work (p ∷ []) k q at)

-- a list gains the place of a step that leads away from s
pub gains_away : (b : Stacks) (s p : Place) (d : Dir) (to : Place) (xs ys : List Place) → IsAround b xs → to ≡ step p d → ys ≡ with_place to xs → StepAway b s p to → Gains b (StepAwayToward b s p d) xs ys
gains_away b s p d to xs ys h leads made is = gains_toward b (StepAway b s) p d to xs ys h (ground_at_hive b p to is.1) leads made is

-- Steps from one place after another

pub path_further : {X : Type 0} (S : X → X → Type 0) (a : X) (ps : List X) (b c : X) → IsPath S a ps b → S b c → IsPath S a (ps ++ c ∷ []) c
path_further S a [] b c same s = (subst (λ x. S x c) (sym same) s, refl)
path_further S a (p ∷ ps) b c path s = (path.0, path_further S p ps b c path.1 s)

pub way_further : (b : Stacks) (s p q : Place) → AntWay b s p → StepAway b s p q → AntWay b s q
way_further b s p q (_, (way, path)) (apart, g) = (apart, (way ++ q ∷ [], path_further (GroundStep b) s way p q path g))

-- what is to be expanded may be stepped from
pub listed_within : (b : Stacks) (s place : Place) (found work : List Place) (n : ℕ) → IsWorklist found work → IsExpanded b s found work n → slice_get work n ≡ Some place → IsWithin 9500 place
listed_within b s place found work n list h at = at_hive_within b h.list.sound place (h.list.near place (list.from_found place (on-at work n place at)))

-- what is to be expanded is empty
ends_empty : (b : Stacks) (s : Place) (way : List Place) (q : Place) → s ≢ q → IsPath (GroundStep b) s way q → height_at b q ≡ 0
ends_empty b s [] q apart same = absurd (apart same)
ends_empty b s (x ∷ way) q apart path = elim (cases_place x q) [
  | inl same ↦ subst (λ (z : Place). height_at b z ≡ 0) same path.0.to_empty
  | inr away ↦ ends_empty b x way q away path.1
]

pub listed_empty : (b : Stacks) (s place : Place) (found work : List Place) (n : ℕ) → IsWorklist found work → IsExpanded b s found work n → slice_get work n ≡ Some place → is_occupied b place ≡ false
listed_empty b s place found work n list h at =
    let (apart, (way, path)) = h.ways place (list.from_found place (on-at work n place at)) in
    ap (nat_lt 0) (ends_empty b s way place apart path)

pub expanded_first : (b : Stacks) (s : Place) (xs found work : List Place) → xs ≡ [] → Gains b (StepAway b s s) xs found → IsExpanded b s found work 0
expanded_first b s xs found work none h = record {
  list = h.list;
  ways = λ q on. elim (h.only q on) [
    | inl old ↦ absurd (subst (λ zs. IsOn zs q) none old)
    | inr (apart, g) ↦ (apart, (q ∷ [], (g, refl)))
  ];
  start = λ q is. h.gained q is;
  others = λ k low p q at is. absurd (omega (arith, low));
}

pub expanded_next : (b : Stacks) (s place : Place) (found work found' work' : List Place) (n : ℕ) → IsWorklist found work → IsExpanded b s found work n → slice_get work n ≡ Some place → Gains b (StepAway b s place) found found' → Extends work work' → IsExpanded b s found' work' (n + 1)
expanded_next b s place found work found' work' n list h at gains begins = record {
  list = gains.list;
  ways = λ q on. elim (gains.only q on) [
    | inl old ↦ h.ways q old
    | inr is ↦ way_further b s place q (h.ways place (list.from_found place (on-at work n place at))) is
  ];
  start = λ q is. gains.kept q (h.start q is);
  others = λ k low p q got is. elim (cases_eq k n) [
    | inl same ↦
        let one : Some p ≡ Some place = sym got ∙ begins k place (ap (slice_get work) same ∙ at) in
        gains.gained q (subst (λ x. StepAway b s x q) (same_Some p place one) is)
    | inr other ↦
        let less : k < n = omega (arith, low, other) in
        let bound = get_within work n place at in
        let inside : k < length work = omega (arith, less, bound) in
        let (x, was) = get_exists work k inside in
        let one : Some p ≡ Some x = sym got ∙ begins k x was in
        gains.kept q (h.others k less x q was (subst (λ y. StepAway b s y q) (same_Some p x one) is))
  ];
}

pub place_of : (xs : List Place) (x : Place) → IsOn xs x → (k : ℕ) × (k < length xs) × (slice_get xs k ≡ Some x)
place_of [] x on = absurd on
place_of (y ∷ ys) x on = elim on [
  | inl same ↦ let low : 0 < length (y ∷ ys) = omega arith in (0, low, ap Some same)
  | inr later ↦ let (k, low, at) = place_of ys x later in let more : suc k < length (y ∷ ys) = omega (arith, low) in (suc k, more, at)
]

module _ (b : Stacks) (s : Place) (found work : List Place) (n : ℕ) (list : IsWorklist found work) (h : IsExpanded b s found work n) (all : length work ≤ n) where
  closed : (p q : Place) → (p ≡ s) ⊎ IsOn found p → StepAway b s p q → IsOn found q
  closed p q from is = elim from [
    | inl same ↦ h.start q (subst (λ x. StepAway b s x q) same is)
    | inr on ↦
        let (k, low, at) = place_of work p (list.has_found p on) in
        let less : k < n = omega (arith, low, all) in
        h.others k less p q at is
  ]

  follow : (p : Place) (way : List Place) (q : Place) → (p ≡ s) ⊎ IsOn found p → s ≢ q → IsPath (GroundStep b) p way q → IsOn found q
  follow p [] q from apart same = elim from [ inl first ↦ absurd (apart (sym first ∙ same)) | inr on ↦ subst (IsOn found) same on ]
  follow p (x ∷ way) q from apart path = elim (cases_place s x) [
    | inl back ↦ follow x way q (inl (sym back)) apart path.1
    | inr away ↦ follow x way q (inr (closed p x from (away, path.0))) apart path.1
  ]

  pub gains_ants : (xs : List Place) → xs ≡ [] → Gains b (AntWay b s) xs found
  gains_ants xs none = record {
    list = h.list;
    kept = λ q on. absurd (subst (λ zs. IsOn zs q) none on);
    gained = λ q (apart, (way, path)). follow s way q (inl refl) apart path;
    only = λ q on. inr (h.ways q on);
  }

-- no places are places at the hive
pub none_around : (b : Stacks) (xs : List Place) → IsBoard b → xs ≡ [] → IsAround b xs
none_around b xs is none = subst (IsAround b) (sym none) (record { sound = is; in_order = tt; near = λ q on. absurd on })

-- there are at most as many places at the hive as a list has room for
pub found_few : (b : Stacks) (found : List Place) → IsAround b found → length found ≤ 196
found_few b found h = touched_few b h.sound found h.in_order h.near

pub no_worklist : (work : List Place) → work ≡ [] → IsWorklist (sorted work) work
no_worklist work none = subst (λ ps. IsWorklist (sorted ps) ps) (sym none) (record { from_found = λ q on. absurd on; has_found = λ q on. absurd on; many = refl })
