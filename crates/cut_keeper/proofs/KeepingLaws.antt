-- Marks that are made right, one place after another.
use Rattle.std.proofs.Common.{◌≡◌, ◌≢◌, ◌↔◌, ℕ, ◌+◌, Bool, true, false, List, [], ◌∷◌, ◌⊎◌, inl, inr, sym, ◌∙◌, ap, subst, arith, ◌-◌, ◌<◌}
use Rattle.std.specs.Prelude.{Some, None, slice_get, nat_eq, IsTrue}
use Rattle.std.proofs.Math.Bool.{beq}
use Rattle.std.proofs.lemmas.Bool.{cases_lt, cases_eq, lt-ltb, ltb-true, eqb-true, eq-eqb}
use Rattle.hive_model.specs.declared.places.Place.{Place}
use Rattle.hive_model.specs.declared.places.Spot.{Spot}
use Rattle.hive_model.specs.declared.places.Dir.{Dir}
use Rattle.hive_model.proofs.BoardLemmas.{spot_of_stands, stands_spot_of}
use Rattle.hive_model.specs.Lists.{IsOn}
use Rattle.hive_model.specs.Places.{step}
use Rattle.hive_model.specs.Boards.{Stacks, stack_at, height_at, is_occupied, top_at, spot_of, IsBoard}
use Rattle.hive_model.specs.Hive.{IsSeparating, IsCut}
use Rattle.hive_model.proofs.GetLemmas.{get_exists, get_within}
use Rattle.hive_model.proofs.PlaceLemmas.{cases_place}
use Rattle.one_hive.specs.Visits.{IsSet}
use Rattle.one_hive.specs.Separating.{MarksSeparating}
use Rattle.one_hive.proofs.Marking.{one_place}
use Rattle.hive_model.specs.Neighbours.{ring}
use Rattle.cut_keeper.specs.Rings.{is_suspect}
use Rattle.cut_keeper.specs.Keeping.{Right, HalfRight, Pending, RightBut}

-- One mark is given

module _ (b : Stacks) (is : IsBoard b) (ms after : List Bool) (n : Place) (top : ℕ) (here : top_at b n ≡ Some top) (others : (x : ℕ) → x ≢ top → IsSet after x ↔ IsSet ms x) where
  other_top : (q : Place) → q ≢ n → (x : ℕ) → top_at b q ≡ Some x → x ≢ top
  other_top q other x at same = other (one_place b is x q n at (here ∙ ap (λ (y : ℕ). Some y) (sym same)))

  right_given : (q : Place) → q ≢ n → Right b ms q → Right b after q
  right_given q other right x at =
      let same = others x (other_top q other x at) in
      let was = right x at in
      (λ set. was.0 (same.0 set), λ sep. same.1 (was.1 sep))

  half_given : (q : Place) → q ≢ n → (doubted : Bool) → HalfRight b ms q doubted → HalfRight b after q doubted
  half_given q other true half = λ x at sep. (others x (other_top q other x at)).1 (half x at sep)
  half_given q other false half = λ x at set. half x at ((others x (other_top q other x at)).0 set)

  pub but_given : RightBut b n ms → Right b after n → MarksSeparating b after
  but_given but right q = elim (cases_place q n) [
    | inl same ↦ subst (Right b after) (sym same) right
    | inr other ↦ right_given q other (but q other)
  ]

  pub pending_then : (p : Place) (doubted : Bool) (d : Dir) (ds : List Dir) → step p d ≡ n → Pending b p doubted (d ∷ ds) ms → Right b after n → Pending b p doubted ds after
  pending_then p doubted d ds at h right q = elim (cases_place q n) as (λ _. Right b after q ⊎ ((e : Dir) × IsOn ds e × (step p e ≡ q) × (is_suspect (ring (is_occupied b) p) e ≡ true) × HalfRight b after q doubted)) [
    | inl same ↦ inl (subst (Right b after) (sym same) right)
    | inr other ↦ elim (h q) as (λ _. Right b after q ⊎ ((e : Dir) × IsOn ds e × (step p e ≡ q) × (is_suspect (ring (is_occupied b) p) e ≡ true) × HalfRight b after q doubted)) [
      | inl was ↦ inl (right_given q other was)
      | inr (e, on_e, leads, s, half) ↦ elim on_e [
        | inl same ↦ absurd (other (sym leads ∙ ap (step p) (sym same) ∙ at))
        | inr rest ↦ inr (e, rest, leads, s, half_given q other doubted half)
      ]
    ]
  ]

-- no suspect, or one that is right
pub pending_else : (b : Stacks) (p : Place) (doubted : Bool) (d : Dir) (ds : List Dir) (ms : List Bool) → Pending b p doubted (d ∷ ds) ms → is_suspect (ring (is_occupied b) p) d ≡ false → Pending b p doubted ds ms
pending_else b p doubted d ds ms h s q = elim (h q) as (λ _. Right b ms q ⊎ ((e : Dir) × IsOn ds e × (step p e ≡ q) × (is_suspect (ring (is_occupied b) p) e ≡ true) × HalfRight b ms q doubted)) [
  | inl right ↦ inl right
  | inr (e, on_e, leads, t, half) ↦ elim on_e [
    | inl same ↦ let wrong : false ≡ true = sym s ∙ ap (is_suspect (ring (is_occupied b) p)) same ∙ t in absurd (cc)
    | inr rest ↦ inr (e, rest, leads, t, half)
  ]
]

pub pending_at : (b : Stacks) (p : Place) (doubted : Bool) (d : Dir) (ds : List Dir) (ms : List Bool) → Pending b p doubted (d ∷ ds) ms → Right b ms (step p d) ⊎ HalfRight b ms (step p d) doubted
pending_at b p doubted d ds ms h = elim (h (step p d)) [ inl right ↦ inl right | inr (e, on_e, leads, s, half) ↦ inr half ]

pub pending_none : (b : Stacks) (p : Place) (doubted : Bool) (ms : List Bool) → Pending b p doubted [] ms → MarksSeparating b ms
pending_none b p doubted ms h q = elim (h q) [ inl right ↦ right | inr (e, on_e, leads, s, half) ↦ absurd on_e ]

-- the mark of one place is given
pub given_right : (b : Stacks) (ms : List Bool) (p : Place) (top : ℕ) (r : Bool) → top_at b p ≡ Some top → (IsSet ms top ↔ r ≡ true) → (r ≡ true ↔ IsSeparating b p) → Right b ms p
given_right b ms p top r here set cut x at =
    let both : Some top ≡ Some x = sym here ∙ at in
    let same : top ≡ x = cc in
    (λ h. cut.0 (set.0 (subst (IsSet ms) (sym same) h)), λ sep. subst (IsSet ms) same (set.1 (cut.1 sep)))

-- A mark that is handed on from the old top piece of a place to the new one
pub handed_on : (b c : Stacks) (p : Place) (u w : ℕ) → IsBoard c → top_at b p ≡ Some u → top_at c p ≡ Some w → ((q : Place) → q ≢ p → top_at c q ≡ top_at b q) → ((q : Place) → IsSeparating c q ↔ IsSeparating b q)
    → (ms after : List Bool) → (IsSet after w ↔ IsSet ms u) → ((y : ℕ) → y ≢ w → IsSet after y ↔ IsSet ms y) → MarksSeparating b ms → MarksSeparating c after
handed_on b c p u w is_c old new tops same ms after to others stood q y top = elim (cases_place q p) [
  | inl at ↦
      let both : Some y ≡ Some w = sym top ∙ ap (top_at c) at ∙ new in
      let is : y ≡ w = cc in
      let was = stood p u old in (
        λ set. (same q).1 (subst (IsSeparating b) (sym at) (was.0 (to.0 (subst (IsSet after) is set)))),
        λ sep. subst (IsSet after) (sym is) (to.1 (was.1 (subst (IsSeparating b) at ((same q).0 sep)))),
      )
  | inr other ↦
      let was = stood q y (sym (tops q other) ∙ top) in
      let apart : y ≢ w = (λ e. other (one_place c is_c y q p top (new ∙ ap (λ (z : ℕ). Some z) (sym e)))) in
      (λ set. (same q).1 (was.0 ((others y apart).0 set)), λ sep. (others y apart).1 (was.1 ((same q).0 sep)))
]

-- Top pieces, and cut places by their marks

pub has_top : (b : Stacks) (p : Place) → 0 < height_at b p → (y : ℕ) × (top_at b p ≡ Some y)
has_top b p some = let low : height_at b p - 1 < height_at b p = omega (arith, some) in get_exists (stack_at b p) (height_at b p - 1) low

pub no_top : (b : Stacks) (p : Place) → None ≡ top_at b p → height_at b p ≡ 0
no_top b p none = elim (cases_lt 0 (height_at b p)) [
  | inl some ↦ let r = has_top b p some in let wrong : None ≡ Some r.0 = none ∙ r.1 in absurd (cc)
  | inr low ↦ omega (arith, low)
]

pub top_there : (b : Stacks) (p : Place) → IsTrue (is_occupied b p) → None ≡ top_at b p → ⊥
top_there b p on none = let some = ltb-true 0 _ on in let off = no_top b p none in omega (arith, some, off)

pub unmarked_uncut : (b : Stacks) (ms : List Bool) (p : Place) (top : ℕ) → MarksSeparating b ms → top_at b p ≡ Some top → slice_get ms top ≡ Some false → ¬ IsCut b p
unmarked_uncut b ms p top stood here off cut =
    let both : Some false ≡ Some true = sym off ∙ (stood p top here).1 cut.separates in
    let wrong : false ≡ true = cc in
    cc

-- and a marked one is a cut place if it has one piece
pub marked_cut : (b : Stacks) (ms : List Bool) (p : Place) (top n : ℕ) → MarksSeparating b ms → n ≡ height_at b p → top_at b p ≡ Some top → slice_get ms top ≡ Some true → IsTrue (nat_eq n 1) ↔ IsCut b p
marked_cut b ms p top n stood height here on = (
  λ e. record { alone = sym height ∙ eqb-true n 1 e; separates = (stood p top here).0 on },
  λ h. eq-eqb n 1 (height ∙ h.alone),
)

-- Marks of the pieces, one after another

abbrev top_spot : Stacks → Place → Spot
top_spot b p = record { place = p; level = height_at b p - 1 }

-- a piece that is on top of a place is on that place
pub top_stands : (b : Stacks) → IsBoard b → (x : ℕ) (s : Spot) → spot_of b x ≡ Some s → (p : Place) → top_at b p ≡ Some x → s.place ≡ p
top_stands b is x s e p top =
    let both : Some s ≡ Some (top_spot b p) = sym e ∙ stands_spot_of b is x p (height_at b p - 1) top in
    ap (λ (t : Spot). t.place) (let same : s ≡ top_spot b p = cc in same)

pub top_on_board : (b : Stacks) → IsBoard b → (x : ℕ) → spot_of b x ≡ None → (p : Place) → top_at b p ≡ Some x → ⊥
top_on_board b is x off p top =
    let wrong : None ≡ Some (top_spot b p) = sym off ∙ stands_spot_of b is x p (height_at b p - 1) top in
    absurd (cc)

-- and a piece is on an occupied place
pub spot_occupied : (b : Stacks) (x : ℕ) (s : Spot) → spot_of b x ≡ Some s → IsTrue (is_occupied b s.place)
spot_occupied b x s e = let low = get_within (stack_at b s.place) s.level x (spot_of_stands b x s e) in lt-ltb 0 _ (omega (arith, low))

-- the pieces before this number have their marks
abbrev pub AreMarked : Stacks → List Bool → ℕ → Type 0
AreMarked b ms n = (y : ℕ) → y < n → (p : Place) → top_at b p ≡ Some y → IsSet ms y ↔ IsSeparating b p

pub next_marked : (b : Stacks) (ms after : List Bool) (n x : ℕ) → x ≡ n → AreMarked b ms n → ((p : Place) → top_at b p ≡ Some x → IsSet after x ↔ IsSeparating b p) → ((y : ℕ) → y ≢ x → IsSet after y ↔ IsSet ms y) → AreMarked b after (n + 1)
next_marked b ms after n x same marked here others y low p top = elim (cases_eq y x) [
  | inl e ↦
      let law = here p (top ∙ ap (λ (z : ℕ). Some z) e) in
      (λ set. law.0 (subst (IsSet after) e set), λ s. subst (IsSet after) (sym e) (law.1 s))
  | inr apart ↦
      let law = others y apart in
      let was = marked y (omega (arith, low, same, apart)) p top in
      (λ set. was.0 (law.0 set), λ s. law.1 (was.1 s))
]

pub all_marked : (b : Stacks) → IsBoard b → (ms : List Bool) → AreMarked b ms 28 → MarksSeparating b ms
all_marked b is ms marked p x top = marked x (is.pieces p (height_at b p - 1) x top) p top

-- a mark that is not what is doubted is right
pub undoubted : (b : Stacks) (ms : List Bool) (p : Place) (top : ℕ) (t doubted : Bool) → top_at b p ≡ Some top → slice_get ms top ≡ Some t → beq t doubted ≡ false → Right b ms p ⊎ HalfRight b ms p doubted → Right b ms p
undoubted b ms p top t doubted here is apart (inl right) = right
undoubted b ms p top true true here is apart (inr half) = let wrong : true ≡ false = apart in absurd (cc)
undoubted b ms p top false false here is apart (inr half) = let wrong : true ≡ false = apart in absurd (cc)
undoubted b ms p top false true here is apart (inr half) = λ x at. (
  λ set.
      let both : Some top ≡ Some x = sym here ∙ at in
      let same : top ≡ x = cc in
      let wrong : Some false ≡ Some true = sym is ∙ ap (slice_get ms) same ∙ set in
      let no : false ≡ true = cc in
      absurd (cc),
  half x at,
)
undoubted b ms p top true false here is apart (inr half) = λ x at. (
  half x at,
  λ sep.
      let both : Some top ≡ Some x = sym here ∙ at in
      let same : top ≡ x = cc in
      sym (ap (slice_get ms) same) ∙ is,
)
