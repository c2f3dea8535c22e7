-- What a ring tells of its board, and what is left where the cells round a place were written.
use Rattle.std.proofs.Common.{◌≡◌, ◌≢◌, ℕ, zero, suc, ◌*◌, ◌<◌, ◌≤◌, Bool, true, false, List, [], length, ◌⊎◌, inl, inr, refl, sym, ◌∙◌, ap, subst, arith, slice_set}
use Rattle.std.specs.Prelude.{Some, replicate, slice_get, if◌then◌else◌}
use Rattle.std.proofs.lemmas.Bool.{cases_eq}
use Rattle.std.proofs.lemmas.Option.{none-some, same_Some}
use Rattle.hive_model.specs.declared.places.Place.{Place}
use Rattle.hive_model.specs.declared.places.Dir.{Dir}
use Rattle.hive_model.specs.declared.places.Dir.TheVariants.{E, NE, NW, W, SW, SE}
use Rattle.hive_model.specs.Places.{step, origin}
use Rattle.hive_model.specs.Boards.{Stacks, is_occupied}
use Rattle.hive_model.specs.Neighbours.{bit_of, ring, ring_mask, weight}
use Rattle.hive_model.proofs.GetLemmas.{get-set_same, get-set_other}
use Rattle.hive_model.proofs.PlaceLemmas.{cases_place}
use Rattle.hive_model.proofs.RuleLaws.{step_once}
use Rattle.hive_model.proofs.LiftedMasks.{same_mask}
use Rattle.torus_board.specs.Residues.{cell_of}
use Rattle.torus_board.specs.declared.rings.Ring.{Ring}
use Rattle.torus_board.specs.Grid.{HasMask, IsRinged, IsTurned}
use Rattle.torus_board.proofs.Turns.{facing, step_back}

-- one cell was written
module _ (n : ℕ) (rings : List Ring) (p : Place) (i : ℕ) (at_i : i ≡ cell_of n p) (low : i < length rings) (mask : ℕ) where
  abbrev rewritten : List Ring
  rewritten = slice_set rings i (record { place = p; mask = mask })

  wrote : slice_get rewritten i ≡ Some (record { place = p; mask = mask })
  wrote = get-set_same rings i (record { place = p; mask = mask }) low

  pub mask_written : (m : ℕ) → HasMask n rewritten p m → mask ≡ m
  mask_written m h = ap (λ (u : Ring). u.mask) (same_Some _ _ (sym wrote ∙ ap (slice_get rewritten) at_i ∙ h))

  pub mask_there : (q : Place) (m : ℕ) → q ≢ p → HasMask n rewritten q m → HasMask n rings q m
  mask_there q m other h = elim (cases_eq (cell_of n q) i) [
    | inl same ↦ absurd (other (sym (ap (λ (u : Ring). u.place) (same_Some _ _ (sym wrote ∙ ap (slice_get rewritten) (sym same) ∙ h)))))
    | inr away ↦ sym (get-set_other rings i (cell_of n q) (record { place = p; mask = mask }) away) ∙ h
  ]

pub has_mask : (n : ℕ) (rings : List Ring) (p : Place) (i : ℕ) → i ≡ cell_of n p → (t : Ring) → slice_get rings i ≡ Some t → t.place ≡ p → HasMask n rings p t.mask
has_mask n rings p i at_i t at here = ap (slice_get rings) (sym at_i) ∙ at ∙ ap (λ q. Some (record { place = q; mask = t.mask })) here

-- the mask of the occupied neighbours
abbrev mask_of : Stacks → Place → ℕ
mask_of b p = ring_mask (ring (is_occupied b) p)

pub its_mask : (n : ℕ) (b : Stacks) (rings : List Ring) → IsRinged n b rings → (p : Place) (i : ℕ) → i ≡ cell_of n p → (t : Ring) → slice_get rings i ≡ Some t → t.place ≡ p → t.mask ≡ mask_of b p
its_mask n b rings ringed p i at_i t at here =
    ringed.masks p t.mask (has_mask n rings p i at_i t at here)

module _ (n : ℕ) (b c : Stacks) (p : Place) (turned : IsTurned b c p true) where
  -- what one write makes of the cells, in the direction that leads to it from the place
  pub record Written (r s : List Ring) (d : Dir) : Type 0 where
    pub here : (m : ℕ) → ((k : ℕ) → HasMask n r (step p d) k → k ≡ mask_of b (step p d)) → HasMask n s (step p d) m → m ≡ mask_of c (step p d)
    pub there : (q : Place) (m : ℕ) → q ≢ step p d → HasMask n s q m → HasMask n r q m

  pub written : (r s : List Ring) (d : Dir) (z : Place) → z ≡ step p d → ((m : ℕ) → IsTurned b c (step z (facing d)) true → ((k : ℕ) → HasMask n r z k → k ≡ mask_of b z) → HasMask n s z m → m ≡ mask_of c z)
      → ((q : Place) (m : ℕ) → q ≢ z → HasMask n s q m → HasMask n r q m) → Written r s d
  written r s d z leads here there = record {
    here = λ m. subst (λ y. ((k : ℕ) → HasMask n r y k → k ≡ mask_of b y) → HasMask n s y m → m ≡ mask_of c y) leads (here m (subst (λ y. IsTurned b c y true) (sym (ap (λ y. step y (facing d)) leads ∙ step_back p d)) turned));
    there = λ q m other. there q m (λ e. other (e ∙ leads));
  }

  -- its cell tells of the second board then, where it told of the first
  met : (r s : List Ring) (d : Dir) → Written r s d → ((k : ℕ) → HasMask n r (step p d) k → k ≡ mask_of b (step p d)) → (q : Place) (m : ℕ) → HasMask n s q m → (m ≡ mask_of c q) ⊎ ((q ≢ step p d) × HasMask n r q m)
  met r s d w old q m h = elim (cases_place q (step p d)) [
    | inl is ↦ inl (subst (λ y. HasMask n s y m → m ≡ mask_of c y) (sym is) (w.here m old) h)
    | inr other ↦ inr (other, w.there q m other h)
  ]

  apart : (q : Place) → ((d : Dir) → q ≢ step p d) → mask_of b q ≡ mask_of c q
  apart q away = same_mask _ _ (λ e. sym (turned.there (step q e) (λ h. away (facing e) (sym (step_back q e) ∙ ap (λ z. step z (facing e)) h))))

  six : (q : Place) → q ≢ step p E → q ≢ step p NE → q ≢ step p NW → q ≢ step p W → q ≢ step p SW → q ≢ step p SE → (d : Dir) → q ≢ step p d
  six q e ne nw w sw se E = e
  six q e ne nw w sw se NE = ne
  six q e ne nw w sw se NW = nw
  six q e ne nw w sw se W = w
  six q e ne nw w sw se SW = sw
  six q e ne nw w sw se SE = se

  far : (d e : Dir) → d ≢ e → step p d ≢ step p e
  far d e other same = other (step_once p d e same)

  -- the cells of all six were written
  pub round : (r0 r1 r2 r3 r4 r5 r6 : List Ring) → IsRinged n b r0 → Written r0 r1 E → Written r1 r2 NE → Written r2 r3 NW → Written r3 r4 W → Written r4 r5 SW → Written r5 r6 SE → length r6 ≡ n * n → IsRinged n c r6
  round r0 r1 r2 r3 r4 r5 r6 ringed w1 w2 w3 w4 w5 w6 many =
      let k1 = met r0 r1 E w1 (λ k h. ringed.masks _ k h) in
      let k2 = met r1 r2 NE w2 (λ k h. ringed.masks _ k (w1.there _ k (far NE E (λ e. cc)) h)) in
      let k3 = met r2 r3 NW w3 (λ k h. ringed.masks _ k (w1.there _ k (far NW E (λ e. cc)) (w2.there _ k (far NW NE (λ e. cc)) h))) in
      let k4 = met r3 r4 W w4 (λ k h. ringed.masks _ k (w1.there _ k (far W E (λ e. cc)) (w2.there _ k (far W NE (λ e. cc)) (w3.there _ k (far W NW (λ e. cc)) h)))) in
      let k5 = met r4 r5 SW w5 (λ k h. ringed.masks _ k (w1.there _ k (far SW E (λ e. cc)) (w2.there _ k (far SW NE (λ e. cc)) (w3.there _ k (far SW NW (λ e. cc)) (w4.there _ k (far SW W (λ e. cc)) h))))) in
      let k6 = met r5 r6 SE w6 (λ k h. ringed.masks _ k (w1.there _ k (far SE E (λ e. cc)) (w2.there _ k (far SE NE (λ e. cc)) (w3.there _ k (far SE NW (λ e. cc)) (w4.there _ k (far SE W (λ e. cc)) (w5.there _ k (far SE SW (λ e. cc)) h)))))) in
      record {
        many = many;
        masks = λ q m h6. elim (k6 q m h6) [
          | inl right ↦ right
          | inr (o6, h5) ↦ elim (k5 q m h5) [
            | inl right ↦ right
            | inr (o5, h4) ↦ elim (k4 q m h4) [
              | inl right ↦ right
              | inr (o4, h3) ↦ elim (k3 q m h3) [
                | inl right ↦ right
                | inr (o3, h2) ↦ elim (k2 q m h2) [
                  | inl right ↦ right
                  | inr (o2, h1) ↦ elim (k1 q m h1) [
                    | inl right ↦ right
                    | inr (o1, h0) ↦ ringed.masks q m h0 ∙ apart q (six q o1 o2 o3 o4 o5 o6)
                  ]
                ]
              ]
            ]
          ]
        ];
      }

-- nothing came to be occupied or empty
pub alike : (n : ℕ) (b c : Stacks) (p : Place) → IsTurned b c p false → (rings : List Ring) → IsRinged n b rings → IsRinged n c rings
alike n b c p turned rings ringed = record {
  many = ringed.many;
  masks = λ q m h. ringed.masks q m h ∙ same_mask _ _ (λ e. sym (all (step q e)));
}
  where
    all : (q : Place) → is_occupied c q ≡ is_occupied b q
    all q = elim (cases_place q p) [
      | inl is ↦ subst (λ z. is_occupied c z ≡ is_occupied b z) (sym is) turned.here
      | inr other ↦ turned.there q other
    ]

bit_small : (r : Dir → Bool) (d : Dir) → bit_of r d ≤ weight d
bit_small r d = at (r d)
  where
    at : (t : Bool) → (if t then weight d else 0) ≤ weight d
    at true = omega arith
    at false = omega arith

pub mask_small : (r : Dir → Bool) → ring_mask r < 64
mask_small r =
    let e = bit_small r E in
    let ne = bit_small r NE in
    let nw = bit_small r NW in
    let w = bit_small r W in
    let sw = bit_small r SW in
    let se = bit_small r SE in
    omega (arith, e, ne, nw, w, sw, se)

-- The empty board

abbrev no_ring : Ring
no_ring = record { place = origin; mask = 0 }

all_bare : (k i : ℕ) (t : Ring) → slice_get (replicate k no_ring) i ≡ Some t → t.mask ≡ 0
all_bare zero i t h = absurd (none-some _ h)
all_bare (suc k) zero t h = ap (λ (u : Ring). u.mask) (sym (same_Some _ _ h))
all_bare (suc k) (suc i) t h = all_bare k i t h

many_bare : (k : ℕ) → length (replicate k no_ring) ≡ k
many_bare zero = refl
many_bare (suc k) = ap suc (many_bare k)

pub empty_ringed : (n : ℕ) (rings : List Ring) → rings ≡ replicate (n * n) no_ring → IsRinged n [] rings
empty_ringed n rings bare = record {
  many = ap length bare ∙ many_bare (n * n);
  masks = λ p m h. all_bare (n * n) (cell_of n p) (record { place = p; mask = m }) (ap (λ (l : List Ring). slice_get l (cell_of n p)) (sym bare) ∙ h);
}
