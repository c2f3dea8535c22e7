-- What the directions seen so far show of the whole ring around a place.
use Rattle.std.proofs.Common.{◌≡◌, ◌≢◌, ℕ, suc, zero, ◌+◌, ◌-◌, ◌≤◌, ◌<◌, Bool, true, false, cond, not, ◌&&◌, ◌||◌, List, [], ◌∷◌, length, map, drop, get_or, refl, sym, ◌∙◌, ap, arith}
use Rattle.std.specs.Prelude.{Option, Some, None, nat_lt}
use Rattle.std.specs.List.{list_any, filter}
use Rattle.std.proofs.lemmas.Bool.{false_from_ne_true, ltb-true, lt-ltb}
use Rattle.hive_model.specs.declared.pieces.Colour.{Colour}
use Rattle.hive_model.specs.declared.places.Place.{Place}
use Rattle.hive_model.specs.declared.places.Dir.{Dir}
use Rattle.hive_model.specs.declared.places.Dir.TheVariants.{E}
use Rattle.hive_model.specs.Places.{step, dirs, neighbours}
use Rattle.hive_model.specs.Boards.{Stacks, stack_at, is_occupied, top_of, top_at}
use Rattle.hive_model.proofs.GetLemmas.{get_within, get_exists}
use Rattle.search_laws.proofs.LoopLaws.{drop-all}
use Rattle.win_bounds.specs.FarFromWin.{has_hole, is_own_thrower, throws_in, is_beside_thrower, is_far_place}

-- This number of neighbours in the directions before n is occupied, at most four, and none by a
-- thrower of the side.
pub record IsSeen (b : Stacks) (c : Colour) (q : Place) (n occupied : ℕ) : Type 0 where
  pub count : occupied + length (filter (is_occupied b) (map (step q) (drop n dirs))) ≡ length (filter (is_occupied b) (neighbours q))
  pub quiet : list_any (λ d. throws_in b c (step q d)) (drop n dirs) ≡ is_beside_thrower b c q
  pub few : occupied ≤ 4

drop_head : {X : Type 0} (xs : List X) (n : ℕ) (x : X) → n < length xs → drop n xs ≡ get_or xs n x ∷ drop (n + 1) xs
drop_head [] n x low = absurd (omega (arith, low))
drop_head (y ∷ xs) zero x low = refl
drop_head (y ∷ xs) (suc n) x low =
    let one : suc (n + 1) ≡ suc n + 1 = omega arith in
    drop_head xs n x (omega (arith, low)) ∙ ap (λ k. get_or xs n x ∷ drop k (y ∷ xs)) one

-- a place is occupied if and only if it has a top piece
none_free : (xs : List ℕ) → top_of xs ≡ None → nat_lt 0 (length xs) ≡ false
none_free xs e = false_from_ne_true _ (λ some.
    let high : 0 < length xs = ltb-true 0 (length xs) some in
    let last = get_exists xs (length xs - 1) (omega (arith, high)) in
    let wrong : None ≡ Some last.0 = sym e ∙ last.1 in cc)

some_taken : (xs : List ℕ) (x : ℕ) → top_of xs ≡ Some x → nat_lt 0 (length xs) ≡ true
some_taken xs x e = let within = get_within xs (length xs - 1) x e in let high : 0 < length xs = omega (arith, within) in lt-ltb 0 (length xs) high

counted : (f : Place → Bool) (r : Place) (rs : List Place) (t : Bool) → f r ≡ t → length (filter f (r ∷ rs)) ≡ cond t 1 0 + length (filter f rs)
counted f r rs true e = ap (λ s. length (cond s (r ∷ filter f rs) (filter f rs))) e ∙ omega arith
counted f r rs false e = ap (λ s. length (cond s (r ∷ filter f rs) (filter f rs))) e ∙ omega arith

many_far : (n : ℕ) (t : Bool) → 5 ≤ n → false ≡ (nat_lt n 5 && t)
many_far n t high = let less : nat_lt n 5 ≡ false = false_from_ne_true _ (λ e. let low = ltb-true n 5 e in omega (arith, high, low)) in sym (ap (λ s. s && t) less)

beside_far : (t s : Bool) → s ≡ true → false ≡ (t && not s)
beside_far true s e = ap not (sym e)
beside_far false s e = refl

module _ (b : Stacks) (c : Colour) (q : Place) (n occupied : ℕ) (more : n < 6) (seen : IsSeen b c q n occupied) (r : Place) (leads : r ≡ step q (get_or dirs n E)) (o : Option ℕ) (top : o ≡ top_at b r) where
  abbrev rest : List Dir
  rest = drop (n + 1) dirs

  abbrev left : ℕ
  left = length (filter (is_occupied b) (map (step q) rest))

  head : drop n dirs ≡ get_or dirs n E ∷ rest
  head = let low : n < length dirs = omega (arith, more) in drop_head dirs n E low

  count_on : (t : Bool) → is_occupied b r ≡ t → occupied + (cond t 1 0 + left) ≡ length (filter (is_occupied b) (neighbours q))
  count_on t e =
      let here : is_occupied b (step q (get_or dirs n E)) ≡ t = ap (is_occupied b) (sym leads) ∙ e in
      let one = counted (is_occupied b) (step q (get_or dirs n E)) (map (step q) rest) t here in
      ap (λ k. occupied + k) (sym one) ∙ ap (λ ds. occupied + length (filter (is_occupied b) (map (step q) ds))) (sym head) ∙ seen.count

  quiet_on : (t : Bool) → throws_in b c r ≡ t → (t || list_any (λ d. throws_in b c (step q d)) rest) ≡ is_beside_thrower b c q
  quiet_on t e =
      ap (λ z. z || list_any (λ d. throws_in b c (step q d)) rest) (sym e ∙ ap (throws_in b c) leads)
      ∙ ap (list_any (λ d. throws_in b c (step q d))) (sym head) ∙ seen.quiet

  -- there is no piece in this direction
  pub seen_free : o ≡ None → IsSeen b c q (n + 1) occupied
  seen_free none = record {
    count = omega (arith, count_on false (none_free (stack_at b r) (sym top ∙ none)));
    quiet = quiet_on false (ap (λ z. is_own_thrower c z && has_hole b r) (sym top ∙ none));
    few = seen.few;
  }

  -- there is one
  module _ (x : ℕ) (some : o ≡ Some x) where
    taken : occupied + (1 + left) ≡ length (filter (is_occupied b) (neighbours q))
    taken = count_on true (some_taken (stack_at b r) x (sym top ∙ some))

    pub seen_taken : occupied ≢ 4 → throws_in b c r ≡ false → IsSeen b c q (n + 1) (occupied + 1)
    seen_taken fewer other = record {
      count = omega (arith, taken);
      quiet = quiet_on false other;
      few = omega (arith, seen.few, fewer);
    }

    pub fifth_near : occupied ≡ 4 → false ≡ is_far_place b c q
    fifth_near four =
        let many : 5 ≤ length (filter (is_occupied b) (neighbours q)) = omega (arith, taken, four) in
        many_far (length (filter (is_occupied b) (neighbours q))) (not (is_beside_thrower b c q)) many

    pub thrower_near : throws_in b c r ≡ true → false ≡ is_far_place b c q
    thrower_near own = beside_far (nat_lt (length (filter (is_occupied b) (neighbours q))) 5) (is_beside_thrower b c q) (sym (quiet_on true own))

-- all six directions are seen
pub seen_all : (b : Stacks) (c : Colour) (q : Place) (n occupied : ℕ) → 6 ≤ n → IsSeen b c q n occupied → true ≡ is_far_place b c q
seen_all b c q n occupied all seen =
    let past : length dirs ≤ n = omega (arith, all) in
    let none : drop n dirs ≡ [] = drop-all dirs n past in
    let count : occupied + 0 ≡ length (filter (is_occupied b) (neighbours q)) = ap (λ ds. occupied + length (filter (is_occupied b) (map (step q) ds))) (sym none) ∙ seen.count in
    let low : length (filter (is_occupied b) (neighbours q)) < 5 = omega (arith, count, seen.few) in
    let quiet : false ≡ is_beside_thrower b c q = ap (list_any (λ d. throws_in b c (step q d))) (sym none) ∙ seen.quiet in
    sym (ap (λ t. t && true) (lt-ltb (length (filter (is_occupied b) (neighbours q))) 5 low)) ∙ ap (λ t. nat_lt (length (filter (is_occupied b) (neighbours q))) 5 && not t) quiet
