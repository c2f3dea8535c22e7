-- How one ply of a played game is counted.
use Rattle.std.proofs.Common.{◌≡◌, ◌≢◌, ℕ, zero, suc, ◌+◌, ◌-◌, ◌≤◌, ◌<◌, true, false, List, [], ◌∷◌, ◌++◌, length, take, drop, refl, sym, ◌∙◌, ap, subst, arith, inl, inr, Some, None, get_or, slice_index_or, length-append}
use Rattle.std.specs.Prelude.{Bool, Option, IfSome, slice_get, slice_set, slice_index, ◌||◌}
use Rattle.std.specs.List.{list_any}
use Rattle.std.proofs.lemmas.Bool.{cases_eq}
use Rattle.std.proofs.lemmas.List.{get_or-set_same, get_or-set_other}
use Rattle.hive_model.specs.declared.places.Place.{Place}
use Rattle.hive_model.specs.declared.places.Move.{Move}
use Rattle.hive_model.specs.declared.places.Move.TheVariants.{Pass, To}
use Rattle.hive_model.specs.Lists.{IsOn, count_from}
use Rattle.hive_model.specs.Places.{IsWithin}
use Rattle.hive_model.specs.Boards.{IsBoard, without, put, height_at}
use Rattle.hive_model.specs.Positions.{Position}
use Rattle.hive_model.specs.Games.{after}
use Rattle.hive_model.specs.Keys.{KeyParts, key}
use Rattle.std.proofs.lemmas.Option.{get_or_from_slice_get}
use Rattle.hive_model.specs.Histories.{History, position, without_last}
use Rattle.hive_model.specs.Positions.{opening}
use Rattle.hive_model.specs.Games.{replay}
use Rattle.hive_model.proofs.GetLemmas.{same_options, get-take, get_exists}
use Rattle.hive_model.proofs.RuleLaws.{any_has, has_any}
use Rattle.hive_model.proofs.PieceLaws.{count_on, on_count}
use Rattle.hive_model.proofs.BoardLemmas.{stands_on_top, stands_occupied}
use Rattle.symmetry.specs.Shifts.{IsShift, shift_between}
use Rattle.symmetry.specs.Takes.{takes_by, takes_move}
use Rattle.symmetry.proofs.ShiftTests.{tested}
use Rattle.opening_book.specs.Plies.{IsPlaced, AreShifts, is_taken_to, one_if}

-- The test of all symmetries

pub taken_found : (shifts : List (Option Place)) (n m : Move) (s : ℕ) → s < 12 → takes_by s (slice_index_or shifts s None) n m ≡ true → is_taken_to shifts n m ≡ true
unfolding is_taken_to
taken_found shifts n m s small e =
    let low : 0 ≤ s = omega arith in
    let high : s < 0 + 12 = omega (arith, small) in
    has_any (λ z. takes_by z (slice_index_or shifts z None) n m) (count_from 0 12) s (count_on 12 0 s low high) e

false_from : (b : Bool) → (¬ (b ≡ true)) → b ≡ false
false_from true h = absurd (h refl)
false_from false h = refl

pub taken_none : (shifts : List (Option Place)) (n m : Move) → ((s : ℕ) → s < 12 → takes_by s (slice_index_or shifts s None) n m ≡ false) → is_taken_to shifts n m ≡ false
unfolding is_taken_to
taken_none shifts n m h = false_from _ (λ e.
    let found = any_has (λ z. takes_by z (slice_index_or shifts z None) n m) (count_from 0 12) e in
    let low = on_count 12 0 found.0 found.1 in
    let wrong : false ≡ true = sym (h found.0 (omega (arith, low))) ∙ found.2 in
    cc)

any_same : {X : Type 0} (f g : X → Bool) (xs : List X) → ((x : X) → IsOn xs x → f x ≡ g x) → list_any f xs ≡ list_any g xs
any_same f g [] h = refl
any_same f g (x ∷ xs) h = (λ i. h x (inl refl) i || any_same f g xs (λ y on. h y (inr on)) i)

-- it is the test of the keys
pub taken_is : (shifts : List (Option Place)) (a b : KeyParts) (r p : Position) (n m : Move) → AreShifts shifts a b → a ≡ key r → b ≡ key p
    → IsBoard r.board → IsBoard p.board → is_taken_to shifts n m ≡ takes_move (key r) n (key p) m
unfolding is_taken_to takes_move
taken_is shifts a b r p n m are ea eb js is = any_same _ _ (count_from 0 12) (λ s on.
    let low = on_count 12 0 s on in
    let one = are.shift s (omega (arith, low)) r p js is ea eb in
    let two = tested s (key r) (key p) r p js is refl refl in
    ap (λ o. takes_by s o n m) (same_options (slice_index_or shifts s None) (shift_between (key r) (key p) s) (λ t e. (two t).1 ((one t).0 e)) (λ t e. (one t).1 ((two t).0 e))))

pub one_most : (b : Bool) → one_if b ≤ 1
one_most true = omega arith
one_most false = omega arith

-- The list of the shifts

pub next_shift : (shifts : List (Option Place)) (a b : KeyParts) (i : ℕ) (o : Option Place) → length shifts ≡ 12 → i < 12
    → ((s : ℕ) → s < i → IsShift (slice_index_or shifts s None) a b s) → IsShift o a b i
    → (s : ℕ) → s < i + 1 → IsShift (slice_index_or (slice_set shifts i o) s None) a b s
next_shift shifts a b i o long small before here s low = elim (cases_eq s i) [
  | inl same ↦
      let e : slice_index_or (slice_set shifts i o) s None ≡ o = ap (λ k. slice_index_or (slice_set shifts i o) k None) same ∙ get_or-set_same shifts i o None (omega (arith, long, small)) in
      subst (λ z. IsShift z a b s) (sym e) (subst (λ k. IsShift o a b k) (sym same) here)
  | inr other ↦
      let e : slice_index_or (slice_set shifts i o) s None ≡ slice_index_or shifts s None = get_or-set_other shifts i s o None other in
      subst (λ z. IsShift z a b s) (sym e) (before s (omega (arith, low, other)))
]

pub next_within : (shifts : List (Option Place)) (i : ℕ) (o : Option Place) → length shifts ≡ 12 → i < 12
    → ((s : ℕ) (t : Place) → slice_index_or shifts s None ≡ Some t → IsWithin 40000 t) → ((t : Place) → o ≡ Some t → IsWithin 40000 t)
    → (s : ℕ) (t : Place) → slice_index_or (slice_set shifts i o) s None ≡ Some t → IsWithin 40000 t
next_within shifts i o long small before here s t e = elim (cases_eq s i) [
  | inl same ↦ here t (sym (ap (λ k. slice_index_or (slice_set shifts i o) k None) same ∙ get_or-set_same shifts i o None (omega (arith, long, small))) ∙ e)
  | inr other ↦ before s t (sym (get_or-set_other shifts i s o None other) ∙ e)
]

-- The place to which a move goes, by the board after it

pub placed_by : (r : Position) (n : Move) → IsBoard (after r n).board → IsPlaced n
unfolding after
placed_by r Pass is = tt
placed_by r (To x q) is = is.within q (stands_occupied (put (without r.board x) x q) x q (height_at (without r.board x) q) (stands_on_top (without r.board x) x q))

-- The last of the first moves

pub take_next : (ms : List Move) (k : ℕ) (n : Move) → slice_get ms k ≡ Some n → take (suc k) ms ≡ take k ms ++ n ∷ []
take_next [] k n e = absurd (cc)
take_next (m ∷ ms) zero n e = let same : m ≡ n = cc in ap (λ x. x ∷ []) same
take_next (m ∷ ms) (suc k) n e = ap (λ xs. m ∷ xs) (take_next ms k n e)

pub drop_next : (ms : List Move) (k : ℕ) (n : Move) → slice_get ms k ≡ Some n → drop k ms ≡ n ∷ drop (suc k) ms
drop_next [] k n e = absurd (cc)
drop_next (m ∷ ms) zero n e = let same : m ≡ n = cc in ap (λ x. x ∷ ms) same
drop_next (m ∷ ms) (suc k) n e = drop_next ms k n e

pub take_front : {X : Type 0} (xs ys : List X) → take (length xs) (xs ++ ys) ≡ xs
take_front [] ys = refl
take_front (x ∷ xs) ys = ap (λ zs. x ∷ zs) (take_front xs ys)

pub rewritten : (xs ys : List ℕ) (n : ℕ) → n ≡ length xs → take n (xs ++ ys) ≡ xs
rewritten xs ys n e = ap (λ k. take k (xs ++ ys)) e ∙ take_front xs ys

replay_more : (p : Position) (ms : List Move) (m : Move) → replay p (ms ++ m ∷ []) ≡ after (replay p ms) m
replay_more p [] m = refl
replay_more p (x ∷ ms) m = replay_more (after p x) ms m

-- the game before its last move, after i plies were undone

pub record IsStep (whole now back : History) (i : ℕ) (n : Move) : Type 0 where
  pub game_type : back.game_type ≡ whole.game_type
  pub made : back.made ≡ take (length whole.made - (i + 1)) whole.made
  pub position_is : position now ≡ after (position back) n
  pub rest : drop (length whole.made - (i + 1)) whole.made ≡ n ∷ drop (length whole.made - i) whole.made

pub stepped : (whole now back : History) (i count : ℕ) (n : Move) → count ≡ length whole.made → i < count → now.game_type ≡ whole.game_type
    → now.made ≡ take (length whole.made - i) whole.made → slice_get now.made (count - 1 - i) ≡ Some n → back ≡ without_last now → IsStep whole now back i n
stepped whole now back i count n many low kind made e is =
    let k = length whole.made - (i + 1) in
    let place : count - 1 - i ≡ k = omega (arith, many) in
    let next : suc k ≡ length whole.made - i = omega (arith, many, low) in
    let small : k < length whole.made - i = omega (arith, many, low) in
    let at : slice_get whole.made k ≡ Some n = sym (get-take whole.made (length whole.made - i) k small) ∙ sym (ap (λ ms. slice_get ms k) made) ∙ sym (ap (slice_get now.made) place) ∙ e in
    let ends : now.made ≡ take k whole.made ++ n ∷ [] = made ∙ ap (λ j. take j whole.made) (sym next) ∙ take_next whole.made k n at in
    let long = length-append (take k whole.made) (n ∷ []) in
    let front : length (take k whole.made ++ n ∷ []) - 1 ≡ length (take k whole.made) = omega (arith, long) in
    let left : back.made ≡ take k whole.made =
    ap (λ (c : History). c.made) is ∙ ap (λ ms. take (length ms - 1) ms) ends ∙ ap (λ j. take j (take k whole.made ++ n ∷ [])) front ∙ take_front (take k whole.made) (n ∷ []) in
    let type_is : back.game_type ≡ now.game_type = ap (λ (c : History). c.game_type) is in
    record {
      game_type = type_is ∙ kind;
      made = left;
      position_is = ap (λ ms. replay (opening now.game_type) ms) ends ∙ replay_more (opening now.game_type) (take k whole.made) n
          ∙ ap (λ ms. after (replay (opening now.game_type) ms) n) (sym left) ∙ ap (λ t. after (replay (opening t) back.made) n) (sym type_is);
      rest = drop_next whole.made k n at ∙ ap (λ j. n ∷ drop j whole.made) next;
    }

-- Counts

pub get_of_or : {X : Type 0} (xs : List X) (i : ℕ) (x : X) → i < length xs → x ≡ get_or xs i x → slice_get xs i ≡ Some x
get_of_or xs i x low e = let y = get_exists xs i low in y.1 ∙ ap Some (sym (get_or_from_slice_get xs i y.0 x y.1) ∙ sym e)

pub count_next : (moves : List Move) (old now next : List ℕ) (i : ℕ) (bit : Move → ℕ) (x : Move) → slice_get moves i ≡ Some x
    → ((j : ℕ) (m : Move) → j < i → slice_get moves j ≡ Some m → slice_index now j ≡ slice_index old j + bit m)
    → ((j : ℕ) → i ≤ j → slice_index now j ≡ slice_index old j)
    → slice_index next i ≡ slice_index now i + bit x → ((j : ℕ) → j ≢ i → slice_index next j ≡ slice_index now j)
    → (j : ℕ) (m : Move) → j < i + 1 → slice_get moves j ≡ Some m → slice_index next j ≡ slice_index old j + bit m
count_next moves old now next i bit x at done left here others j m low e = elim (cases_eq j i) [
  | inl same ↦
      let both : Some m ≡ Some x = sym e ∙ ap (slice_get moves) same ∙ at in
      let equal : m ≡ x = cc in
      let start : slice_index now i ≡ slice_index old i = left i (omega arith) in
      ap (slice_index next) same ∙ here ∙ ap (λ n. n + bit x) start ∙ ap (λ y. slice_index old i + bit y) (sym equal) ∙ ap (λ k. slice_index old k + bit m) (sym same)
  | inr other ↦ others j other ∙ done j m (omega (arith, low, other)) e
]

pub set_here : (now : List ℕ) (i v : ℕ) → i < length now → slice_index (slice_set now i v) i ≡ v
set_here now i v low = get_or-set_same now i v 0 low

pub set_others : (now : List ℕ) (i v j : ℕ) → j ≢ i → slice_index (slice_set now i v) j ≡ slice_index now j
set_others now i v j other = get_or-set_other now i j v 0 other

pub within_of : (o : Option Place) → IfSome o (λ t. IsWithin 40000 t) → (t : Place) → o ≡ Some t → IsWithin 40000 t
within_of None h t e = absurd (cc)
within_of (Some u) h t e = let same : u ≡ t = cc in subst (IsWithin 40000) same h
