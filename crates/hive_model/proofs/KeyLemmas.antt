-- A list of the spots of all pieces, filled piece after piece.
use Rattle.std.proofs.Common.{◌≡◌, ℕ, zero, suc, ◌+◌, ◌<◌, ◌≤◌, min, true, false, List, [], ◌∷◌, ◌++◌, length, take, map, slice_set, slice_index_or, Option, Some, None, refl, sym, ap, subst, arith, ◌∙◌}
use Rattle.std.specs.Prelude.{option_map, nat_lt, IfSome}
use Rattle.std.proofs.lemmas.Bool.{ltb-true, ltb-false}
use Rattle.std.proofs.lemmas.Option.{slice_get-map, get_or_from_slice_get}
use Rattle.std.proofs.lemmas.List.{take_more_set, take_all, map-append}
use Rattle.std.proofs.lemmas.List.Sums.{fold-append}
use Rattle.hive_model.specs.declared.pieces.Colour.{Colour}
use Rattle.hive_model.specs.declared.pieces.GameType.{GameType}
use Rattle.hive_model.specs.declared.places.Spot.{Spot}
use Rattle.hive_model.specs.Lists.{count_from}
use Rattle.hive_model.specs.Pieces.{all_pieces}
use Rattle.hive_model.specs.Places.{IsWithin}
use Rattle.hive_model.specs.Boards.{Stacks, spot_of, IsBoard}
use Rattle.hive_model.specs.declared.key.SmallSpot.{SmallSpot}
use Rattle.hive_model.specs.Keys.{key_of, IsInPlane}
use Rattle.hive_model.specs.SpotNumbers.{mixed, number_in}
use Rattle.hive_model.specs.SmallSpots.{small, large, IsSmallKey}
use Rattle.hive_model.proofs.SameKeys.{all_large_small}
use Rattle.hive_model.proofs.GetLemmas.{get-count_from}
use Rattle.hive_model.proofs.BoardLemmas.{spot_within}

map-count_from : {X : Type 0} (f : ℕ → X) (n first : ℕ) → map f (count_from first (suc n)) ≡ map f (count_from first n) ++ f (first + n) ∷ []
map-count_from f zero first = let e : first ≡ first + 0 = omega arith in ap (λ x. f x ∷ []) e
map-count_from f (suc n) first =
    let e : first + 1 + n ≡ first + suc n = omega arith in
    ap (λ xs. f first ∷ xs) (map-count_from f n (first + 1) ∙ ap (λ x. map f (count_from (first + 1) n) ++ f x ∷ []) e)

-- the spots of the first pieces and of one more
spots_to : Stacks → ℕ → List (Option Spot)
spots_to b i = map (spot_of b) (count_from 0 i)

one_spot_more : (b : Stacks) (i : ℕ) (o : Option Spot) → o ≡ spot_of b i → spots_to b (i + 1) ≡ spots_to b i ++ o ∷ []
unfolding spots_to
one_spot_more b i o here =
    let next : i + 1 ≡ suc i = omega arith in
    let at : 0 + i ≡ i = omega arith in
    ap (λ n. map (spot_of b) (count_from 0 n)) next
    ∙ map-count_from (spot_of b) i 0
    ∙ ap (λ n. map (spot_of b) (count_from 0 i) ++ spot_of b n ∷ []) at
    ∙ ap (λ x. map (spot_of b) (count_from 0 i) ++ x ∷ []) (sym here)

spot_at : (b : Stacks) (i x : ℕ) (o : Option Spot) → o ≡ spot_of b x → x ≡ i → o ≡ spot_of b i
spot_at b i x o here at = here ∙ ap (spot_of b) at

pub spots-more : (b : Stacks) (spots : List SmallSpot) (i x : ℕ) (s : SmallSpot) (o : Option Spot) → i < 28 → length spots ≡ 28
    → take i spots ≡ map small (map (spot_of b) (count_from 0 i)) → s ≡ small o → o ≡ spot_of b x → x ≡ i
    → take (i + 1) (slice_set spots i s) ≡ map small (map (spot_of b) (count_from 0 (i + 1)))
unfolding spots_to
spots-more b spots i x s o low many filled is here at =
    take_more_set spots i s (omega (arith, low, many))
    ∙ ap (λ xs. xs ++ s ∷ []) filled
    ∙ ap (λ y. map small (spots_to b i) ++ y ∷ []) is
    ∙ sym (map-append small (spots_to b i) (o ∷ []))
    ∙ ap (map small) (sym (one_spot_more b i o (spot_at b i x o here at)))

pub number-more : (b : Stacks) (i x n m : ℕ) (o : Option Spot) → n ≡ number_in (map (spot_of b) (count_from 0 i)) → m ≡ mixed n o → o ≡ spot_of b x → x ≡ i
    → m ≡ number_in (map (spot_of b) (count_from 0 (i + 1)))
unfolding spots_to
number-more b i x n m o before is here at =
    is
    ∙ ap (λ k. mixed k o) before
    ∙ sym (fold-append mixed 0 (spots_to b i) (o ∷ []))
    ∙ ap number_in (sym (one_spot_more b i o (spot_at b i x o here at)))

all-filled : (b : Stacks) (spots : List SmallSpot) (i : ℕ) → 28 ≤ i → length spots ≡ 28 → i ≤ 28 → take i spots ≡ map small (map (spot_of b) (count_from 0 i))
    → spots ≡ map small (map (spot_of b) all_pieces)
all-filled b spots i past many end filled =
    let e : i ≡ 28 = omega (arith, past, end) in
    sym (take_all i spots (omega (arith, many, past))) ∙ filled ∙ ap (λ n. map small (map (spot_of b) (count_from 0 n))) e

large-all : (b : Stacks) (spots : List SmallSpot) → spots ≡ map small (map (spot_of b) all_pieces) → map large spots ≡ map (spot_of b) all_pieces
large-all b spots all = ap (map large) all ∙ all_large_small (map (spot_of b) all_pieces)

pub spots-all : (t : GameType) (b : Stacks) (side : Colour) (turn capped : ℕ) (rest : Option ℕ) (spots : List SmallSpot) (i : ℕ) → 28 ≤ i → length spots ≡ 28
    → i ≤ 28 → take i spots ≡ map small (map (spot_of b) (count_from 0 i)) → capped ≡ min turn 5
    → record { spots = map large spots; game_type = t; side = side; turn = capped; rest = rest } ≡ key_of t b side turn rest
unfolding key_of
spots-all t b side turn capped rest spots i past many end filled low =
    rw (large-all b spots (all-filled b spots i past many end filled), low) refl

-- The spots of a board

-- for each piece its spot
pub spot_listed : (b : Stacks) (x : ℕ) → x < 28 → slice_index_or (map (spot_of b) all_pieces) x None ≡ spot_of b x
spot_listed b x small =
    let at : 0 + x ≡ x = omega arith in
    get_or_from_slice_get (map (spot_of b) all_pieces) x (spot_of b x) None
    (slice_get-map (spot_of b) all_pieces x ∙ ap (option_map (spot_of b)) (get-count_from 28 0 x small) ∙ ap (λ y. Some (spot_of b y)) at)

past_end : (xs : List (Option Spot)) (x : ℕ) → length xs ≤ x → slice_index_or xs x None ≡ None
past_end [] x h = refl
past_end (o ∷ xs) zero h = absurd (omega (arith, h))
past_end (o ∷ xs) (suc x) h = let low : length xs ≤ x = omega (arith, h) in past_end xs x low

-- no piece of a board is outside the plane
pub spots_in_plane : (b : Stacks) → IsBoard b → IsInPlane (map (spot_of b) all_pieces)
spots_in_plane b is x s e = elim (nat_lt x 28) as (λ t. nat_lt x 28 ≡ t → IsWithin 9000 s.place) [
  | true ↦ λ low. spot_within b is x s (sym (spot_listed b x (ltb-true x 28 low)) ∙ e)
  | false ↦ λ high.
      let wrong : ◌≡◌ {A = Option Spot} None (Some s) = sym (past_end (map (spot_of b) all_pieces) x (ltb-false x 28 high)) ∙ e in
      absurd (cc)
] refl

pub is_small_key : (b : Stacks) (n : ℕ) (spots : List SmallSpot) (i : ℕ) → IsBoard b → 28 ≤ i → i ≤ 28 → length spots ≡ 28 → take i spots ≡ map small (map (spot_of b) (count_from 0 i))
    → n ≡ number_in (map (spot_of b) (count_from 0 i)) → IsSmallKey n spots
is_small_key b n spots i is past end many filled number =
    let e : i ≡ 28 = omega (arith, past, end) in
    let all = all-filled b spots i past many end filled in
    let great = large-all b spots all in
    record {
      plane = subst IsInPlane (sym great) (spots_in_plane b is);
      again = ap (map small) great ∙ sym all;
      number = ap number_in great ∙ ap (λ k. number_in (map (spot_of b) (count_from 0 k))) (sym e) ∙ sym number;
    }

pub piece_in_plane : (spots : List (Option Spot)) (x : ℕ) (o : Option Spot) → IsInPlane spots → o ≡ slice_index_or spots x None → IfSome o (λ s. IsWithin 9000 s.place)
piece_in_plane spots x None plane e = tt
piece_in_plane spots x (Some s) plane e = plane x s (sym e)

pub small_spot_within : (b : Stacks) (x : ℕ) (o : Option Spot) → IsBoard b → o ≡ spot_of b x → IfSome o (λ s. IsWithin 9000 s.place)
small_spot_within b x None is e = tt
small_spot_within b x (Some s) is e = spot_within b is x s (sym e)
