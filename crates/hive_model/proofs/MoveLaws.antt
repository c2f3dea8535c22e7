-- The list of legal moves has the legal moves and no others, in strict order.
use Rattle.std.proofs.Common.{◌≡◌, ℕ, suc, zero, ◌+◌, ◌<◌, Bool, true, false, List, [], ◌∷◌, ◌++◌, ◌⊎◌, inl, inr, refl, sym, ◌∙◌, ap, subst, arith, if◌then◌else◌}
use Rattle.std.specs.Prelude.{map}
use Rattle.std.specs.List.{filter, flat_map}
use Rattle.std.specs.Ordering.{MatchOrdering, nat_cmp, ordering_then}
use Rattle.std.specs.Cmp.{IsTotalOrder, nat_cmp_is}
use Rattle.std.specs.FinMap.{IsAntisymmetric, nat_cmp-IsAntisymmetric}
use Rattle.std.specs.declared.cmp.Ordering.{Ordering}
use Rattle.std.specs.declared.cmp.Ordering.TheVariants.{Less, Equal, Greater}
use Rattle.std.proofs.lemmas.Bool.{false_from_ne_true}
use Rattle.std.proofs.lemmas.Cmp.{ranked, nat_cmp_total, tied_itself, on_total, then_total}
use Rattle.std.proofs.lemmas.Map.Lookups.{exact_pairs}
use Rattle.hive_model.specs.declared.places.Place.{Place}
use Rattle.hive_model.specs.declared.places.Move.{Move}
use Rattle.hive_model.specs.declared.places.Move.TheVariants.{Pass, To}
use Rattle.hive_model.specs.Lists.{IsOn, Rises, count_from}
use Rattle.hive_model.specs.Places.{place_cmp, neighbours, origin}
use Rattle.hive_model.specs.Boards.{places_of, IsBoard}
use Rattle.hive_model.specs.Near.{near}
use Rattle.hive_model.specs.Positions.{Position}
use Rattle.hive_model.specs.Legal.{IsOver, IsLegal, is_over, is_legal_pair, pairs, or_pass, moves, move_cmp}
use Rattle.hive_model.proofs.PlaceLemmas.{places_total, exact_places}
use Rattle.hive_model.proofs.PieceLaws.{count_low}
use Rattle.hive_model.proofs.Floods.{on_append, on_filter}
use Rattle.hive_model.proofs.NearLaws.{map_has, flat_map_on, rises_in_order}
use Rattle.hive_model.proofs.OverLaws.{over_from, from_over}
use Rattle.hive_model.proofs.LegalLaws.{on_pairs, pairs_legal, legal_pairs, no_pass_pair}

-- The order of moves

abbrev rank : Move → ℕ
rank Pass = 0
rank (To x q) = suc x

abbrev place_to : Move → Place
place_to Pass = origin
place_to (To x q) = q

abbrev by_rank : Move → Move → Ordering
by_rank a b = ordering_then (nat_cmp (rank a) (rank b)) (place_cmp (place_to a) (place_to b))

by_rank_total : IsTotalOrder by_rank
by_rank_total = then_total (on_total rank nat_cmp_total) (on_total place_to places_total)

nat_less : (x y : ℕ) → x < y → nat_cmp x y ≡ Less
nat_less x y h = sym (nat_cmp_is x y Less h)

nat_more : (x y : ℕ) → y < x → nat_cmp x y ≡ Greater
nat_more x y h = sym (nat_cmp_is x y Greater h)

ranks : (x y : ℕ) → nat_cmp x y ≡ nat_cmp (suc x) (suc y)
ranks x y = nat_cmp_is (suc x) (suc y) (nat_cmp x y) (both (nat_cmp x y) (ranked x y (nat_cmp x y) refl))
  where
    both : (o : Ordering) → MatchOrdering o (x < y) (x ≡ y) (y < x) → MatchOrdering o (suc x < suc y) (suc x ≡ suc y) (suc y < suc x)
    both Less h = omega (arith, h)
    both Equal h = ap suc h
    both Greater h = omega (arith, h)

same_ranks : (a b : Move) → by_rank a b ≡ move_cmp a b
same_ranks Pass Pass = refl
same_ranks Pass (To y r) = let low : 0 < suc y = omega arith in ap (λ o. ordering_then o (place_cmp origin r)) (nat_less 0 (suc y) low)
same_ranks (To x q) Pass = let low : 0 < suc x = omega arith in ap (λ o. ordering_then o (place_cmp q origin)) (nat_more (suc x) 0 low)
same_ranks (To x q) (To y r) = ap (λ o. ordering_then o (place_cmp q r)) (sym (ranks x y))

pub moves_total : IsTotalOrder move_cmp
moves_total = subst IsTotalOrder (λ i a b. same_ranks a b i) by_rank_total

pub exact_moves : IsAntisymmetric move_cmp
exact_moves Pass Pass e = refl
exact_moves Pass (To y r) e = let wrong : Less ≡ Equal = e in absurd (cc)
exact_moves (To x q) Pass e = let wrong : Greater ≡ Equal = e in absurd (cc)
exact_moves (To x q) (To y r) e = ap (λ (m : ℕ × Place). To m.0 m.1) (exact_pairs nat_cmp place_cmp nat_cmp-IsAntisymmetric exact_places (x, q) (y, r) e)

-- Lists in order

rises_append : {X : Type 0} (R : X → X → Ordering) (xs ys : List X) → Rises R xs → Rises R ys → ((x y : X) → IsOn xs x → IsOn ys y → R x y ≡ Less) → Rises R (xs ++ ys)
rises_append R [] ys h k below = k
rises_append R (x ∷ xs) ys h k below = (
  λ y on. elim (on_append xs ys y on) [ inl here ↦ h.0 y here | inr there ↦ below x y (inl refl) there ],
  rises_append R xs ys h.1 k (λ z y on there. below z y (inr on) there),
)

pub rises_filter : {X : Type 0} (R : X → X → Ordering) (t : X → Bool) (xs : List X) → Rises R xs → Rises R (filter t xs)
rises_filter R t [] h = tt
rises_filter R t (x ∷ xs) h = elim (t x) as (λ b. Rises R (if b then x ∷ filter t xs else filter t xs)) [
  | true ↦ (λ y on. h.0 y (on_filter t xs y on).0, rises_filter R t xs h.1)
  | false ↦ rises_filter R t xs h.1
]

to_rises : (x : ℕ) (qs : List Place) → Rises place_cmp qs → Rises move_cmp (map (λ q. To x q) qs)
to_rises x [] h = tt
to_rises x (q ∷ qs) h = (
  λ m on.
      let r = map_has (λ z. To x z) qs m on in
      let later : move_cmp (To x q) (To x r.0) ≡ Less = ap (λ o. ordering_then o (place_cmp q r.0)) (tied_itself nat_cmp_total x) ∙ h.0 r.0 r.1 in
      ap (move_cmp (To x q)) (sym r.2) ∙ later,
  to_rises x qs h.1,
)

by_piece : (f : ℕ → List Place) → ((x : ℕ) → Rises place_cmp (f x)) → (n first : ℕ) → Rises move_cmp (flat_map (λ x. map (λ q. To x q) (f x)) (count_from first n))
by_piece f h zero first = tt
by_piece f h (suc n) first = rises_append move_cmp _ _ (to_rises first (f first) (h first)) (by_piece f h n (first + 1)) below
  where
    below : (a b : Move) → IsOn (map (λ q. To first q) (f first)) a → IsOn (flat_map (λ x. map (λ q. To x q) (f x)) (count_from (first + 1) n)) b → move_cmp a b ≡ Less
    below a b here there =
        let s = map_has (λ q. To first q) (f first) a here in
        let r = flat_map_on (λ x. map (λ q. To x q) (f x)) (count_from (first + 1) n) b there in
        let t = map_has (λ q. To r.0 q) (f r.0) b r.2 in
        let low = count_low n (first + 1) r.0 r.1 in
        let less : first < r.0 = omega (arith, low) in
        ap (λ m. move_cmp m b) (sym s.2) ∙ ap (move_cmp (To first s.0)) (sym t.2) ∙ ap (λ o. ordering_then o (place_cmp s.0 t.0)) (nat_less first r.0 less)

pub pairs_rise : (p : Position) → Rises move_cmp (pairs p)
unfolding pairs
pairs_rise p = by_piece (λ x. filter (is_legal_pair p x) (near p.board)) (λ x. rises_filter place_cmp (is_legal_pair p x) (near p.board) (rises_in_order (origin ∷ places_of p.board ++ flat_map neighbours (places_of p.board)))) 28 0

-- The moves

in_play_moves : (p : Position) → is_over p ≡ false → moves p ≡ or_pass (pairs p)
unfolding moves
in_play_moves p e = ap (λ (t : Bool). if t then [] else or_pass (pairs p)) e

pub over_moves : (p : Position) → is_over p ≡ true → moves p ≡ []
unfolding moves
over_moves p e = ap (λ (t : Bool). if t then [] else or_pass (pairs p)) e

not_empty : (ms : List Move) → or_pass ms ≡ [] → {P : Type 0} → P
not_empty [] e = let wrong : ◌≡◌ {A = List Move} (Pass ∷ []) [] = e in absurd (cc)
not_empty (m ∷ ms) e = let wrong : ◌≡◌ {A = List Move} (m ∷ ms) [] = e in absurd (cc)

-- there is no move only if the game is over
pub no_moves : (p : Position) → moves p ≡ [] → IsOver p
no_moves p none = elim (is_over p) as (λ t. is_over p ≡ t → IsOver p) [ true ↦ λ e. over_from p e | false ↦ λ e. not_empty (pairs p) (sym (in_play_moves p e) ∙ none) ] refl

or_pass_on : (ms : List Move) (m : Move) → IsOn (or_pass ms) m → IsOn ms m ⊎ ((m ≡ Pass) × (ms ≡ []))
or_pass_on [] m on = elim on [ inl same ↦ inr (sym same, refl) | inr none ↦ absurd none ]
or_pass_on (x ∷ ms) m on = inl on

on_or_pass : (ms : List Move) (m : Move) → IsOn ms m → IsOn (or_pass ms) m
on_or_pass [] m on = absurd on
on_or_pass (x ∷ ms) m on = on

-- the list has the legal moves and no other
pub moves_legal : (p : Position) → IsBoard p.board → (m : Move) → IsOn (moves p) m → IsLegal p m
moves_legal p is m on = elim (is_over p) as (λ t. is_over p ≡ t → IsLegal p m) [
  | true ↦ λ e. absurd (subst (λ ms. IsOn ms m) (over_moves p e) on)
  | false ↦ λ e.
      let goes_on : ¬ IsOver p = (λ over. let wrong : true ≡ false = sym (from_over p over) ∙ e in cc) in
      listed goes_on m (or_pass_on (pairs p) m (subst (λ ms. IsOn ms m) (in_play_moves p e) on))
] refl
  where
    listed : (¬ IsOver p) → (m : Move) → IsOn (pairs p) m ⊎ ((m ≡ Pass) × (pairs p ≡ [])) → IsLegal p m
    listed goes_on Pass h = elim h [
      | inl pair ↦ no_pass_pair p pair
      | inr (same, none) ↦ (goes_on, λ x q legal. subst (λ ms. IsOn ms (To x q)) none (legal_pairs p is x q legal))
    ]
    listed goes_on (To x q) h = elim h [
      | inl pair ↦ (goes_on, pairs_legal p is x q pair)
      | inr (same, none) ↦ let wrong : To x q ≡ Pass = same in absurd (cc)
    ]

goes_on_test : (p : Position) → (¬ IsOver p) → is_over p ≡ false
goes_on_test p h = false_from_ne_true _ (λ e. h (over_from p e))

pub legal_moves : (p : Position) → IsBoard p.board → (m : Move) → IsLegal p m → IsOn (moves p) m
legal_moves p is (To x q) h = subst (λ ms. IsOn ms (To x q)) (sym (in_play_moves p (goes_on_test p h.0))) (on_or_pass (pairs p) (To x q) (legal_pairs p is x q h.1))
legal_moves p is Pass h = subst (λ ms. IsOn ms Pass) (sym (in_play_moves p (goes_on_test p h.0) ∙ ap or_pass (none_on (pairs p) all))) (inl refl)
  where
    all : (m : Move) → IsOn (pairs p) m → ⊥
    all Pass on = no_pass_pair p on
    all (To x q) on = h.1 x q (pairs_legal p is x q on)

    none_on : (ms : List Move) → ((m : Move) → IsOn ms m → ⊥) → ms ≡ []
    none_on [] k = refl
    none_on (m ∷ ms) k = absurd (k m (inl refl))

-- the list is in strict order
pub moves_rise : (p : Position) → Rises move_cmp (moves p)
moves_rise p = elim (is_over p) as (λ t. is_over p ≡ t → Rises move_cmp (moves p)) [
  | true ↦ λ e. subst (Rises move_cmp) (sym (over_moves p e)) tt
  | false ↦ λ e. subst (Rises move_cmp) (sym (in_play_moves p e)) (with_pass (pairs p) (pairs_rise p))
] refl
  where
    with_pass : (ms : List Move) → Rises move_cmp ms → Rises move_cmp (or_pass ms)
    with_pass [] h = (λ y on. absurd on, tt)
    with_pass (m ∷ ms) h = h

-- if the pass is on the list, it is the whole list
pub pass_alone : (p : Position) → IsOn (moves p) Pass → moves p ≡ Pass ∷ []
pass_alone p on = elim (is_over p) as (λ t. is_over p ≡ t → moves p ≡ Pass ∷ []) [
  | true ↦ λ e. absurd (subst (λ ms. IsOn ms Pass) (over_moves p e) on)
  | false ↦ λ e. elim (or_pass_on (pairs p) Pass (subst (λ ms. IsOn ms Pass) (in_play_moves p e) on)) [
    | inl pair ↦ no_pass_pair p pair
    | inr (same, none) ↦ in_play_moves p e ∙ ap or_pass none
  ]
] refl

-- each of the moves has one of the 28 pieces
pub moves_below : (p : Position) (x : ℕ) (q : Place) → IsOn (moves p) (To x q) → x < 28
moves_below p x q on = elim (is_over p) as (λ t. is_over p ≡ t → x < 28) [
  | true ↦ λ e. absurd (subst (λ ms. IsOn ms (To x q)) (over_moves p e) on)
  | false ↦ λ e. elim (or_pass_on (pairs p) (To x q) (subst (λ ms. IsOn ms (To x q)) (in_play_moves p e) on)) [
    | inl pair ↦ (on_pairs p x q pair).0
    | inr (same, none) ↦ let wrong : To x q ≡ Pass = same in absurd (cc)
  ]
] refl
