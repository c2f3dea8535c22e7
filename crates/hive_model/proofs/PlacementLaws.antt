-- The tests of hands and placements hold exactly if their relations do.
use Rattle.std.proofs.Common.{◌≡◌, ℕ, suc, zero, ◌+◌, ◌≤◌, ◌<◌, Bool, true, false, cond, not, ◌&&◌, ◌||◌, List, [], ◌∷◌, ◌⊎◌, inl, inr, refl, sym, ◌∙◌, ap, arith, if◌then◌else◌}
use Rattle.std.specs.Prelude.{Option, Some, None, is_some, nat_eq, nat_lt}
use Rattle.std.specs.List.{find}
use Rattle.std.proofs.lemmas.Bool.{eqb-true, eq-eqb, ltb-true, ltb-false, lt-ltb, le-ltb, and_parts, and_from, or_cases, or_left, or_right, not-true, not_from_false, false_from_ne_true, cases_order}
use Rattle.hive_model.specs.declared.pieces.Colour.{Colour}
use Rattle.hive_model.specs.declared.pieces.GameType.{GameType}
use Rattle.hive_model.specs.declared.pieces.Kind.{Kind}
use Rattle.hive_model.specs.declared.pieces.Kind.TheVariants.{Queen}
use Rattle.hive_model.specs.declared.places.Place.{Place}
use Rattle.hive_model.specs.declared.places.Spot.{Spot}
use Rattle.hive_model.specs.Lists.{IsOn, count_from}
use Rattle.hive_model.specs.Pieces.{kind_of, colour_of, is_kind, is_colour, is_like, other_side, all_pieces, queen_of}
use Rattle.hive_model.specs.Places.{is_place, step, dirs, origin}
use Rattle.hive_model.specs.Boards.{Stacks, height_at, is_occupied, top_at, spot_of, is_in_play}
use Rattle.hive_model.specs.Positions.{Position}
use Rattle.hive_model.specs.Placement.{IsInHand, IsLeastInHand, HasColour, Touches, IsBeside, MayPlace, Placement, has_colour, is_in_hand, is_least_in_hand, next_of, shows_colour, touches, is_beside, may_place, is_placement}
use Rattle.hive_model.proofs.PieceLaws.{same_kind, from_same_kind, same_colour, from_same_colour, on_pieces, pieces_on}
use Rattle.hive_model.proofs.PlaceLemmas.{same_place, from_same_place}
use Rattle.hive_model.proofs.RuleLaws.{any_has, has_any, dir_on}

-- Tests of one value

is_none_from : (o : Option Spot) → not (is_some o) ≡ true → o ≡ None
is_none_from None e = refl
is_none_from (Some s) e = let wrong : false ≡ true = e in absurd (cc)

from_is_none : (o : Option Spot) → o ≡ None → not (is_some o) ≡ true
from_is_none o e = ap (λ p. not (is_some p)) e

pub play_or_hand : (o : Option Spot) → (is_some o ≡ true) ⊎ (o ≡ None)
play_or_hand None = inr refl
play_or_hand (Some s) = inl refl

pub not_both : (o : Option Spot) → is_some o ≡ true → o ≡ None → {P : Type 0} → P
not_both o e none = let wrong : false ≡ true = sym (ap is_some none) ∙ e in absurd (cc)

-- a place is empty exactly if it is not occupied
pub empty_from : (n : ℕ) → not (nat_lt 0 n) ≡ true → n ≡ 0
empty_from n e = let low = ltb-false 0 n (not-true _ e) in omega (arith, low)

pub from_empty : (n : ℕ) → n ≡ 0 → not (nat_lt 0 n) ≡ true
from_empty n e = let low : n ≤ 0 = omega (arith, e) in not_from_false _ (le-ltb 0 n low)

-- The hand

pub in_hand_from : (t : GameType) (b : Stacks) (x : ℕ) → is_in_hand t b x ≡ true → IsInHand t b x
in_hand_from t b x e = let both = and_parts _ _ e in record { of_type = both.0; off = is_none_from (spot_of b x) both.1 }

pub from_in_hand : (t : GameType) (b : Stacks) (x : ℕ) → IsInHand t b x → is_in_hand t b x ≡ true
from_in_hand t b x h = and_from _ _ h.of_type (from_is_none (spot_of b x) h.off)

like_from : (x y : ℕ) → is_like x y ≡ true → (kind_of y ≡ kind_of x) × (colour_of y ≡ colour_of x)
like_from x y e = let both = and_parts _ _ e in (sym (same_kind _ _ both.0), sym (same_colour _ _ both.1))

from_like : (x y : ℕ) → kind_of y ≡ kind_of x → colour_of y ≡ colour_of x → is_like x y ≡ true
from_like x y k c = and_from _ _ (from_same_kind _ _ (sym k)) (from_same_colour _ _ (sym c))

pub least_in_hand_from : (t : GameType) (b : Stacks) (x : ℕ) → x < 28 → is_least_in_hand t b x ≡ true → IsLeastInHand t b x
least_in_hand_from t b x small e =
    let both = and_parts (is_in_hand t b x) _ e in
    record {
      in_hand = in_hand_from t b x both.0;
      least = λ y low k c held.
          let inside : y < 28 = omega (arith, low, small) in
          let found = has_any (λ y. nat_lt y x && (is_like x y && is_in_hand t b y)) all_pieces y (on_pieces y inside) (and_from _ _ (lt-ltb y x low) (and_from _ _ (from_like x y k c) (from_in_hand t b y held))) in
          let wrong : false ≡ true = sym (not-true _ both.1) ∙ found in cc;
    }

pub from_least_in_hand : (t : GameType) (b : Stacks) (x : ℕ) → IsLeastInHand t b x → is_least_in_hand t b x ≡ true
from_least_in_hand t b x h =
    and_from _ _ (from_in_hand t b x h.in_hand) (not_from_false _ (false_from_ne_true _ (λ e.
    let r = any_has (λ y. nat_lt y x && (is_like x y && is_in_hand t b y)) all_pieces e in
    let both = and_parts (nat_lt r.0 x) _ r.2 in
    let rest = and_parts (is_like x r.0) _ both.1 in
    let like = like_from x r.0 rest.0 in
    h.least r.0 (ltb-true r.0 x both.0) like.0 like.1 (in_hand_from t b r.0 rest.1))))

-- The first number that passes

found_first : (p : ℕ → Bool) (n first x : ℕ) → find p (count_from first n) ≡ Some x
    → IsOn (count_from first n) x × (p x ≡ true) × ((y : ℕ) → first ≤ y → y < x → p y ≡ false)
found_first p zero first x e = let wrong : None ≡ Some x = e in absurd (cc)
found_first p (suc n) first x e =
    elim (p first) as (λ t. p first ≡ t → cond t (Some first) (find p (count_from (first + 1) n)) ≡ Some x
    → IsOn (count_from first (suc n)) x × (p x ≡ true) × ((y : ℕ) → first ≤ y → y < x → p y ≡ false)) [
      | true ↦ λ is k. let same : first ≡ x = (let s : Some first ≡ Some x = k in cc) in (inl same, ap p (sym same) ∙ is, λ y low high. absurd (omega (arith, low, high, same)))
      | false ↦ λ is k.
          let r = found_first p n (first + 1) x k in (
            inr r.0,
            r.1,
            λ y low high. elim (cases_order first y) [
              | inl same ↦ ap p (sym same) ∙ is
              | inr other ↦ elim other [
                | inl less ↦ let more : first + 1 ≤ y = omega (arith, less) in r.2 y more high
                | inr more ↦ absurd (omega (arith, low, more))
              ]
            ],
          )
    ] refl e

found_none : (p : ℕ → Bool) (xs : List ℕ) → find p xs ≡ None → (y : ℕ) → IsOn xs y → p y ≡ false
found_none p [] e y on = absurd on
found_none p (x ∷ xs) e y on =
    elim (p x) as (λ t. p x ≡ t → cond t (Some x) (find p xs) ≡ None → p y ≡ false) [
      | true ↦ λ _ k. let wrong : Some x ≡ None = k in absurd (cc)
      | false ↦ λ is k. elim on [ inl same ↦ ap p (sym same) ∙ is | inr later ↦ found_none p xs k y later ]
    ] refl e

-- The next piece of a kind

abbrev is_held : GameType → Stacks → Colour → Kind → ℕ → Bool
is_held t b c k x = is_kind (kind_of x) k && (is_colour (colour_of x) c && is_in_hand t b x)

held_from : (t : GameType) (b : Stacks) (c : Colour) (k : Kind) (x : ℕ) → is_held t b c k x ≡ true → (kind_of x ≡ k) × (colour_of x ≡ c) × IsInHand t b x
held_from t b c k x e =
    let both = and_parts (is_kind (kind_of x) k) _ e in
    let rest = and_parts (is_colour (colour_of x) c) _ both.1 in
    (same_kind _ _ both.0, same_colour _ _ rest.0, in_hand_from t b x rest.1)

from_held : (t : GameType) (b : Stacks) (c : Colour) (k : Kind) (x : ℕ) → kind_of x ≡ k → colour_of x ≡ c → IsInHand t b x → is_held t b c k x ≡ true
from_held t b c k x kind colour held = and_from _ _ (from_same_kind _ _ kind) (and_from _ _ (from_same_colour _ _ colour) (from_in_hand t b x held))

-- Some piece, if it is the least in hand of the kind and colour
pub next_of_some : (t : GameType) (b : Stacks) (c : Colour) (k : Kind) (x : ℕ) → next_of t b c k ≡ Some x → (x < 28) × (kind_of x ≡ k) × (colour_of x ≡ c) × IsLeastInHand t b x
next_of_some t b c k x e =
    let r = found_first (is_held t b c k) 28 0 x e in
    let held = held_from t b c k x r.1 in (
      pieces_on x r.0,
      held.0,
      held.1,
      record {
        in_hand = held.2;
        least = λ y low kind colour also.
            let start : 0 ≤ y = omega arith in
            let wrong : false ≡ true = sym (r.2 y start low) ∙ from_held t b c k y (kind ∙ held.0) (colour ∙ held.1) also in cc;
      },
    )

-- None, if none of the kind and colour is in hand
pub next_of_none : (t : GameType) (b : Stacks) (c : Colour) (k : Kind) → next_of t b c k ≡ None → (x : ℕ) → x < 28 → kind_of x ≡ k → colour_of x ≡ c → ¬ IsInHand t b x
next_of_none t b c k e x small kind colour held =
    let wrong : false ≡ true = sym (found_none (is_held t b c k) all_pieces e x (on_pieces x small)) ∙ from_held t b c k x kind colour held in cc

pub some_next_of : (t : GameType) (b : Stacks) (c : Colour) (k : Kind) (x : ℕ) → x < 28 → kind_of x ≡ k → colour_of x ≡ c → IsLeastInHand t b x → next_of t b c k ≡ Some x
some_next_of t b c k x small kind colour h =
    elim (next_of t b c k) as (λ o. next_of t b c k ≡ o → o ≡ Some x) [
      | None ↦ λ e. absurd (next_of_none t b c k e x small kind colour h.in_hand)
      | Some y ↦ λ e.
          let other = next_of_some t b c k y e in
          elim (cases_order x y) [
            | inl same ↦ ap Some (sym same)
            | inr apart ↦ elim apart [
              | inl below ↦ absurd (other.3.least x below (kind ∙ sym other.1) (colour ∙ sym other.2) h.in_hand)
              | inr above ↦ absurd (h.least y above (other.1 ∙ sym kind) (other.2 ∙ sym colour) other.3.in_hand)
            ]
          ]
    ] refl

pub none_next_of : (t : GameType) (b : Stacks) (c : Colour) (k : Kind) → ((x : ℕ) → x < 28 → kind_of x ≡ k → colour_of x ≡ c → ¬ IsInHand t b x) → next_of t b c k ≡ None
none_next_of t b c k h =
    elim (next_of t b c k) as (λ o. next_of t b c k ≡ o → o ≡ None) [
      | None ↦ λ _. refl
      | Some y ↦ λ e. let r = next_of_some t b c k y e in absurd (h y r.0 r.1 r.2 r.3.in_hand)
    ] refl

-- Colours on the board

pub has_colour_from : (b : Stacks) (c : Colour) → has_colour b c ≡ true → HasColour b c
has_colour_from b c e =
    let r = any_has (λ x. is_colour (colour_of x) c && is_in_play b x) all_pieces e in
    let both = and_parts (is_colour (colour_of r.0) c) _ r.2 in
    record { piece = r.0; is_piece = lt-ltb r.0 28 (pieces_on r.0 r.1); colour = same_colour _ _ both.0; in_play = both.1 }

pub from_has_colour : (b : Stacks) (c : Colour) → HasColour b c → has_colour b c ≡ true
from_has_colour b c h =
    has_any (λ x. is_colour (colour_of x) c && is_in_play b x) all_pieces h.piece (on_pieces h.piece (ltb-true h.piece 28 h.is_piece))
    (and_from _ _ (from_same_colour _ _ h.colour) h.in_play)

-- Neighbours

shows_from : (o : Option ℕ) (c : Colour) → shows_colour o c ≡ true → (y : ℕ) × (o ≡ Some y) × (colour_of y ≡ c)
shows_from None c e = let wrong : false ≡ true = e in absurd (cc)
shows_from (Some y) c e = (y, refl, same_colour (colour_of y) c e)

pub touches_from : (b : Stacks) (c : Colour) (q : Place) → touches b c q ≡ true → Touches b c q
touches_from b c q e =
    let r = any_has (λ d. shows_colour (top_at b (step q d)) c) dirs e in
    let y = shows_from (top_at b (step q r.0)) c r.2 in
    record { dir = r.0; other = y.0; stands = y.1; colour = y.2 }

pub from_touches : (b : Stacks) (c : Colour) (q : Place) → Touches b c q → touches b c q ≡ true
from_touches b c q h = has_any (λ d. shows_colour (top_at b (step q d)) c) dirs h.dir (dir_on h.dir) (ap (λ o. shows_colour o c) h.stands ∙ from_same_colour (colour_of h.other) c h.colour)

pub beside_from : (b : Stacks) (q : Place) → is_beside b q ≡ true → IsBeside b q
beside_from b q e = let r = any_has (λ d. is_occupied b (step q d)) dirs e in (r.0, r.2)

pub from_beside : (b : Stacks) (q : Place) → IsBeside b q → is_beside b q ≡ true
from_beside b q h = has_any (λ d. is_occupied b (step q d)) dirs h.0 (dir_on h.0) h.1

-- The places on which a side may place

abbrev placed_where : Stacks → Colour → Place → Bool → Bool → Bool
placed_where b c q own other = if own then touches b c q && not (touches b (other_side c) q) else if other then is_beside b q else is_place q origin

pub may_place_from : (b : Stacks) (c : Colour) (q : Place) → may_place b c q ≡ true → MayPlace b c q
may_place_from b c q e = let both = and_parts (not (is_occupied b q)) _ e in go (has_colour b c) refl (has_colour b (other_side c)) refl (empty_from _ both.0) both.1
  where
    no : (d : Colour) → has_colour b d ≡ false → ¬ HasColour b d
    no d is h = let wrong : false ≡ true = sym is ∙ from_has_colour b d h in cc

    go : (own : Bool) → has_colour b c ≡ own → (other : Bool) → has_colour b (other_side c) ≡ other → height_at b q ≡ 0 → placed_where b c q own other ≡ true → MayPlace b c q
    go true is other also empty k =
        let both = and_parts (touches b c q) _ k in
        record {
          empty = empty;
          on_empty = λ none _. absurd (none (has_colour_from b c is));
          on_others = λ none _. absurd (none (has_colour_from b c is));
          on_own = λ _. (touches_from b c q both.0, λ h. let wrong : false ≡ true = sym (not-true _ both.1) ∙ from_touches b (other_side c) q h in cc);
        }
    go false is true also empty k = record {
      empty = empty;
      on_empty = λ _ none. absurd (none (has_colour_from b (other_side c) also));
      on_others = λ _ _. beside_from b q k;
      on_own = λ h. absurd (no c is h);
    }
    go false is false also empty k = record {
      empty = empty;
      on_empty = λ _ _. same_place q origin k;
      on_others = λ _ h. absurd (no (other_side c) also h);
      on_own = λ h. absurd (no c is h);
    }

pub from_may_place : (b : Stacks) (c : Colour) (q : Place) → MayPlace b c q → may_place b c q ≡ true
from_may_place b c q h = and_from _ _ (from_empty _ h.empty) (go (has_colour b c) refl (has_colour b (other_side c)) refl)
  where
    no : (d : Colour) → has_colour b d ≡ false → ¬ HasColour b d
    no d is h = let wrong : false ≡ true = sym is ∙ from_has_colour b d h in cc

    go : (own : Bool) → has_colour b c ≡ own → (other : Bool) → has_colour b (other_side c) ≡ other → placed_where b c q own other ≡ true
    go true is other also =
        let both = h.on_own (has_colour_from b c is) in
        and_from _ _ (from_touches b c q both.0) (not_from_false _ (false_from_ne_true _ (λ e. both.1 (touches_from b (other_side c) q e))))
    go false is true also = from_beside b q (h.on_others (no c is) (has_colour_from b (other_side c) also))
    go false is false also = from_same_place q origin (h.on_empty (no c is) (no (other_side c) also))

-- Placements

pub placement_from : (p : Position) (x : ℕ) (q : Place) → x < 28 → is_placement p x q ≡ true → Placement p x q
placement_from p x q small e =
    let own = and_parts (is_colour (colour_of x) p.side) _ e in
    let next = and_parts (is_least_in_hand p.game_type p.board x) _ own.1 in
    let place = and_parts (may_place p.board p.side q) _ next.1 in
    let late = and_parts (not (is_kind (kind_of x) Queen && nat_eq p.turn 1)) _ place.1 in
    record {
      is_piece = lt-ltb x 28 small;
      own = same_colour _ _ own.0;
      next = least_in_hand_from p.game_type p.board x small next.0;
      place = may_place_from p.board p.side q place.0;
      no_first_queen = λ first queen. let wrong : false ≡ true = sym (not-true _ late.0) ∙ and_from _ _ (from_same_kind _ _ queen) (eq-eqb p.turn 1 first) in cc;
      queen_by_fourth = λ fourth off. elim (or_cases (is_kind (kind_of x) Queen) _ late.1) [
        | inl queen ↦ same_kind _ _ queen
        | inr other ↦ elim (or_cases (nat_lt p.turn 4) _ other) [
          | inl early ↦ absurd (let low = ltb-true p.turn 4 early in omega (arith, low, fourth))
          | inr on ↦ not_both (spot_of p.board (queen_of p.side)) on off
        ]
      ];
    }

pub from_placement : (p : Position) (x : ℕ) (q : Place) → Placement p x q → is_placement p x q ≡ true
from_placement p x q h =
    and_from _ _ (from_same_colour _ _ h.own)
    (and_from _ _ (from_least_in_hand p.game_type p.board x h.next)
    (and_from _ _ (from_may_place p.board p.side q h.place)
    (and_from _ _ (not_from_false _ (false_from_ne_true _ (λ e. let both = and_parts (is_kind (kind_of x) Queen) (nat_eq p.turn 1) e in h.no_first_queen (eqb-true p.turn 1 both.1) (same_kind _ _ both.0)))) by_fourth)))
  where
    by_fourth : (is_kind (kind_of x) Queen || (nat_lt p.turn 4 || is_in_play p.board (queen_of p.side))) ≡ true
    by_fourth = elim (play_or_hand (spot_of p.board (queen_of p.side))) [
      | inl on ↦ or_right (is_kind (kind_of x) Queen) _ (or_right (nat_lt p.turn 4) _ on)
      | inr off ↦ elim (nat_lt p.turn 4) as (λ t. nat_lt p.turn 4 ≡ t → (is_kind (kind_of x) Queen || (t || is_in_play p.board (queen_of p.side))) ≡ true) [
        | true ↦ λ _. or_right (is_kind (kind_of x) Queen) true refl
        | false ↦ λ late. or_left (is_kind (kind_of x) Queen) _ (from_same_kind _ _ (h.queen_by_fourth (ltb-false p.turn 4 late) off))
      ] refl
    ]
