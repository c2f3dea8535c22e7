-- A legal pair is a placement or a move of a piece of the board, and which moves are on the list of legal moves.
use Rattle.std.proofs.Common.{◌≡◌, ◌↔◌, ℕ, ◌<◌, true, false, List, [], ◌∷◌, length, inl, inr, refl, sym, ◌∙◌, arith}
use Rattle.std.specs.Prelude.{Option, IsTrue, nat_lt}
use Rattle.std.proofs.lemmas.Bool.{lt-ltb, ltb-true}
use Rattle.hive_model.specs.declared.pieces.Colour.{Colour}
use Rattle.hive_model.specs.declared.pieces.GameType.{GameType}
use Rattle.hive_model.specs.declared.places.Place.{Place}
use Rattle.hive_model.specs.declared.places.Move.TheVariants.{Pass, To}
use Rattle.hive_model.specs.Lists.{IsOn}
use Rattle.hive_model.specs.PlaceLists.{AreAll}
use Rattle.hive_model.specs.Boards.{Stacks, spot_of, IsBoard}
use Rattle.hive_model.specs.Places.{IsWithin}
use Rattle.hive_model.specs.Positions.{Position}
use Rattle.hive_model.specs.Placement.{MayPlace}
use Rattle.hive_model.specs.Legal.{IsOver, LegalPair, is_over, moves}
use Rattle.hive_model.proofs.NearLaws.{near_within}
use Rattle.hive_model.proofs.LegalLaws.{near_placement}
use Rattle.hive_model.proofs.PlacementLaws.{from_placement}
use Rattle.hive_model.proofs.OverLaws.{from_over}
use Rattle.hive_model.proofs.MoveLaws.{moves_legal, legal_moves}
use Rattle.hand_rules.specs.Bringing.{MayBring}
use Rattle.hand_rules.proofs.BringLaws.{bring_from, from_bring}
use Rattle.legal_moves.specs.Going.{position_at, IsMoved}
use Rattle.legal_moves.specs.Listing.{HasPair}
use Rattle.legal_moves.proofs.Walking.{no_spot}

module _ (t : GameType) (b : Stacks) (c : Colour) (turn : ℕ) (rest : Option ℕ) (x : ℕ) (q : Place) where
  abbrev here : Position
  here = position_at t b c turn rest

  not_moved : MayBring t b c turn x → ¬ IsMoved here x q
  not_moved may (queen, moved) = elim moved [
    | inl walk ↦ no_spot (spot_of b x) walk.from may.next.in_hand.off walk.stands
    | inr throw ↦ no_spot (spot_of b x) throw.from may.next.in_hand.off throw.throws.stands
  ]

  -- a piece that may be brought goes where its side may place, and nowhere else
  pub brought_pair : MayBring t b c turn x → MayPlace b c q ↔ LegalPair here x q
  brought_pair may = (
    λ place. inl (from_bring here x q may place),
    λ h. elim h [ inl placed ↦ placed.place | inr moved ↦ absurd (not_moved may moved) ],
  )

  -- any other is moved or thrown
  pub moved_pair : ¬ MayBring t b c turn x → IsMoved here x q ↔ LegalPair here x q
  moved_pair none = (
    λ moved. inr moved,
    λ h. elim h [ inl placed ↦ absurd (none (bring_from here x q placed).0) | inr moved ↦ moved ],
  )

  -- a place where it may be brought is near the hive
  pub brought_within : IsBoard b → MayBring t b c turn x → MayPlace b c q → IsWithin 9500 q
  brought_within is may place = near_within b is q (near_placement here x q (from_placement here x q (from_bring here x q may place)))

-- The list of legal moves, while the game is not over

module _ (p : Position) (is : IsBoard p.board) (on : is_over p ≡ false) where
  goes_on : ¬ IsOver p
  goes_on over = let wrong : true ≡ false = sym (from_over p over) ∙ on in cc

  pub pair_is_listed : (x : ℕ) (q : Place) → LegalPair p x q ↔ IsOn (moves p) (To x q)
  pair_is_listed x q = (λ h. legal_moves p is (To x q) (goes_on, h), λ h. (moves_legal p is (To x q) h).1)

  pub pass_is_listed : (¬ HasPair p) ↔ IsOn (moves p) Pass
  pass_is_listed = (
    λ none. legal_moves p is Pass (goes_on, λ x q h. none (x, q, h)),
    λ h pair. (moves_legal p is Pass h).1 pair.0 pair.1 pair.2,
  )

-- Some place on a list

pub some_pair : (p : Position) (x : ℕ) (xs : List Place) (n : ℕ) → n ≡ length xs → AreAll (LegalPair p x) xs → IsTrue (nat_lt 0 n) ↔ ((q : Place) × LegalPair p x q)
some_pair p x xs n many is = (
  λ e. let low = ltb-true 0 n e in let long : 0 < length xs = omega (arith, low, many) in let (q, on) = head_on xs long in (q, (is.exact q).0 on),
  λ (q, h). let long = on_long xs q ((is.exact q).1 h) in let low : 0 < n = omega (arith, long, many) in lt-ltb 0 n low,
)
  where
    head_on : (ys : List Place) → 0 < length ys → (q : Place) × IsOn ys q
    head_on [] long = absurd (omega (arith, long))
    head_on (y ∷ ys) long = (y, inl refl)

    on_long : (ys : List Place) (q : Place) → IsOn ys q → 0 < length ys
    on_long [] q on = absurd on
    on_long (y ∷ ys) q on = omega arith
