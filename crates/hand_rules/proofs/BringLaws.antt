-- A placement is a piece that may be brought to a place where it may be placed.
use Rattle.std.proofs.Common.{◌↔◌, ℕ, ◌≤◌, arith}
use Rattle.std.proofs.lemmas.Bool.{ltb-true}
use Rattle.hive_model.specs.declared.pieces.Colour.{Colour}
use Rattle.hive_model.specs.declared.pieces.GameType.{GameType}
use Rattle.hive_model.specs.declared.places.Place.{Place}
use Rattle.hive_model.specs.declared.places.Move.{Move}
use Rattle.hive_model.specs.declared.places.Move.TheVariants.{Pass, To}
use Rattle.hive_model.specs.Boards.{Stacks}
use Rattle.hive_model.specs.Positions.{Position}
use Rattle.hive_model.specs.Placement.{MayPlace, Placement}
use Rattle.hand_rules.specs.Listing.{IsPairBelow}
use Rattle.hand_rules.specs.Bringing.{MayBring, IsPlacementMove, position_awake}

module _ (p : Position) (x : ℕ) (q : Place) where
  pub bring_from : Placement p x q → MayBring p.game_type p.board p.side p.turn x × MayPlace p.board p.side q
  bring_from h = (
    record { is_piece = h.is_piece; own = h.own; next = h.next; no_first_queen = h.no_first_queen; queen_by_fourth = h.queen_by_fourth },
    h.place,
  )

  pub from_bring : MayBring p.game_type p.board p.side p.turn x → MayPlace p.board p.side q → Placement p x q
  from_bring h place = record { is_piece = h.is_piece; own = h.own; next = h.next; place = place; no_first_queen = h.no_first_queen; queen_by_fourth = h.queen_by_fourth }

  -- a piece that may be brought is placed where its side may place
  pub brought_there : MayBring p.game_type p.board p.side p.turn x → MayPlace p.board p.side q ↔ Placement p x q
  brought_there may = (λ place. from_bring may place, λ h. h.place)

-- All placements

-- a placement brings one of the 28 pieces
pub placed_below : (p : Position) (n : ℕ) → 28 ≤ n → (m : Move) → IsPairBelow (Placement p) n m ↔ IsPlacementMove p m
placed_below p n last Pass = (λ h. h, λ h. h)
placed_below p n last (To x q) = (λ h. h.1, λ h. let small = ltb-true x 28 h.is_piece in (omega (arith, small, last), h))

-- where no piece may be brought there is no placement
pub none_to_bring : (t : GameType) (b : Stacks) (c : Colour) (turn : ℕ) → ((x : ℕ) → ¬ MayBring t b c turn x) → (m : Move) → ¬ IsPlacementMove (position_awake t b c turn) m
none_to_bring t b c turn none Pass h = h
none_to_bring t b c turn none (To x q) h = none x (bring_from (position_awake t b c turn) x q h).0
