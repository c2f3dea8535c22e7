-- The written text of each legal move denotes it, and each legal move can be written.
use Rattle.std.proofs.Common.{◌≡◌, ℕ, ◌<◌, Bool, true, false, List, [], ◌∷◌, length, ◌⊎◌, inl, inr, refl, sym, ◌∙◌, ap, subst, arith}
use Rattle.std.specs.Prelude.{Some, IsTrue, is_some, nat_lt}
use Rattle.std.proofs.lemmas.Bool.{lt-ltb, ltb-true}
use Rattle.hive_model.specs.declared.pieces.Colour.{Colour}
use Rattle.hive_model.specs.declared.pieces.Colour.TheVariants.{White, Black}
use Rattle.hive_model.specs.declared.places.Place.{Place}
use Rattle.hive_model.specs.declared.places.Spot.{Spot}
use Rattle.hive_model.specs.declared.places.Move.{Move}
use Rattle.hive_model.specs.declared.places.Move.TheVariants.{Pass, To}
use Rattle.hive_model.specs.Lists.{IsOn}
use Rattle.hive_model.specs.Pieces.{colour_of, kind_of, other_side, OfType}
use Rattle.hive_model.specs.Places.{step, origin}
use Rattle.hive_model.specs.Boards.{Stacks, height_at, is_occupied, spot_of, lift, without, is_in_play, IsBoard}
use Rattle.hive_model.specs.Positions.{Position, IsSound}
use Rattle.hive_model.specs.Placement.{HasColour, MayPlace, Placement, has_colour}
use Rattle.hive_model.specs.Throws.{Throw}
use Rattle.hive_model.specs.Legal.{Walk, LegalPair, IsLegal, moves}
use Rattle.hive_model.specs.Denotes.{Denotes, text}
use Rattle.hive_model.proofs.TouchLaws.{Touched, beside, moves_touch}
use Rattle.hive_model.proofs.LiftLemmas.{lift_is_without}
use Rattle.hive_model.proofs.BoardLemmas.{stands_occupied, spot_of_stands, stands_spot_of}
use Rattle.hive_model.proofs.NearLaws.{place_standing, near_within}
use Rattle.hive_model.proofs.ReachLaws.{step_moves}
use Rattle.hive_model.proofs.LegalLaws.{near_legal, from_legal_pair}
use Rattle.hive_model.proofs.MoveLaws.{moves_legal}
use Rattle.hive_model.proofs.PlacementLaws.{has_colour_from, from_has_colour}
use Rattle.move_text.specs.Moves.{IsMoveWithin}
use Rattle.move_text.proofs.WithoutLaws.{not_there, stack_there}
use Rattle.move_text.proofs.SpellLaws.{text_denotes, first_denotes, pass_denotes}

-- Walks and throws

walk_touches : (p : Position) (x : ℕ) (q : Place) → Walk p x q → Touched (without p.board x) q
walk_touches p x q w =
    let lifted = moves_touch (kind_of x) (lift p.board x) w.from.place q w.moves in
    subst (λ c. Touched c q) (lift_is_without p.board x w.from w.stands w.on_top) lifted

throw_touches : (p : Position) (x : ℕ) (q : Place) → IsBoard p.board → Throw p x q → Touched (without p.board x) q
throw_touches p x q is h =
    let t = h.throws in
    let stands = spot_of_stands p.board x h.from t.stands in
    let same = stack_there p.board is x h.from.place h.from.level stands h.over.place (λ e. step_moves h.over.place t.beside.0 (t.beside.1 ∙ sym e)) in
    let tall = h.is_thrower.alone in
    let some : 0 < height_at p.board h.over.place = omega (arith, tall) in
    let occupied : IsTrue (is_occupied (without p.board x) h.over.place) = ap (λ (xs : List ℕ). nat_lt 0 (length xs)) same ∙ lt-ltb 0 _ some in
    beside (without p.board x) h.over.place q t.down.dir t.down.leads occupied

-- Placements

no_colour : (b : Stacks) (c : Colour) → has_colour b c ≡ false → ¬ HasColour b c
no_colour b c none h = let wrong : true ≡ false = sym (from_has_colour b c h) ∙ none in cc

-- a board with no piece of either colour is empty
no_pieces : (b : Stacks) → IsBoard b → (c : Colour) → (¬ HasColour b c) → (¬ HasColour b (other_side c)) → b ≡ []
no_pieces [] is c e f = refl
no_pieces ((p, xs) ∷ es) is c e f =
    let z = place_standing ((p, xs) ∷ es) is.stacks p (inl refl) in
    let there : is_in_play ((p, xs) ∷ es) z.0 ≡ true = ap is_some (stands_spot_of ((p, xs) ∷ es) is z.0 p 0 z.1) in
    absurd (which (colour_of z.0) c z.0 refl (lt-ltb z.0 28 (is.pieces p 0 z.0 z.1)) there e f)
  where
    which : (k c : Colour) (x : ℕ) → colour_of x ≡ k → IsTrue (nat_lt x 28) → is_in_play ((p, xs) ∷ es) x ≡ true → (¬ HasColour ((p, xs) ∷ es) c) → (¬ HasColour ((p, xs) ∷ es) (other_side c)) → ⊥
    which White White x same piece there e f = e (record { piece = x; is_piece = piece; colour = same; in_play = there })
    which White Black x same piece there e f = f (record { piece = x; is_piece = piece; colour = same; in_play = there })
    which Black White x same piece there e f = f (record { piece = x; is_piece = piece; colour = same; in_play = there })
    which Black Black x same piece there e f = e (record { piece = x; is_piece = piece; colour = same; in_play = there })

placed : (b : Stacks) → IsBoard b → (c : Colour) (q : Place) → MayPlace b c q → Touched b q ⊎ ((b ≡ []) × (q ≡ origin))
placed b is c q h = go (has_colour b c) (has_colour b (other_side c)) refl refl
  where
    go : (s t : Bool) → has_colour b c ≡ s → has_colour b (other_side c) ≡ t → Touched b q ⊎ ((b ≡ []) × (q ≡ origin))
    go true t e f = let own = (h.on_own (has_colour_from b c e)).0 in inl (inr (own.dir, stands_occupied b own.other (step q own.dir) _ own.stands))
    go false true e f = inl (inr (h.on_others (no_colour b c e) (has_colour_from b (other_side c) f)))
    go false false e f = let mine = no_colour b c e in let theirs = no_colour b (other_side c) f in inr (no_pieces b is c mine theirs, h.on_empty mine theirs)

-- How a legal pair ends

-- A legal pair moves a piece of the type to an occupied place of the board without the piece, or to
-- a place beside one; but for the first placement, which goes to the origin of an empty board.
record Goes (p : Position) (x : ℕ) (q : Place) : Type 0 where
  small : x < 28
  of_type : OfType p.game_type x
  ends : Touched (without p.board x) q ⊎ ((p.board ≡ []) × (q ≡ origin))

placement_goes : (p : Position) (x : ℕ) (q : Place) → IsBoard p.board → Placement p x q → Goes p x q
placement_goes p x q is h =
    let hand = h.next.in_hand in
    let gone = not_there p.board x hand.off in
    record {
      small = ltb-true x 28 h.is_piece;
      of_type = hand.of_type;
      ends = elim (placed p.board is p.side q h.place) [
        | inl touched ↦ inl (subst (λ c. Touched c q) (sym gone) touched)
        | inr first ↦ inr first
      ];
    }

moved_goes : (p : Position) (x : ℕ) (q : Place) (s : Spot) → IsSound p → spot_of p.board x ≡ Some s → Touched (without p.board x) q → Goes p x q
moved_goes p x q s sound stands touched = record {
  small = sound.board.pieces s.place s.level x (spot_of_stands p.board x s stands);
  of_type = sound.of_type x (ap is_some stands);
  ends = inl touched;
}

pair_goes : (p : Position) (x : ℕ) (q : Place) → IsSound p → LegalPair p x q → Goes p x q
pair_goes p x q sound (inl placement) = placement_goes p x q sound.board placement
pair_goes p x q sound (inr (queen, inl walk)) = moved_goes p x q walk.from sound walk.stands (walk_touches p x q walk)
pair_goes p x q sound (inr (queen, inr throw)) = moved_goes p x q throw.from sound throw.throws.stands (throw_touches p x q sound.board throw)

-- The laws

goes_denotes : (p : Position) (x : ℕ) (q : Place) → IsBoard p.board → Goes p x q → Denotes p.game_type p.board (text p.board (To x q)) (To x q)
goes_denotes p x q is g = elim (g.ends) [
  | inl touched ↦ text_denotes p.game_type p.board is x q g.small g.of_type touched
  | inr first ↦
      subst (λ b. Denotes p.game_type b (text b (To x q)) (To x q)) (sym first.0)
      (subst (λ z. Denotes p.game_type [] (text [] (To x z)) (To x z)) (sym first.1) (first_denotes p.game_type x g.small g.of_type))
]

pub legal_denotes : (p : Position) (m : Move) → IsSound p → IsLegal p m → Denotes p.game_type p.board (text p.board m) m
legal_denotes p Pass sound legal = pass_denotes p.game_type p.board
legal_denotes p (To x q) sound legal = goes_denotes p x q sound.board (pair_goes p x q sound legal.1)

pub legal_within : (p : Position) (m : Move) → IsSound p → IsLegal p m → IsMoveWithin m
legal_within p Pass sound legal = tt
legal_within p (To x q) sound legal =
    near_within p.board sound.board q (near_legal p x q sound.board (from_legal_pair p sound.board x q legal.1))

-- each move on the list of legal moves can be written
pub listed_within : (p : Position) (m : Move) → IsSound p → IsOn (moves p) m → IsMoveWithin m
listed_within p m sound on = legal_within p m sound (moves_legal p sound.board m on)
