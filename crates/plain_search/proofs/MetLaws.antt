-- The keys by which legal moves are counted once.
use Rattle.std.proofs.Common.{◌≡◌, ℕ, Bool, true, false, ◌<◌, inl, inr, length, refl, sym, ◌∙◌, ap, subst}
use Rattle.std.specs.Prelude.{◌↔◌, Option, Some, None, IsTrue, SomeIff}
use Rattle.std.proofs.lemmas.Option.{same_Some}
use Rattle.hive_model.specs.declared.pieces.Colour.{Colour}
use Rattle.hive_model.specs.declared.pieces.Colour.TheVariants.{White, Black}
use Rattle.hive_model.specs.declared.pieces.Kind.TheVariants.{Mosquito, Pillbug}
use Rattle.hive_model.specs.declared.places.Move.{Move}
use Rattle.hive_model.specs.declared.places.Spot.{Spot}
use Rattle.hive_model.specs.Boards.{IsBoard, spot_of}
use Rattle.hive_model.specs.Games.{after, moved}
use Rattle.hive_model.specs.Keys.{KeyParts, key}
use Rattle.hive_model.specs.Legal.{moves}
use Rattle.hive_model.specs.Repetition.{same_board}
use Rattle.hive_model.specs.Pieces.{colour_of, is_colour, other_side, piece_of}
use Rattle.hive_model.specs.Places.{AreNeighbours}
use Rattle.hive_model.specs.Positions.{Position, IsSound}
use Rattle.hive_model.proofs.BoardLemmas.{spot_of_stands}
use Rattle.hive_model.proofs.SameBoards.{boards_tested}
use Rattle.key_laws.proofs.Alike.{alike_from}
use Rattle.key_laws.proofs.Rules.{moves-alike}
use Rattle.plain_search.specs.Met.{HasMoves, IsCountKey}
use Rattle.plain_search.specs.Rested.{RestsUntouched, awake}
use Rattle.plain_search.proofs.PlacedLaws.{the_mosquito, the_pillbug}
use Rattle.plain_search.proofs.RestLaws.{rest_does_not_matter}

-- The resting piece, by the places of two pieces of the side to move

pub apart_rest : (p : Position) (x : ℕ) (s : Spot) → IsBoard p.board → p.rest ≡ Some x → colour_of x ≡ other_side p.side → spot_of p.board x ≡ Some s
    → ((t : Spot) → spot_of p.board (piece_of p.side Pillbug 0) ≡ Some t → ¬ AreNeighbours t.place s.place)
    → ((t : Spot) → spot_of p.board (piece_of p.side Mosquito 0) ≡ Some t → ¬ AreNeighbours t.place s.place)
    → RestsUntouched p
apart_rest p x s is rests theirs stands pillbug mosquito = record {
  theirs = λ z e. subst (λ (w : ℕ). colour_of w ≡ other_side p.side) (same_Some x z (sym rests ∙ e)) theirs;
  untouched = λ z y a t e at own kind by near.
      let same : x ≡ z = same_Some x z (sym rests ∙ e) in
      let place : s ≡ a = same_Some s a (sym stands ∙ ap (spot_of p.board) same ∙ at) in
      let beside : AreNeighbours t.place s.place = subst (λ (u : Spot). AreNeighbours t.place u.place) (sym place) near in
      let small : y < 28 = is.pieces t.place t.level y (spot_of_stands p.board y t by) in
      elim kind [
        | inl k ↦ pillbug t (subst (λ (w : ℕ). spot_of p.board w ≡ Some t) (the_pillbug y small k ∙ ap (λ c. piece_of c Pillbug 0) own) by) beside
        | inr k ↦ mosquito t (subst (λ (w : ℕ). spot_of p.board w ≡ Some t) (the_mosquito y small k ∙ ap (λ c. piece_of c Mosquito 0) own) by) beside
      ];
}

-- a colour that is not a side's is the other side's
pub other_colour : (c d : Colour) → is_colour c d ≡ false → c ≡ other_side d
other_colour White White h = absurd (let wrong : true ≡ false = h in cc)
other_colour White Black h = refl
other_colour Black White h = refl
other_colour Black Black h = absurd (let wrong : true ≡ false = h in cc)

-- a piece that there is
pub some_piece : (o : Option ℕ) (P : Type 0) (x : ℕ) → SomeIff o P x → P → o ≡ Some x
some_piece None P x none is = absurd (none is)
some_piece (Some y) P x some is = ap Some some.1

pub after_rest : (p : Position) (m : Move) → (after p m).rest ≡ moved m
unfolding after
after_rest p m = refl

-- Keys

awake_sound : (p : Position) → IsSound p → IsSound (awake p)
awake_sound p h = record {
  board = h.board;
  of_type = h.of_type;
  one_hive = h.one_hive;
  above = h.above;
  least = h.least;
  resting = λ x e. absurd (let wrong : None ≡ Some x = e in cc);
}

pub awake_key : (p : Position) (k : KeyParts) → IsSound p → RestsUntouched p → key (awake p) ≡ k → IsCountKey p k
awake_key p k sound h of = record {
  like = awake p;
  sound = awake_sound p sound;
  of_key = of;
  same_moves = sym (rest_does_not_matter p h);
}

-- keys with the same board and the same turn are one
one_key : (a b : KeyParts) → a.turn ≡ b.turn → IsTrue (same_board a b) → a ≡ b
one_key a b turn same =
    let h = (boards_tested a b).0 same in
    λ i. record { spots = h.spots i; game_type = h.game_type i; side = h.side i; turn = turn i; rest = h.rest i }

-- one key has one board
own_board : (a b : KeyParts) → a ≡ b → IsTrue (same_board a b)
own_board a b e = (boards_tested a b).1 (record {
  spots = ap (λ (k : KeyParts). k.spots) e;
  game_type = ap (λ (k : KeyParts). k.game_type) e;
  side = ap (λ (k : KeyParts). k.side) e;
  rest = ap (λ (k : KeyParts). k.rest) e;
})

-- the test of the boards of two keys with one turn holds exactly if the keys are equal
pub keys_tested : (a b : KeyParts) (tested : Bool) → a.turn ≡ b.turn → tested ≡ same_board a b → IsTrue tested ↔ a ≡ b
keys_tested a b tested turn is = (λ h. one_key a b turn (sym is ∙ h), λ e. is ∙ own_board a b e)

-- what is stored for the key of a position
pub known_moves : (p : Position) (k : KeyParts) (n : ℕ) → IsCountKey p k → HasMoves k n → n ≡ length (moves p)
known_moves p k n h has = sym (has h.like h.sound h.of_key) ∙ ap length h.same_moves

-- what was counted of one position is so of each with its key
pub counted_moves : (p : Position) (k : KeyParts) (n : ℕ) → IsCountKey p k → n ≡ length (moves p) → HasMoves k n
counted_moves p k n h is = λ q other same. ap length (moves-alike q h.like (alike_from q h.like other h.sound (same ∙ sym h.of_key)) ∙ h.same_moves) ∙ sym is
