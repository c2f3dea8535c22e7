-- `==` of keys holds exactly if they are equal.
use Rattle.std.proofs.Common.{◌≡◌, Bool, true, List, [], ◌∷◌, Option, None, Some, map, rules, ap, subst, nat_eq, refl, sym, ◌∙◌, ◌&&◌}
use Rattle.std.proofs.lemmas.Bool.{and_parts}
use lib.Pointwise.{pointwise, pointwise_decides}
use Rattle.std.specs.Option.{option_eq}
use Rattle.hive_model.specs.Keys.{KeyParts}
use Rattle.hive_model.specs.declared.places.Spot.{Spot}
use Rattle.hive_model.specs.contracts.key.SmallSpotPartialEq.TheImpl as small_spot
use Rattle.hive_model.specs.contracts.pieces.ColourPartialEq.TheImpl as colour
use Rattle.hive_model.specs.contracts.pieces.GameTypePartialEq.TheImpl as game
use Rattle.hive_model.specs.SameKeys.{same_key}
use Rattle.hive_model.specs.SameSpots.{Decides, options}
use Rattle.hive_model.specs.SpotNumbers.{number_in}
use Rattle.hive_model.specs.SmallSpots.{small, large}

colours : Decides colour.eq-value.it
colours p q = (search rules, search rules)

games : Decides game.eq-value.it
games p q = (search rules, search rules)

numbers : Decides nat_eq
numbers p q = (search rules, search rules)

smalls : Decides small_spot.eq-value.it
smalls p q = (search rules, search rules)

-- a spot is the same again
large_small : (o : Option Spot) → large (small o) ≡ o
large_small None = refl
large_small (Some s) = refl

pub all_large_small : (os : List (Option Spot)) → map large (map small os) ≡ os
all_large_small [] = refl
all_large_small (o ∷ os) = λ i. large_small o i ∷ all_large_small os i

both : {a b : Bool} → a ≡ true → b ≡ true → (a && b) ≡ true
both x y = λ i. x i && y i

-- the six parts of it
module _ (a b : KeyParts) where
  on_number : Bool
  on_number = nat_eq (number_in a.spots) (number_in b.spots)

  on_spots : Bool
  on_spots = pointwise small_spot.eq-value.it (map small a.spots) (map small b.spots)

  on_game : Bool
  on_game = game.eq-value.it a.game_type b.game_type

  on_side : Bool
  on_side = colour.eq-value.it a.side b.side

  on_turn : Bool
  on_turn = nat_eq a.turn b.turn

  on_rest : Bool
  on_rest = option_eq nat_eq a.rest b.rest

  parts : same_key a b ≡ (on_number && (on_spots && (on_game && (on_side && (on_turn && on_rest)))))
  unfolding on_number on_spots on_game on_side on_turn on_rest
  parts = refl

  same_spots : on_spots ≡ true → a.spots ≡ b.spots
  unfolding on_spots
  same_spots e = sym (all_large_small a.spots) ∙ ap (map large) ((pointwise_decides smalls (map small a.spots) (map small b.spots)).0 e) ∙ all_large_small b.spots

pub keys : Decides same_key
unfolding on_number on_spots on_game on_side on_turn on_rest
keys a b = (
  λ e.
      let n = and_parts (on_number a b) _ (sym (parts a b) ∙ e) in
      let p = and_parts (on_spots a b) _ n.1 in
      let q = and_parts (on_game a b) _ p.1 in
      let r = and_parts (on_side a b) _ q.1 in
      let s = and_parts (on_turn a b) _ r.1 in
      λ i. record {
        spots = same_spots a b p.0 i;
        game_type = (games a.game_type b.game_type).0 q.0 i;
        side = (colours a.side b.side).0 r.0 i;
        turn = (numbers a.turn b.turn).0 s.0 i;
        rest = (options numbers a.rest b.rest).0 s.1 i;
      },
  λ e. subst (λ c. same_key a c ≡ true) e (itself a),
)
  where
    itself : (c : KeyParts) → same_key c c ≡ true
    itself c =
        parts c c ∙ both ((numbers (number_in c.spots) (number_in c.spots)).1 refl)
        (both ((pointwise_decides smalls (map small c.spots) (map small c.spots)).1 refl)
        (both ((games c.game_type c.game_type).1 refl) (both ((colours c.side c.side).1 refl)
        (both ((numbers c.turn c.turn).1 refl) ((options numbers c.rest c.rest).1 refl)))))
