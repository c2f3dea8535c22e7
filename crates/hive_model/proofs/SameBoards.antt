-- The test of keys with the same board, and the count of the keys that have the board of the last
-- one.
use Rattle.std.proofs.Common.{◌≡◌, suc, ◌-◌, ◌<◌, ◌≤◌, Bool, ◌&&◌, List, [], ◌∷◌, ◌++◌, length, map, refl, sym, ◌∙◌, ap, arith}
use Rattle.std.specs.Prelude.{Some, nat_eq, slice_get, slice_index_or}
use Rattle.std.specs.Option.{option_eq}
use Rattle.std.proofs.lemmas.Option.{slice_get_read}
use lib.Pointwise.{pointwise}
use Rattle.hive_model.specs.declared.places.Move.{Move}
use Rattle.hive_model.specs.contracts.key.SmallSpotPartialEq.TheImpl as small_spot
use Rattle.hive_model.specs.contracts.pieces.ColourPartialEq.TheImpl as colour
use Rattle.hive_model.specs.contracts.pieces.GameTypePartialEq.TheImpl as game
use Rattle.hive_model.specs.Positions.{Position, opening}
use Rattle.hive_model.specs.Games.{after, replay}
use Rattle.hive_model.specs.Keys.{KeyParts, key}
use Rattle.hive_model.specs.SpotNumbers.{number_in}
use Rattle.hive_model.specs.SmallSpots.{small}
use Rattle.hive_model.specs.Repetition.{without_turn, same_board, count_same, count_found, count_last, positions, keys as keys_of, times, SameBoardIsTested, KeysGiveTimes, KeysGrow}
use Rattle.hive_model.proofs.SameKeys.{keys}

-- The test

-- in the order in which the code compares
abbrev pub by_parts : KeyParts → KeyParts → Bool
by_parts a b =
    nat_eq (number_in a.spots) (number_in b.spots)
    && (pointwise small_spot.eq-value.it (map small a.spots) (map small b.spots) && (game.eq-value.it a.game_type b.game_type && (colour.eq-value.it a.side b.side && option_eq nat_eq a.rest b.rest)))

pub board_by_parts : (a b : KeyParts) → by_parts a b ≡ same_board a b
unfolding same_board
board_by_parts a b = refl

pub boards_tested : SameBoardIsTested
unfolding same_board
boards_tested a b = (
  λ h.
      let e = (keys (without_turn a) (without_turn b)).0 h in
      record {
        spots = ap (λ (k : KeyParts). k.spots) e;
        game_type = ap (λ (k : KeyParts). k.game_type) e;
        side = ap (λ (k : KeyParts). k.side) e;
        rest = ap (λ (k : KeyParts). k.rest) e;
      },
  λ h. (keys (without_turn a) (without_turn b)).1 (λ i. record { spots = h.spots i; game_type = h.game_type i; side = h.side i; turn = 0; rest = h.rest i }),
)

-- The last key

pub count_at : (ks : List KeyParts) (k : KeyParts) → slice_get ks (length ks - 1) ≡ Some k → count_same k ks ≡ count_last ks
unfolding count_last
count_at ks k e = sym (ap (λ o. count_found o ks) e)

-- the key that is read last determines how often the last board has occurred
pub last_read : (keys now : List KeyParts) (last : KeyParts) → keys ≡ now → 1 ≤ length now → last ≡ slice_index_or keys (length keys - 1) last → count_same last keys ≡ count_last now
last_read keys now last same some read =
    let size = ap length same in
    let less : length keys - 1 < length keys = omega (arith, some, size) in
    let at : slice_get keys (length keys - 1) ≡ Some last = slice_get_read keys _ (length keys - 1) last refl less read in
    count_at keys last at ∙ ap count_last same

-- The keys of a game's positions

keys_size : (p : Position) (ms : List Move) → length (map key (positions p ms)) ≡ suc (length ms)
keys_size p [] = refl
keys_size p (m ∷ ms) = ap suc (keys_size (after p m) ms)

last_key : (p : Position) (ms : List Move) → slice_get (map key (positions p ms)) (length ms) ≡ Some (key (replay p ms))
last_key p [] = refl
last_key p (m ∷ ms) = last_key (after p m) ms

pub keys_give_times : KeysGiveTimes
unfolding keys_of times
keys_give_times t ms =
    let ks = map key (positions (opening t) ms) in
    let size = keys_size (opening t) ms in
    let at : length ks - 1 ≡ length ms = omega (arith, size) in
    sym (count_at ks (key (replay (opening t) ms)) (ap (slice_get ks) at ∙ last_key (opening t) ms))

keys_more : (p : Position) (ms : List Move) (m : Move) → map key (positions p (ms ++ m ∷ [])) ≡ map key (positions p ms) ++ key (replay p (ms ++ m ∷ [])) ∷ []
keys_more p [] m = refl
keys_more p (k ∷ ms) m = ap (λ (ks : List KeyParts). key p ∷ ks) (keys_more (after p k) ms m)

pub keys_grow : KeysGrow
unfolding keys_of
keys_grow t ms m = keys_more (opening t) ms m
