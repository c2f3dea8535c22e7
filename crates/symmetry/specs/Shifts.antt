-- Keys of positions that are alike, and the shift between them.
use Rattle.std.specs.Prelude.{◌≡◌, ◌↔◌, ℕ, ◌<◌, ◌-ℤ◌, Bool, true, false, ◌&&◌, nat_eq, Option, Some, None, IsTrue, ◌⊎◌, List, [], ◌∷◌, not, if◌then◌else◌}
use Rattle.std.specs.List.{list_all}
use Rattle.hive_model.specs.declared.pieces.GameType.{GameType}
use Rattle.hive_model.specs.Pieces.{is_colour, all_pieces}
use Rattle.hive_model.specs.declared.places.Place.{Place}
use Rattle.hive_model.specs.declared.places.Spot.{Spot}
use Rattle.hive_model.specs.Places.{is_place, origin, IsWithin}
use Rattle.hive_model.specs.Boards.{IsBoard}
use Rattle.hive_model.specs.Positions.{Position}
use Rattle.hive_model.specs.Keys.{KeyParts, key, spot_in}
use Rattle.symmetry.specs.Images.{image, moved_by}
use Rattle.symmetry.specs.Alike.{Alike}

-- Each piece is in the plane: no coordinate exceeds 9,000 in absolute value. This holds in the key
-- of every position.
abbrev pub AreInPlane : KeyParts → Type 0
AreInPlane k = (x : ℕ) (s : Spot) → x < 28 → spot_in k x ≡ Some s → IsWithin 9000 s.place

-- This is the shift by which the positions of two keys are alike. There is none exactly if they are
-- not alike.
abbrev pub IsShift : Option Place → KeyParts → KeyParts → ℕ → Type 0
IsShift o a b s =
    (p r : Position) → IsBoard p.board → IsBoard r.board → a ≡ key p → b ≡ key r → (t : Place)
    → (o ≡ Some t) ↔ Alike p r s t

-- How it is found

-- type, side, resting piece and capped turn are the same
pub record HasSameTurn (a b : KeyParts) : Type 0 where
  pub game_type : b.game_type ≡ a.game_type
  pub side : b.side ≡ a.side
  pub rest : b.rest ≡ a.rest
  pub turn : b.turn ≡ a.turn

-- the second place minus the first
abbrev pub between : Place → Place → Place
between a b = record { q = b.q -ℤ a.q; r = b.r -ℤ a.r }

-- the shift from the image of a place to a spot, if there is one
abbrev pub shift_to : ℕ → Place → Option Spot → Option Place
shift_to s q None = None
shift_to s q (Some b) = Some (between (image s q) b.place)

-- A piece in play determines this shift.
pub record AsksFor (a b : KeyParts) (s : ℕ) (o : Option Place) : Type 0 where
  pub piece : ℕ
  pub is_piece : piece < 28
  pub spot : Spot
  pub stands : spot_in a piece ≡ Some spot
  pub shift : o ≡ shift_to s spot.place (spot_in b piece)

-- Some piece in play determines this shift, or no piece is in play and the shift is zero.
abbrev pub IsAsked : KeyParts → KeyParts → ℕ → Option Place → Type 0
IsAsked a b s o = AsksFor a b s o ⊎ (((x : ℕ) → x < 28 → spot_in a x ≡ None) × (o ≡ Some origin))

-- the symmetry and the shift take the spot to the other one
abbrev pub is_taken : ℕ → Place → Option Spot → Option Spot → Bool
is_taken s t None None = true
is_taken s t None (Some b) = false
is_taken s t (Some a) None = false
is_taken s t (Some a) (Some b) = nat_eq a.level b.level && is_place (moved_by s t a.place) b.place

-- they do so for the spot of each piece
abbrev pub AreTaken : ℕ → Place → KeyParts → KeyParts → Type 0
AreTaken s t a b = (x : ℕ) → x < 28 → IsTrue (is_taken s t (spot_in a x) (spot_in b x))

-- The test of it

abbrev pub same_bool : Bool → Bool → Bool
same_bool true b = b
same_bool false b = not b

abbrev pub is_type : GameType → GameType → Bool
is_type a b =
    same_bool a.mosquito b.mosquito && (same_bool a.ladybug b.ladybug
    && same_bool a.pillbug b.pillbug)

abbrev pub is_rest : Option ℕ → Option ℕ → Bool
is_rest None None = true
is_rest None (Some y) = false
is_rest (Some x) None = false
is_rest (Some x) (Some y) = nat_eq x y

abbrev pub has_same_turn : KeyParts → KeyParts → Bool
has_same_turn a b =
    is_type b.game_type a.game_type && (is_colour b.side a.side
    && (is_rest b.rest a.rest && nat_eq b.turn a.turn))

abbrev pub asked_by : ℕ → Option Spot → Option Spot → Option Place → Option Place
asked_by s None o later = later
asked_by s (Some u) o later = shift_to s u.place o

-- The shift that the first of these pieces in play determines.
abbrev pub asked_among : ℕ → KeyParts → KeyParts → List ℕ → Option Place
asked_among s a b [] = Some origin
asked_among s a b (x ∷ xs) = asked_by s (spot_in a x) (spot_in b x) (asked_among s a b xs)

abbrev pub are_taken : ℕ → Place → KeyParts → KeyParts → Bool
are_taken s t a b = list_all (λ x. is_taken s t (spot_in a x) (spot_in b x)) all_pieces

abbrev pub if_taken : ℕ → KeyParts → KeyParts → Option Place → Option Place
if_taken s a b None = None
if_taken s a b (Some t) = if are_taken s t a b then Some t else None

-- the shift between two keys by a symmetry, if there is one
unfoldable pub shift_between : KeyParts → KeyParts → ℕ → Option Place
shift_between a b s =
    if has_same_turn a b then if_taken s a b (asked_among s a b all_pieces) else None
