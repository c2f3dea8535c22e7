-- Euler's number and marks of the pieces on top of separating places, updated as a board changes.
use Rattle.std.specs.Prelude.{◌≡◌, ◌≢◌, ◌↔◌, ◌⊎◌, ℕ, ◌<◌, ℤ, Bool, true, false, List, Some, IsTrue}
use Rattle.hive_model.specs.declared.places.Place.{Place}
use Rattle.hive_model.specs.declared.places.Dir.{Dir}
use Rattle.hive_model.specs.Lists.{IsOn}
use Rattle.hive_model.specs.Places.{step, IsOnTheMap}
use Rattle.hive_model.specs.Boards.{Stacks, IsBoard, StandsAt, is_occupied, is_on_top, top_at, put}
use Rattle.hive_model.specs.Hive.{OneHive, IsSeparating}
use Rattle.arcs.specs.Masks.{how_many}
use Rattle.one_hive.specs.Visits.{IsSet}
use Rattle.one_hive.specs.Separating.{MarksSeparating}
use Rattle.hive_model.specs.Neighbours.{ring, ring_mask}
use Rattle.euler.specs.Euler.{euler_number}
use Rattle.cut_keeper.specs.Rings.{is_suspect}

-- Marked are exactly the pieces that are on top of their places.
abbrev pub MarksTops : Stacks → List Bool → Type 0
MarksTops b tops = (x : ℕ) → IsSet tops x ↔ IsTrue (is_on_top b x)

-- Of the pieces on the board, covered or not, exactly those are marked that stand on another piece.
abbrev pub MarksHigh : Stacks → List Bool → Type 0
MarksHigh b high =
    (x : ℕ) (p : Place) (level : ℕ) → StandsAt b x p level → IsSet high x ↔ (0 < level)

-- a keeper: a number, and three marks for each piece
pub record Kept : Type 0 where
  pub number : ℤ
  pub marks : List Bool
  pub tops : List Bool
  pub high : List Bool

-- The keeper stands for this board. Its number is Euler's number of the board. Its marks are the
-- pieces on top of separating places, the pieces on top of any place, and the pieces that stand on
-- others.
abbrev pub Keeps : Stacks → Kept → Type 0
Keeps b k =
    (k.number ≡ euler_number b) × MarksSeparating b k.marks × MarksTops b k.tops
    × MarksHigh b k.high

-- What stands like this stood for a sound board that is one hive. Since then the piece was put on
-- top of the place, and the board is still one hive.
pub record GrownBy (Stood : Stacks → Type 0) (b : Stacks) (x : ℕ) (p : Place) : Type 0 where
  pub before : Stacks
  pub sound : IsBoard before
  pub one_hive : OneHive before
  pub stood : Stood before
  pub made : b ≡ put before x p
  pub still : OneHive b

-- The same after the piece was taken from the top of the place.
pub record ShrunkBy (Stood : Stacks → Type 0) (b : Stacks) (x : ℕ) (p : Place) : Type 0 where
  pub before : Stacks
  pub sound : IsBoard before
  pub one_hive : OneHive before
  pub stood : Stood before
  pub made : before ≡ put b x p
  pub still : OneHive b

-- This is how a keeper can be out of date.
abbrev pub Grown : Kept → Stacks → ℕ → Place → Type 0
Grown k = GrownBy (λ b. Keeps b k)

abbrev pub Shrunk : Kept → Stacks → ℕ → Place → Type 0
Shrunk k = ShrunkBy (λ b. Keeps b k)

-- The same for marks.
abbrev pub MarksGrown : List Bool → Stacks → ℕ → Place → Type 0
MarksGrown marks = GrownBy (λ b. MarksSeparating b marks)

abbrev pub MarksShrunk : List Bool → Stacks → ℕ → Place → Type 0
MarksShrunk marks = ShrunkBy (λ b. MarksSeparating b marks)

abbrev pub TopsGrown : List Bool → Stacks → ℕ → Place → Type 0
TopsGrown tops = GrownBy (λ b. MarksTops b tops)

abbrev pub TopsShrunk : List Bool → Stacks → ℕ → Place → Type 0
TopsShrunk tops = ShrunkBy (λ b. MarksTops b tops)

abbrev pub HighGrown : List Bool → Stacks → ℕ → Place → Type 0
HighGrown high = GrownBy (λ b. MarksHigh b high)

-- While marks are being corrected

-- The piece on top of the place is marked exactly if the place is separating.
abbrev pub Right : Stacks → List Bool → Place → Type 0
Right b marks p = (x : ℕ) → top_at b p ≡ Some x → IsSet marks x ↔ IsSeparating b p

-- The mark there can be wrong only if it has this value: marked, or not marked.
abbrev pub HalfRight : Stacks → List Bool → Place → Bool → Type 0
HalfRight b marks p true = (x : ℕ) → top_at b p ≡ Some x → IsSeparating b p → IsSet marks x
HalfRight b marks p false = (x : ℕ) → top_at b p ≡ Some x → IsSet marks x → IsSeparating b p

-- The board is sound and one hive, the place is on the map, and this is the mask of its occupied
-- neighbours.
pub record HasMask (b : Stacks) (p : Place) (m : ℕ) : Type 0 where
  pub sound : IsBoard b
  pub one_hive : OneHive b
  pub within : IsOnTheMap p
  pub mask : m ≡ ring_mask (ring (is_occupied b) p)

-- the number of suspects in these directions
abbrev pub suspects : Stacks → Place → List Dir → ℕ
suspects b p ds = how_many (is_suspect (ring (is_occupied b) p)) ds

-- Each place is right, or it is half right and a suspect in one of these directions.
abbrev pub Pending : Stacks → Place → Bool → List Dir → List Bool → Type 0
Pending b p doubted ds marks =
    (q : Place) → Right b marks q ⊎ ((d : Dir) × IsOn ds d × (step p d ≡ q)
    × (is_suspect (ring (is_occupied b) p) d ≡ true) × HalfRight b marks q doubted)

-- each place but one is right
abbrev pub RightBut : Stacks → Place → List Bool → Type 0
RightBut b n marks = (q : Place) → q ≢ n → Right b marks q
