-- Upper bounds of what a piece's moves are worth with no ply left after them.
use Rattle.std.specs.Prelude.{◌≡◌, ℕ, ◌≤ℤ◌, Option, Some, None, IfSome, ⊤}
use Rattle.hive_model.specs.declared.pieces.Colour.{Colour}
use Rattle.hive_model.specs.declared.places.Place.{Place}
use Rattle.hive_model.specs.declared.places.Move.TheVariants.{To}
use Rattle.hive_model.specs.Boards.{Stacks, put, spot_of, without}
use Rattle.hive_model.specs.Hive.{OneHive}
use Rattle.hive_model.specs.Minimax.{reply_value}
use Rattle.hive_model.specs.Pieces.{other_side}
use Rattle.hive_model.specs.Places.{IsWithin}
use Rattle.hive_model.specs.Placement.{Placement}
use Rattle.hive_model.specs.Positions.{Position}
use Rattle.leaf_bounds.specs.Most.{IsAfar}
use Rattle.board_game.specs.declared.reach.Reach.{Reach}
use Rattle.board_game.specs.declared.reach.Placing.{Placing}

-- The piece goes to a place of the plane, and the board is one hive then. From the hand it goes by
-- a placement. Each legal move of a game is such a move.
pub record Goes (p : Position) (x : ℕ) (q : Place) : Type 0 where
  pub within : IsWithin 9000 q
  pub one_hive : OneHive (put (without p.board x) x q)
  pub placed : spot_of p.board x ≡ None → Placement p x q

-- The board is left without the piece, and the side is to move after it. A move of the piece is
-- worth no more than the first number, wherever it goes. It is worth no more than the second if it
-- adds no neighbour to the side's queen.
abbrev pub IsReachWithout : Stacks → Colour → Reach → Type 0
IsReachWithout b side r =
    (p : Position) → without p.board r.piece ≡ b → other_side p.side ≡ side → (q : Place)
    → IsWithin 9000 q → OneHive (put b r.piece q)
    → IfSome r.most (λ v. reply_value p 0 (To r.piece q) ≤ℤ v)
    × (IsAfar b side q → IfSome r.afar (λ v. reply_value p 0 (To r.piece q) ≤ℤ v))

-- the same for the whole board, on which a piece in hand goes by a placement
abbrev pub IsReach : Stacks → Colour → Reach → Type 0
IsReach b side r =
    (p : Position) → p.board ≡ b → other_side p.side ≡ side → (q : Place) → Goes p r.piece q
    → IfSome r.most (λ v. reply_value p 0 (To r.piece q) ≤ℤ v)
    × (IsAfar (without b r.piece) side q
    → IfSome r.afar (λ v. reply_value p 0 (To r.piece q) ≤ℤ v))

-- if a piece was asked for, this is its reach
abbrev pub IsReachFound : Stacks → Colour → Option Reach → Type 0
IsReachFound b side None = ⊤
IsReachFound b side (Some r) = IsReach b side r

-- no placement is worth more than the number, if there is one
abbrev pub IsPlacing : Stacks → Colour → Placing → Type 0
IsPlacing b side t =
    (p : Position) → p.board ≡ b → other_side p.side ≡ side → (x : ℕ) (q : Place)
    → IsWithin 9000 q → Placement p x q
    → IfSome t.most (λ v. reply_value p 0 (To x q) ≤ℤ v)

-- if it was asked for, it is such a bound
abbrev pub IsPlacingFound : Stacks → Colour → Option Placing → Type 0
IsPlacingFound b side None = ⊤
IsPlacingFound b side (Some t) = IsPlacing b side t
