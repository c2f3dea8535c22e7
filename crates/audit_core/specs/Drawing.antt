-- How the moves of an audited game are drawn.
use Rattle.std.specs.Prelude.{ℕ, ◌+◌, ◌/◌, ◌%◌, ◌^◌, Bool, true, false, not, ◌&&◌, ◌||◌, nat_eq, List, [], ◌∷◌, Option, Some, None, if◌then◌else◌}
use Rattle.std.specs.List.{filter, list_any}
use Rattle.hive_model.specs.declared.pieces.GameType.{GameType}
use Rattle.hive_model.specs.declared.pieces.Colour.{Colour}
use Rattle.hive_model.specs.declared.pieces.Colour.TheVariants.{White, Black}
use Rattle.hive_model.specs.declared.pieces.Kind.TheVariants.{Mosquito}
use Rattle.hive_model.specs.declared.places.Place.{Place}
use Rattle.hive_model.specs.declared.places.Spot.{Spot}
use Rattle.hive_model.specs.declared.places.Move.{Move}
use Rattle.hive_model.specs.declared.places.Move.TheVariants.{Pass, To}
use Rattle.hive_model.specs.Pieces.{kind_of, colour_of, is_kind, is_colour, queen_of}
use Rattle.hive_model.specs.Places.{dirs, is_place, step}
use Rattle.hive_model.specs.Boards.{is_in_play, is_occupied, spot_of, top_at}
use Rattle.hive_model.specs.Positions.{Position}
use Rattle.hive_model.specs.Legal.{moves}
use Rattle.grow_game.specs.Growing.{seeded, word, next_state, drawn}
use Rattle.audit_core.specs.Judging.{has_move}

-- The pass and a move of a mosquito are rare. So are a throw (a move of a piece of the other side)
-- and a climb (a move onto a piece).
abbrev pub is_rare : Position → Move → Bool
is_rare p Pass = true
is_rare p (To x q) =
    is_kind (kind_of x) Mosquito || (not (is_colour (colour_of x) p.side) || is_occupied p.board q)

-- a piece of this colour, if there is a piece
abbrev pub is_of : Colour → Option ℕ → Bool
is_of c None = false
is_of c (Some x) = is_colour (colour_of x) c

-- A place is one of the six neighbours of another.
abbrev pub is_round : Place → Place → Bool
is_round p q = list_any (λ d. is_place (step p d) q) dirs

-- A place is beside a piece, if the piece is on the board.
abbrev pub is_beside : Option Spot → Place → Bool
is_beside None q = false
is_beside (Some s) q = is_round s.place q

-- White closes in at a place: a black piece is on top there, or it is beside black's queen.
abbrev pub closes_in : Position → Place → Bool
closes_in p q = is_of Black (top_at p.board q) || is_beside (spot_of p.board (queen_of Black)) q

-- These moves are sought in a siege: the pass, each move of white that closes in, and each move of
-- black with a piece that is on the board.
abbrev pub is_sought : Position → Move → Bool
is_sought p Pass = true
is_sought p (To x q) = if is_colour p.side White then closes_in p q else is_in_play p.board x

-- the moves that a game prefers: in a siege the sought ones, and otherwise the rare ones
abbrev pub is_wanted : Bool → Position → Move → Bool
is_wanted true p m = is_sought p m
is_wanted false p m = is_rare p m

-- the legal moves that the game prefers
abbrev pub wanted_moves : Bool → Position → List Move
wanted_moves siege p = filter (is_wanted siege p) (moves p)

-- If there are preferred moves, one of them is drawn: always in a siege, and otherwise if a word is
-- even. In all other cases one of all moves is drawn.
abbrev pub picked_from : Bool → ℕ → List Move → List Move → List Move
picked_from siege w [] all = all
picked_from siege w (m ∷ ms) all = if siege || nat_eq (w % 2) 0 then m ∷ ms else all

-- Two words are drawn: the first chooses the list, the second the move on it.
abbrev pub drawn_of : Bool → ℕ → Position → Option Move
drawn_of siege state p =
    drawn (word (next_state state))
    (picked_from siege (word state) (wanted_moves siege p) (moves p))

-- the generator after both
abbrev pub state_after : ℕ → ℕ
state_after state = next_state (next_state state)

-- the moves that were legal in an earlier position and are not legal now
abbrev pub stale_moves : Position → Position → List Move
stale_moves before now = filter (λ m. not (has_move (moves now) m)) (moves before)

-- A word draws one of them, if there is one.
abbrev pub tried_of : ℕ → Position → Position → Option Move
tried_of state before now = drawn (word state) (stale_moves before now)

-- how many plies of a game are taken back at its end: from 1 to all of them, by a word
abbrev pub undone_of : ℕ → ℕ → ℕ
undone_of state plies = word state % plies + 1

-- a game's own seed: that of the audit plus the number of games before it, modulo 2^64
abbrev pub own_seed : ℕ → ℕ → ℕ
own_seed seed number = (seed + number) % 2 ^ 64

-- the generator at the start of a game
abbrev pub state_of : ℕ → ℕ → ℕ
state_of seed number = seeded (own_seed seed number)

-- A game is a siege if an eighth of its own seed, rounded down, is odd.
abbrev pub is_siege : ℕ → ℕ → Bool
is_siege seed number = nat_eq (own_seed seed number / 8 % 2) 1

-- The type of a game, by the number of games before it. It is the one that was asked for, if any.
-- Otherwise each of the eight comes in turn, without what the engine does not play.
abbrev pub type_of : Option GameType → GameType → ℕ → GameType
type_of (Some t) plays number = t
type_of None plays number = record {
  mosquito = plays.mosquito && nat_eq (number % 2) 1;
  ladybug = plays.ladybug && nat_eq (number / 2 % 2) 1;
  pillbug = plays.pillbug && nat_eq (number / 4 % 2) 1;
}
