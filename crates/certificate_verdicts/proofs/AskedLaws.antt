-- What holds of a game about which an input asks.
use Rattle.std.proofs.Common.{◌≡◌, ◌≤◌, ℕ, Bool, true, false, List, [], ◌∷◌, length, refl, sym, subst, arith, inl, inr}
use Rattle.std.specs.Prelude.{codes, Result, Ok, Err}
use Rattle.hive_model.specs.declared.pieces.GameType.{GameType}
use Rattle.hive_model.specs.declared.places.Move.{Move}
use Rattle.hive_model.specs.Games.{IsGame}
use Rattle.hive_model.specs.Legal.{is_over}
use Rattle.io_edge.specs.Lines.{Line, Text, TooLong}
use Rattle.hive_model.specs.Strings.{IsGameLine}
use Rattle.game_text.specs.declared.faults.GameFault.{GameFault}
use Rattle.game_text.specs.declared.parsed.Parsed.{Parsed}
use Rattle.game_text.specs.Reading.{game_of}
use Rattle.game_text.proofs.LineLaws.{game_found}
use Rattle.command_runs.specs.OneGame.{and_no_more, asked, game_in, if_open, last_position, open_game}

-- a game of at most 5,000 moves that is not over
pub record IsOpenGame (game : Parsed) : Type 0 where
  pub legal : IsGame game.game_type game.moves
  pub few : length game.moves ≤ 5000
  pub goes_on : is_over (last_position game) ≡ false

pub line-game : (line : List ℕ) (t : GameType) (ms : List Move) → IsGameLine line t ms → IsGame t ms × (length ms ≤ 5000)
line-game line t ms (inl (named, none)) = subst (λ (ns : List Move). IsGame t ns × (length ns ≤ 5000)) (sym none) (tt, omega arith)
line-game line t ms (inr full) = (full.legal, full.few)

if-open : (g game : Parsed) (over : Bool) → IsGame g.game_type g.moves × (length g.moves ≤ 5000) → is_over (last_position g) ≡ over → if_open g ≡ Ok game → IsOpenGame game
if-open g game true is e h = let same : if_open g ≡ Err (codes "game over") = rw e refl in cc
if-open g game false is e h =
    let opened : if_open g ≡ Ok g = rw e refl in
    let same : g ≡ game = cc in
    subst IsOpenGame same (record { legal = is.0; few = is.1; goes_on = e })

open-read : (line : List ℕ) (game : Parsed) (r : Result Parsed GameFault) → game_of line ≡ r → open_game r ≡ Ok game → IsOpenGame game
open-read line game (Ok g) e h = if-open g game (is_over (last_position g)) (line-game line g.game_type g.moves (game_found line g e)) refl h
open-read line game (Err fault) e h = cc

line-read : (line : Line) (game : Parsed) → game_in line ≡ Ok game → IsOpenGame game
unfolding game_in
line-read (Text line) game h = open-read line game (game_of line) refl h
line-read TooLong game h = cc

no-more : (r : Result Parsed (List ℕ)) (others : List Line) (game : Parsed) → and_no_more r others ≡ Ok game → r ≡ Ok game
no-more (Ok g) [] game h = h
no-more (Ok g) (line ∷ others) game h = cc
no-more (Err why) others game h = cc

-- the game about which lines ask has at most 5,000 moves and is not over
pub asked-open : (ls : List Line) (game : Parsed) → asked ls ≡ Ok game → IsOpenGame game
asked-open [] game h = cc
asked-open (line ∷ others) game h = line-read line game (no-more (game_in line) others game h)
