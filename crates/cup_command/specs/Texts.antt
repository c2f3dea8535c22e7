-- The lines that report a cup: two for each game, and then one for each engine of the standings.
use Rattle.std.specs.Prelude.{ℕ, ◌-◌, List, [], ◌∷◌, ◌++◌, Option, Some, None, codes, decimal, length, map, slice_get}
use Rattle.std.specs.List.{flat_map, zip}
use Rattle.hive_model.specs.Strings.{string_under}
use Rattle.match_core.specs.declared.setup.Setup.{Setup}
use Rattle.match_core.specs.MatchState.{MatchState}
use Rattle.match_command.specs.Texts.{shown, ending_text}
use Rattle.cup.specs.declared.pairing.Pairing.{Pairing}
use Rattle.cup.specs.declared.standing.Standing.{Standing as Place}
use Rattle.cup.specs.Cup.{pairings}
use Rattle.cup.specs.Engines.{Engine}

-- the text of a program; nothing if there is no program
abbrev pub text_in : Option Engine → List ℕ
text_in None = []
text_in (Some engine) = engine.text

-- the text of the engine with this number, counted from 1
abbrev pub text_of : List Engine → ℕ → List ℕ
text_of engines number = text_in (slice_get engines (number - 1))

-- the numbers of white's engine and of black's, each with a space (32)
abbrev pub numbers_text : Pairing → List ℕ
numbers_text game = decimal game.white ++ 32 ∷ (decimal game.black ++ 32 ∷ [])

-- the line of a game: its numbers and its game string, with the outcome under the setup's rule as
-- its state, with an LF (10)
abbrev pub moves_line : Setup → Pairing → MatchState → List ℕ
moves_line setup game t =
    codes "game " ++ (numbers_text game
    ++ (string_under setup.repetition setup.game_type t.moves ++ 10 ∷ []))

-- the line of a verdict: the game's numbers and the verdict, with an LF (10)
abbrev pub verdict_line : Setup → Pairing → MatchState → List ℕ
verdict_line setup game t =
    codes "verdict " ++ (numbers_text game ++ (ending_text setup t.verdict ++ 10 ∷ []))

-- the two lines that report a game
abbrev pub game_text : Setup → Pairing → MatchState → List ℕ
game_text setup game t = moves_line setup game t ++ verdict_line setup game t

-- the lines of games, each with its state at the end
abbrev pub games_text : Setup → List Pairing → List MatchState → List ℕ
games_text setup games ends = flat_map (λ g. game_text setup g.0 g.1) (zip games ends)

-- The line of an engine: its program's text, its points and the number of its games, with an LF
-- (10). Each byte of the text outside 32 to 126 is a question mark.
abbrev pub standing_text : List Engine → Place → List ℕ
standing_text engines place =
    map shown (text_of engines place.engine)
    ++ (codes " points " ++ (decimal place.points
    ++ (codes " games " ++ (decimal place.games ++ 10 ∷ []))))

-- the whole text of a cup: of all games in their order, and then of the standings
abbrev pub cup_text : Setup → List Engine → List MatchState → List Place → List ℕ
cup_text setup engines ends places =
    games_text setup (pairings (length engines)) ends ++ flat_map (standing_text engines) places
