-- The lines of a tournament: two for each game, and one for each engine of the standings.
use Rattle.std.specs.Prelude.{ℕ, false, true, List, [], ◌∷◌, ◌++◌, Option, Some, None, codes, decimal, map}
use Rattle.hive_model.specs.declared.pieces.Colour.{Colour}
use Rattle.hive_model.specs.declared.places.Move.{Move}
use Rattle.hive_model.specs.Pieces.{other_side}
use Rattle.hive_model.specs.Strings.{string_under}
use Rattle.match_core.specs.declared.setup.Setup.{Setup}
use Rattle.match_core.specs.declared.verdict.Verdict.{Verdict}
use Rattle.match_core.specs.declared.verdict.Verdict.TheVariants.{Rules, Limit, Forfeit}
use Rattle.match_core.specs.MatchState.{MatchState}
use Rattle.match_command.specs.Texts.{shown, side_text, ending_text}
use Rattle.cup.specs.Cup.{state_winner}
use Rattle.cup.specs.Engines.{Engine}
use Rattle.cup_command.specs.Texts.{text_of}
use Rattle.tournament_core.specs.declared.fixtures.Fixture.{Fixture}
use Rattle.tournament_core.specs.declared.fixtures.GameEnd.{GameEnd}
use Rattle.tournament_core.specs.declared.standing.Standing.{Standing as Place}
use Rattle.tournament_games.specs.declared.outcome.ToldGame.{ToldGame}

-- Games

-- the number of a game, that of white's engine and that of black's, each with a space (32)
abbrev pub numbers_text : ℕ → Fixture → List ℕ
numbers_text number f =
    decimal number ++ 32 ∷ (decimal f.white ++ 32 ∷ (decimal f.black ++ 32 ∷ []))

-- the line of a game: its numbers and its game string, with the outcome under the setup's rule for
-- its state, with an LF (10)
abbrev pub game_line : Setup → ℕ → Fixture → List Move → List ℕ
game_line setup number f moves =
    codes "game " ++ (numbers_text number f
    ++ (string_under setup.repetition setup.game_type moves ++ 10 ∷ []))

-- the line of a verdict: the game's numbers and how it ended, with an LF (10)
abbrev pub verdict_line : ℕ → Fixture → List ℕ → List ℕ
verdict_line number f ending = codes "verdict " ++ (numbers_text number f ++ (ending ++ 10 ∷ []))

-- the two lines of a game
abbrev pub game_text : Setup → ℕ → Fixture → List Move → List ℕ → List ℕ
game_text setup number f moves ending =
    game_line setup number f moves ++ verdict_line number f ending

-- the verdict of a game for which this side's program could not be started
abbrev pub absence_text : Colour → List ℕ
absence_text side = codes "forfeit " ++ (side_text side ++ codes " nostart")

-- How games end

-- neither side won
abbrev pub drawn : GameEnd
drawn = record { winner = None; forfeited = false }

-- a side won by the rules
abbrev pub won_by : Colour → GameEnd
won_by side = record { winner = Some side; forfeited = false }

-- a side forfeited, and the other one won
abbrev pub forfeited_by : Colour → GameEnd
forfeited_by side = record { winner = Some (other_side side); forfeited = true }

-- how a match ended
abbrev pub end_by : Verdict → GameEnd
end_by (Rules s) = record { winner = state_winner s; forfeited = false }
end_by Limit = drawn
end_by (Forfeit side cause) = forfeited_by side

-- the same, if there is a verdict; a match that is not over was won by neither side
abbrev pub end_in : Option Verdict → GameEnd
end_in None = drawn
end_in (Some v) = end_by v

-- the outcome of a game with a match in this state at its end
abbrev pub match_outcome : Setup → ℕ → Fixture → MatchState → ToldGame
match_outcome setup number f t = record {
  text = game_text setup number f t.moves (ending_text setup t.verdict);
  ended = end_in t.verdict;
}

-- the outcome of a game for which this side's program could not be started: its opening, and the
-- forfeit
abbrev pub absence_outcome : Setup → ℕ → Fixture → List Move → Colour → ToldGame
absence_outcome setup number f begin side = record {
  text = game_text setup number f begin (absence_text side);
  ended = forfeited_by side;
}

-- Standings

-- how many games an engine won, drew, lost, and lost by forfeit, each number after a word, with an
-- LF (10)
abbrev pub ends_text : Place → List ℕ
ends_text place =
    codes " wins " ++ (decimal place.wins
    ++ (codes " draws " ++ (decimal place.draws
    ++ (codes " losses " ++ (decimal place.losses
    ++ (codes " forfeits " ++ (decimal place.forfeits ++ 10 ∷ [])))))))

-- the line of an engine: its program's text, each byte outside 32 to 126 as a question mark, its
-- points, the number of its games, and how they ended
abbrev pub standing_text : List Engine → Place → List ℕ
standing_text engines place =
    map shown (text_of engines place.engine)
    ++ (codes " points " ++ (decimal place.points
    ++ (codes " games " ++ (decimal place.games ++ ends_text place))))
