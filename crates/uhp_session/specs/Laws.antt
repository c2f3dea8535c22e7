-- What holds of every session.
use Rattle.std.specs.Prelude.{◌≡◌, ℕ, ◌≤◌, false, List, [], ◌∷◌, ◌++◌, length, codes, Option, Some, None, Result, Ok, ◌⊎◌}
use Rattle.hive_model.specs.declared.places.Move.{Move}
use Rattle.hive_model.specs.Denotes.{text}
use Rattle.hive_model.specs.Games.{IsGame}
use Rattle.hive_model.specs.Legal.{is_over}
use Rattle.hive_model.specs.Minimax.{IsBest}
use Rattle.hive_model.specs.Repetition.{StandsUnder}
use Rattle.io_edge.specs.Lines.{Line, Text as TextLine, TooLong as LongLine}
use Rattle.uhp_words.specs.declared.command.Command.{Command}
use Rattle.uhp_words.specs.declared.command.Command.TheVariants.{NewGame, Options, OptionGet, OptionSet}
use Rattle.uhp_words.specs.declared.command.CommandFault.{CommandFault}
use Rattle.uhp_words.specs.Reading.{command_of}
use Rattle.uhp_session.specs.Answers.{CurrentGame, SessionState, Answer, Says, Leaves, reached, best_text, after_of, answer, reply, next}
use Rattle.uhp_session.specs.Searches.{asks}

-- The first line of the answer begins with `err ` or with `invalidmove `.
abbrev pub IsRefusal : Answer → Type 0
IsRefusal (Says [] after) = ⊥
IsRefusal (Says (line ∷ lines) after) =
    (rest : List ℕ) × ((line ≡ codes "err " ++ rest) ⊎ (line ≡ codes "invalidmove " ++ rest))
IsRefusal Leaves = ⊥

-- A refusal does not change the session.
abbrev pub RefusalsChangeNothing : Type 0
RefusalsChangeNothing =
    (s : SessionState) (line : Line) (depth : ℕ) → IsRefusal (answer s line depth) → next s line ≡ s

-- The game has at most 5,000 moves, each legal in the position before it, and none of them follows
-- its end under its own rule.
pub record IsHeld (g : CurrentGame) : Type 0 where
  pub legal : IsGame g.game_type g.made
  pub few : length g.made ≤ 5000
  pub stands : StandsUnder g.repetition g.game_type g.made

-- This holds of the game, if one was begun.
abbrev pub HoldsGame : Option CurrentGame → Type 0
HoldsGame None = Unit {0}
HoldsGame (Some g) = IsHeld g

-- A session that holds such a game, or none, does so after every line.
abbrev pub SessionsHoldGames : Type 0
SessionsHoldGames =
    (s : SessionState) (line : Line) → HoldsGame s.game → HoldsGame (next s line).game

-- In a position that is not over, the text that `bestmove` answers is that of a legal move, at
-- every depth from 1 on. It is the first of the moves of greatest value at that depth. A search
-- depends on the position alone, whatever the rule of the game.
abbrev pub BestMovesAreNamed : Type 0
BestMovesAreNamed =
    (g : CurrentGame) (depth : ℕ) → is_over (reached g) ≡ false → 1 ≤ depth
    → (m : Move) × IsBest (reached g) depth m × (best_text g depth ≡ text (reached g).board m)

-- a command that shows or sets the options
abbrev pub IsOfOptions : Result Command CommandFault → Type 0
IsOfOptions (Ok Options) = Unit {0}
IsOfOptions (Ok (OptionGet name)) = Unit {0}
IsOfOptions (Ok (OptionSet name value)) = Unit {0}
IsOfOptions _ = ⊥

-- The line is such a command.
abbrev pub AsksOptions : Line → Type 0
AsksOptions (TextLine bytes) = IsOfOptions (command_of bytes)
AsksOptions LongLine = ⊥

-- a command that begins a game
abbrev pub IsNewGame : Result Command CommandFault → Type 0
IsNewGame (Ok (NewGame part)) = Unit {0}
IsNewGame _ = ⊥

-- The line is such a command.
abbrev pub AsksGame : Line → Type 0
AsksGame (TextLine bytes) = IsNewGame (command_of bytes)
AsksGame LongLine = ⊥

-- The values of the options show only in replies to `options`, except that Repetition shows in what
-- `newgame` begins. To every other line, two sessions with the same game give the same reply, and
-- they have the same game afterwards. To `newgame` they do so if their values of Repetition are
-- equal.
abbrev pub OptionsChangeNoAnswer : Type 0
OptionsChangeNoAnswer =
    (s t : SessionState) (line : Line) (depth : ℕ) → s.game ≡ t.game → ¬ AsksOptions line
    → (AsksGame line → s.repetition ≡ t.repetition)
    → (reply s line depth ≡ reply t line depth) × ((next s line).game ≡ (next t line).game)

-- The depth of a search shows only in the reply to the line that asks for it. It shows in no
-- session after a line.
pub record ServesSearches (s : SessionState) (line : Line) (depth other : ℕ) : Type 0 where
  pub reply_same : asks s line ≡ None → reply s line depth ≡ reply s line other
  pub after_same : after_of s (answer s line depth) ≡ next s line

abbrev pub DepthsServeSearches : Type 0
DepthsServeSearches =
    (s : SessionState) (line : Line) (depth other : ℕ) → ServesSearches s line depth other
