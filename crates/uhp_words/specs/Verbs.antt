-- The first words of commands.
use Rattle.std.specs.Prelude.{ℕ, List, [], ◌∷◌, codes, Option}
use Rattle.move_text.specs.Tables.{named_by}
use Rattle.uhp_words.specs.declared.verb.Verb.{Verb}
use Rattle.uhp_words.specs.declared.verb.Verb.TheVariants.{Info, NewGame, Play, Pass, ValidMoves, BestMove, Undo, Options, Exit}

-- the word of a command
abbrev pub verb_text : Verb → List ℕ
verb_text Info = codes "info"
verb_text NewGame = codes "newgame"
verb_text Play = codes "play"
verb_text Pass = codes "pass"
verb_text ValidMoves = codes "validmoves"
verb_text BestMove = codes "bestmove"
verb_text Undo = codes "undo"
verb_text Options = codes "options"
verb_text Exit = codes "exit"

abbrev pub verbs : List Verb
verbs = Info ∷ NewGame ∷ Play ∷ Pass ∷ ValidMoves ∷ BestMove ∷ Undo ∷ Options ∷ Exit ∷ []

-- the command that a word names
unfoldable pub verb_at : List ℕ → Option Verb
verb_at = named_by verb_text verbs
