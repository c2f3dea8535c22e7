-- The command that a line is, as a function that computes.
use Rattle.std.specs.Prelude.{ℕ, List, [], ◌∷◌, codes, Option, Some, None, Result, Ok, Err, if◌then◌else◌}
use Rattle.std.specs.Str.{bytes_eq}
use Rattle.move_text.specs.Readers.{number_at, time_at}
use Rattle.uhp_words.specs.declared.command.Command.{Command}
use Rattle.uhp_words.specs.declared.command.Command.TheVariants.{Info, NewGame, Play, Pass, ValidMoves, BestDepth, BestTime, Undo, Options, OptionGet, OptionSet, Exit}
use Rattle.uhp_words.specs.declared.command.CommandFault.{CommandFault}
use Rattle.uhp_words.specs.declared.command.CommandFault.TheVariants.{Unknown, Arguments}
use Rattle.uhp_words.specs.declared.verb.Verb.{Verb}
use Rattle.uhp_words.specs.declared.verb.Verb.TheVariants.{Info as InfoWord, NewGame as NewGameWord, Play as PlayWord, Pass as PassWord, ValidMoves as ValidMovesWord, BestMove as BestMoveWord, Undo as UndoWord, Options as OptionsWord, Exit as ExitWord}
use Rattle.uhp_words.specs.Spaces.{after_spaces, before_spaces, first_word, rest_of, is_word}
use Rattle.uhp_words.specs.Spans.{span_of}
use Rattle.uhp_words.specs.Verbs.{verb_at}

-- a command that takes no arguments
abbrev pub alone : Command → List ℕ → Option Command
alone command [] = Some command
alone command (b ∷ bs) = None

-- The text is the line without its final spaces, here and below. A rest is a suffix of it.
abbrev pub play_of : List ℕ → List ℕ → Option Command
play_of text [] = None
play_of text (b ∷ bs) = Some (Play (span_of text (b ∷ bs) (b ∷ bs)))

abbrev pub depth_of : Option ℕ → Option Command
depth_of None = None
depth_of (Some depth) = Some (BestDepth depth)

abbrev pub time_of : Option ℕ → Option Command
time_of None = None
time_of (Some budget) = Some (BestTime budget)

abbrev pub plies_of : Option ℕ → Option Command
plies_of None = None
plies_of (Some plies) = Some (Undo plies)

-- how deep or how long to search
abbrev pub limit_of : List ℕ → List ℕ → Option Command
limit_of word text =
    if bytes_eq word (codes "depth") then depth_of (number_at text 1 64) else
    if bytes_eq word (codes "time") then time_of (time_at text) else None

-- how many plies to undo; one if no number is given
abbrev pub undo_of : List ℕ → Option Command
undo_of [] = Some (Undo 1)
undo_of (b ∷ bs) = plies_of (number_at (b ∷ bs) 1 999999999)

abbrev pub get_of : List ℕ → List ℕ → Option Command
get_of text name = if is_word name then Some (OptionGet (span_of text name name)) else None

abbrev pub set_of : List ℕ → List ℕ → Option Command
set_of text both =
    if is_word (rest_of both)
    then Some (OptionSet (span_of text both (first_word both))
    (span_of text (rest_of both) (rest_of both))) else None

abbrev pub option_of : List ℕ → List ℕ → List ℕ → Option Command
option_of text word more =
    if bytes_eq word (codes "get") then get_of text more else
    if bytes_eq word (codes "set") then set_of text more else None

-- what to do with the options; list them if nothing else is asked
abbrev pub options_of : List ℕ → List ℕ → Option Command
options_of text [] = Some Options
options_of text (b ∷ bs) = option_of text (first_word (b ∷ bs)) (rest_of (b ∷ bs))

-- the command of a first word and the rest of the line
abbrev pub arguments_of : List ℕ → Verb → List ℕ → Option Command
arguments_of text InfoWord rest = alone Info rest
arguments_of text NewGameWord rest = Some (NewGame (span_of text rest rest))
arguments_of text PlayWord rest = play_of text rest
arguments_of text PassWord rest = alone Pass rest
arguments_of text ValidMovesWord rest = alone ValidMoves rest
arguments_of text BestMoveWord rest = limit_of (first_word rest) (rest_of rest)
arguments_of text UndoWord rest = undo_of rest
arguments_of text OptionsWord rest = options_of text rest
arguments_of text ExitWord rest = alone Exit rest

abbrev pub or_wrong : Option Command → Result Command CommandFault
or_wrong None = Err Arguments
or_wrong (Some command) = Ok command

abbrev pub by_verb : List ℕ → Option Verb → List ℕ → Result Command CommandFault
by_verb text None rest = Err Unknown
by_verb text (Some verb) rest = or_wrong (arguments_of text verb rest)

-- the command that a line is
unfoldable pub command_of : List ℕ → Result Command CommandFault
command_of line =
    let text = before_spaces line in
    let words = after_spaces text in
    by_verb text (verb_at (first_word words)) (rest_of words)
