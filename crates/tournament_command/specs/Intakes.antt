-- What the lines of the input tell a tournament: the openings, and where games that were played
-- before are handed in, behind an empty line how these ended.
use Rattle.std.specs.Prelude.{ℕ, ◌+◌, ◌++◌, ◌∷◌, [], Bool, ◌&&◌, false, List, codes, drop, length, nat_eq, nat_lt, if◌then◌else◌, Option, Some, None, Result, Ok, Err, slice_get}
use Rattle.std.specs.List.{starts_with}
use Rattle.std.specs.Str.{bytes_eq}
use Rattle.hive_model.specs.declared.pieces.GameType.{GameType}
use Rattle.hive_model.specs.declared.places.Move.{Move}
use Rattle.hive_model.specs.Fields.{type_bytes}
use Rattle.io_edge.specs.Lines.{Line, Text, TooLong as LongLine}
use Rattle.game_text.specs.declared.parsed.Parsed.{Parsed}
use Rattle.command_runs.specs.OneGame.{game_in}
use Rattle.tournament_core.specs.declared.fixtures.Fixture.{Fixture}
use Rattle.tournament_core.specs.declared.fixtures.GameEnd.{GameEnd}
use Rattle.tournament_core.specs.Schedules.{schedule}
use Rattle.cup.specs.Engines.{Engine}
use Rattle.tournament_record.specs.declared.parts.HeadPart.{HeadPart}
use Rattle.tournament_record.specs.Heads.{head_text, other_topic}
use Rattle.tournament_games.specs.Tournaments.{head_of}
use Rattle.tournament_games.specs.Texts.{numbers_text}
use Rattle.tournament_games.specs.Readback.{end_in_text}
use Rattle.tournament_command.specs.declared.format.Format.{Format}
use Rattle.tournament_command.specs.declared.phase.Phase.{Phase}
use Rattle.tournament_command.specs.declared.phase.Phase.TheVariants.{Openings, Head, Game, Verdict, Spoiled}
use Rattle.tournament_command.specs.declared.refused.LineFault.{LineFault}
use Rattle.tournament_command.specs.declared.refused.LineFault.TheVariants.{Bad, Other as OtherHead}
use Rattle.tournament_command.specs.declared.heads.HeadMatch.{HeadMatch}
use Rattle.tournament_command.specs.declared.heads.HeadMatch.TheVariants.{Same, Cut, Other}
use Rattle.tournament_command.specs.Formats.{plan_of, terms_of}

-- Single lines

-- two game types are the same
abbrev pub is_type : GameType → GameType → Bool
is_type t u = bytes_eq (type_bytes t) (type_bytes u)

-- the moves of a game of this type
abbrev pub typed_moves : GameType → Result Parsed (List ℕ) → Option (List Move)
typed_moves t (Err why) = None
typed_moves t (Ok game) = if is_type game.game_type t then Some game.moves else None

-- the moves of the opening that a line is: a game of this type that is not over
abbrev pub opening_in : GameType → Line → Option (List Move)
opening_in t line = typed_moves t (game_in line)

-- no byte stands in the line
abbrev pub is_empty : Line → Bool
is_empty (Text bytes) = bytes_eq bytes []
is_empty LongLine = false

-- the line tells the game with this number and these engines
abbrev pub is_game_line : ℕ → Fixture → Line → Bool
is_game_line number f (Text bytes) =
    starts_with nat_eq bytes (codes "game " ++ numbers_text number f)
is_game_line number f LongLine = false

-- what stands before the ending in the line of a verdict
abbrev pub verdict_front : ℕ → Fixture → List ℕ
verdict_front number f = codes "verdict " ++ numbers_text number f

-- how the game with this number and these engines ended, by the line of its verdict
abbrev pub ended_in : ℕ → Fixture → Line → Option GameEnd
ended_in number f LongLine = None
ended_in number f (Text bytes) =
    if starts_with nat_eq bytes (verdict_front number f)
    then end_in_text (drop (length (verdict_front number f)) bytes)
    else None

-- Heads

-- the head of a tournament of these engines from these openings
abbrev pub head_after : List Engine → Format → List (List Move) → List HeadPart
head_after engines f openings = head_of (terms_of engines f openings)

-- what a line is that is to be this head: the head, its first bytes, or another one
abbrev pub head_match : List HeadPart → List ℕ → HeadMatch
head_match parts bytes =
    if bytes_eq (bytes ++ 10 ∷ []) (head_text parts) then Same
    else if starts_with nat_eq (head_text parts) bytes then Cut
    else Other (other_topic parts (bytes ++ 10 ∷ []))

-- a line is a head, of this tournament or of another one
abbrev pub is_head_line : Line → Bool
is_head_line (Text bytes) = starts_with nat_eq bytes (codes "tournament ")
is_head_line LongLine = false

-- Line by line

-- what was read: how many lines; the openings, and behind them the head of their tournament; how
-- the games that are told ended, in their order; and what the next line is to be
pub record Intake : Type 0 where
  pub lines : ℕ
  pub phase : Phase
  pub head : List HeadPart
  pub openings : List (List Move)
  pub ends : List GameEnd

-- nothing was read
abbrev pub nothing_read : Intake
nothing_read = record { lines = 0; phase = Openings; head = []; openings = []; ends = [] }

-- a further line was read, and this is what the next one is to be
abbrev pub before : Phase → Intake → Intake
before phase i = record {
  lines = i.lines + 1;
  phase = phase;
  head = i.head;
  openings = i.openings;
  ends = i.ends;
}

-- a line is an opening with these moves, or none
abbrev pub with_opening : Intake → Option (List Move) → Result Intake LineFault
with_opening i None = Err (Bad (i.lines + 1))
with_opening i (Some moves) = Ok (record {
  lines = i.lines + 1;
  phase = Openings;
  head = i.head;
  openings = i.openings ++ moves ∷ [];
  ends = i.ends;
})

-- the openings have ended
abbrev pub with_head : List HeadPart → Intake → Intake
with_head parts i = record {
  lines = i.lines + 1;
  phase = Head;
  head = parts;
  openings = i.openings;
  ends = i.ends;
}

-- A line that is to be an opening. There are at most 100,000. Where games are handed in, an empty
-- line ends the openings.
abbrev pub take_opening : List Engine → Format → Intake → Line → Result Intake LineFault
take_opening engines f i line =
    if f.resume && is_empty line then Ok (with_head (head_after engines f i.openings) i)
    else if nat_lt (length i.openings) 100000
    then with_opening i (opening_in f.setup.game_type line)
    else Err (Bad (i.lines + 1))

-- a line that is to be the head, by what it is
abbrev pub with_match : Intake → HeadMatch → Result Intake LineFault
with_match i Same = Ok (before Game i)
with_match i Cut = Ok (before Spoiled i)
with_match i (Other topic) = Err (OtherHead (i.lines + 1) topic)

-- a line that is to be the head
abbrev pub take_head : Intake → Line → Result Intake LineFault
take_head i (Text bytes) = with_match i (head_match i.head bytes)
take_head i LongLine = Err (Bad (i.lines + 1))

-- A line that is to tell the next game. Where all games were told, it is left alone, as the
-- standings are.
abbrev pub take_game : Intake → Line → Option Fixture → Intake
take_game i line None = before Game i
take_game i line (Some f) =
    if is_game_line (length i.ends + 1) f line then before Verdict i else before Spoiled i

-- the same, or the head of another run of the same tournament
abbrev pub take_told : Intake → Line → Option Fixture → Result Intake LineFault
take_told i line next = if is_head_line line then take_head i line else Ok (take_game i line next)

-- the next game ended so, if its verdict is told
abbrev pub with_end : Intake → Option GameEnd → Intake
with_end i None = before Spoiled i
with_end i (Some ended) = record {
  lines = i.lines + 1;
  phase = Game;
  head = i.head;
  openings = i.openings;
  ends = i.ends ++ ended ∷ [];
}

-- a line that is to tell the verdict of the next game
abbrev pub take_verdict : Intake → Line → Option Fixture → Intake
take_verdict i line None = before Spoiled i
take_verdict i line (Some f) = with_end i (ended_in (length i.ends + 1) f line)

-- the game of so many engines that comes behind those that were told
abbrev pub next_fixture : ℕ → Format → Intake → Option Fixture
next_fixture engines f i = slice_get (schedule (plan_of f engines i.openings)) (length i.ends)

-- A further line; or what is wrong with it. A line that does not tell what it is to tell is refused
-- where another one follows; the last line may be cut.
abbrev pub take_as : Phase → List Engine → Format → Intake → Line → Result Intake LineFault
take_as Openings engines f i line = take_opening engines f i line
take_as Head engines f i line = take_head i line
take_as Game engines f i line = take_told i line (next_fixture (length engines) f i)
take_as Verdict engines f i line = Ok (take_verdict i line (next_fixture (length engines) f i))
take_as Spoiled engines f i line = Err (Bad i.lines)

abbrev pub take_line : List Engine → Format → Intake → Line → Result Intake LineFault
take_line engines f i line = take_as i.phase engines f i line

-- what these lines tell, behind what was read before them; or what is wrong with the first of them
-- that is refused
unfoldable pub take_lines
    : List Engine → Format → Result Intake LineFault → List Line → Result Intake LineFault
take_lines engines f (Err fault) ls = Err fault
take_lines engines f (Ok i) [] = Ok i
take_lines engines f (Ok i) (line ∷ ls) = take_lines engines f (take_line engines f i line) ls

-- what the lines tell a tournament of these engines
abbrev pub intake : List Engine → Format → List Line → Result Intake LineFault
intake engines f ls = take_lines engines f (Ok nothing_read) ls
