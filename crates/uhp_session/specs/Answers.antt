-- What a session answers to a line, and its state afterwards: the table of answers and refusals.
use Rattle.std.specs.Prelude.{◌≡◌, ℕ, ◌-◌, ◌≤◌, nat_eq, nat_lt, nat_le, Bool, true, false, List, [], ◌∷◌, ◌++◌, length, map, take, codes, decimal, Option, Some, None, Result, Ok, Err, IfOk, OnOk, OnErr, if◌then◌else◌}
use Rattle.std.specs.Str.{bytes_eq}
use Rattle.std.specs.declared.alloc.AllocError.{AllocError}
use Rattle.hive_model.specs.declared.pieces.GameType.{GameType}
use Rattle.hive_model.specs.declared.places.Move.{Move}
use Rattle.hive_model.specs.Boards.{Stacks}
use Rattle.hive_model.specs.Positions.{Position, opening}
use Rattle.hive_model.specs.Legal.{moves, is_over_state}
use Rattle.hive_model.specs.Minimax.{best}
use Rattle.hive_model.specs.Games.{replay}
use Rattle.hive_model.specs.Histories.{is_listed}
use Rattle.hive_model.specs.Texts.{piece_text}
use Rattle.hive_model.specs.Denotes.{text}
use Rattle.hive_model.specs.Repetition.{outcome_under}
use Rattle.hive_model.specs.Strings.{string_under, joined_on}
use Rattle.io_edge.specs.Lines.{Line, Text as TextLine, TooLong as LongLine, greatest_line}
use Rattle.move_text.specs.declared.faults.MoveFault.{MoveFault}
use Rattle.move_text.specs.declared.faults.MoveFault.TheVariants.{NotAMove, NoSuchPiece, NotInPlay}
use Rattle.move_text.specs.Moves.{move_of}
use Rattle.game_text.specs.declared.faults.GameFault.{GameFault}
use Rattle.game_text.specs.declared.faults.GameFault.TheVariants.{Malformed, TooLong as TooManyPlies, BadMove, IllegalMove, OtherState, OtherTurn, Memory}
use Rattle.game_text.specs.declared.parsed.Parsed.{Parsed}
use Rattle.game_text.specs.Reading.{game_under}
use Rattle.command_runs.specs.Reasons.{reason}
use Rattle.uhp_words.specs.declared.command.Command.{Command}
use Rattle.uhp_words.specs.declared.command.Command.TheVariants.{Info, NewGame, Play, Pass, ValidMoves, BestDepth, BestTime, Undo, Options, OptionGet, OptionSet, Exit}
use Rattle.uhp_words.specs.declared.command.CommandFault.{CommandFault}
use Rattle.uhp_words.specs.declared.command.CommandFault.TheVariants.{Unknown, Arguments}
use Rattle.uhp_words.specs.Reading.{command_of}
use Rattle.uhp_words.specs.Spans.{bytes_at}
use Rattle.move_text.specs.Readers.{number_at}
use Rattle.uhp_session.specs.declared.lines.LineIn.{LineIn}
use Rattle.uhp_session.specs.declared.lines.LineIn.TheVariants.{Text, TooLong}
use Rattle.uhp_session.specs.declared.lines.Reply.{Reply}
use Rattle.uhp_session.specs.declared.options.Setting.{Setting}
use Rattle.uhp_session.specs.declared.options.Setting.TheVariants.{Table, Workers, Repetition}
use Rattle.uhp_session.specs.declared.options.SettingFault.{SettingFault}
use Rattle.uhp_session.specs.declared.options.SettingFault.TheVariants.{NoSuchOption, OutOfRange}
use Rattle.uhp_session.specs.declared.lines.Reply.TheVariants.{Text as ReplyText, Exit as ReplyExit}

-- Sessions

-- a game that was begun: its type, its moves, and whether the rule of third repetition is on in it
pub record CurrentGame : Type 0 where
  pub game_type : GameType
  pub made : List Move
  pub repetition : Bool

-- A session: a game or none, and the values of the options Table, Workers and Repetition. The value
-- true of the last is written 1.
pub record SessionState : Type 0 where
  pub game : Option CurrentGame
  pub table : ℕ
  pub workers : ℕ
  pub repetition : Bool

-- No game was begun, and the options have their defaults.
abbrev pub fresh : SessionState
fresh = record { game = None; table = 65536; workers = 1; repetition = false }

-- the position that the game has reached
abbrev pub reached : CurrentGame → Position
reached g = replay (opening g.game_type) g.made

-- The game is won or drawn, by its position, or because the rule is on and the position occurs for
-- the third time.
abbrev pub is_ended : CurrentGame → Bool
is_ended g = is_over_state (outcome_under g.repetition g.game_type g.made)

-- the written form of the game, with its outcome
abbrev pub written : CurrentGame → List ℕ
written g = string_under g.repetition g.game_type g.made

-- the game with these moves in place of its own
abbrev pub with_moves : CurrentGame → List Move → CurrentGame
with_moves g ms = record g { made = ms }

-- the session with this game in place of its own
abbrev pub with_game : SessionState → CurrentGame → SessionState
with_game s g = record s { game = Some g }

-- the session with this value of an option in place of its own
abbrev pub with_setting : SessionState → Setting → SessionState
with_setting s (Table entries) = record s { table = entries }
with_setting s (Workers workers) = record s { workers = workers }
with_setting s (Repetition on) = record s { repetition = on }

-- the lines of a reply, except the last, which is `ok`, and the session afterwards; or the session
-- is left, with no reply
pub data Answer : Type 0 where
  Says : (lines : List (List ℕ)) → (after : SessionState) → Answer
  Leaves : Answer

-- The answer is one line, and nothing changes. Every refusal is like this.
abbrev pub refuse : SessionState → List ℕ → Answer
refuse s line = Says (line ∷ []) s

-- The game is now this one, and its written form is answered.
abbrev pub go_on : SessionState → CurrentGame → Answer
go_on s g = Says (written g ∷ []) (with_game s g)

-- in a session with a game
abbrev pub in_game : SessionState → Option CurrentGame → (CurrentGame → Answer) → Answer
in_game s None f = refuse s (codes "err 3 no game")
in_game s (Some g) f = f g

-- in a session with a game that is not over
abbrev pub while_on : SessionState → (CurrentGame → Answer) → Answer
while_on s f =
    in_game s s.game (λ g. if is_ended g then refuse s (codes "err 8 game over") else f g)

-- A new game

-- No text means the base game.
abbrev pub or_base : List ℕ → List ℕ
or_base [] = codes "Base"
or_base (b ∷ bs) = b ∷ bs

-- what comes before the reason why a text is not a game: `err` and the number of the refusal
-- (running out of memory is not a fault of the text)
abbrev pub before_reason : GameFault → List ℕ
before_reason (Malformed part) = codes "err 4 "
before_reason TooManyPlies = codes "err 11 "
before_reason (BadMove number fault) = codes "err 6 "
before_reason (IllegalMove number) = codes "err 6 "
before_reason OtherState = codes "err 5 "
before_reason OtherTurn = codes "err 5 "
before_reason Memory = []

-- the refusal of a text that is not a game
abbrev pub game_fault : GameFault → List ℕ
game_fault fault = before_reason fault ++ reason fault

-- The current value of the option Repetition is the game's rule from now on.
abbrev pub begin : SessionState → Result Parsed GameFault → Answer
begin s (Ok g) =
    go_on s (record { game_type = g.game_type; made = g.moves; repetition = s.repetition })
begin s (Err fault) = refuse s (game_fault fault)

-- A move

abbrev pub move_fault : MoveFault → List ℕ
move_fault (NotAMove at) = codes "invalidmove 1 unreadable"
move_fault NoSuchPiece = codes "invalidmove 1 unreadable"
move_fault (NotInPlay piece) = codes "invalidmove 2 not in play " ++ piece_text piece

abbrev pub make : SessionState → CurrentGame → Result Move MoveFault → Answer
make s g (Err fault) = refuse s (move_fault fault)
make s g (Ok m) =
    if is_listed (reached g) m then go_on s (with_moves g (g.made ++ m ∷ []))
    else refuse s (codes "invalidmove 3 not legal")

-- the most plies of a game of a session
abbrev pub longest_game : ℕ
longest_game = 5000

abbrev pub play : SessionState → List ℕ → CurrentGame → Answer
play s words g =
    if is_ended g then refuse s (codes "invalidmove 4 game over") else
    if nat_le longest_game (length g.made) then refuse s (codes "err 11 too many plies") else
    make s g (move_of g.game_type (reached g).board words)

-- Lists of moves

-- texts with semicolons between them
abbrev pub joined : List (List ℕ) → List ℕ
joined [] = []
joined (t ∷ ts) = joined_on t ts

-- the legal moves, written
abbrev pub list : SessionState → CurrentGame → Answer
list s g = Says (joined (map (text (reached g).board) (moves (reached g))) ∷ []) s

-- The best move

-- A move, written on a board. The case None, here an empty text, does not occur. In a game that is
-- not over there is a best move at every depth from 1 on.
abbrev pub text_of_best : Stacks → Option Move → List ℕ
text_of_best b None = []
text_of_best b (Some m) = text b m

-- the first legal move of the greatest minimax value at this depth in plies, written; it does not
-- depend on the options
abbrev pub best_text : CurrentGame → ℕ → List ℕ
best_text g depth = text_of_best (reached g).board (best (reached g) depth)

-- The answer is the line that names it, and nothing changes.
abbrev pub best_line : SessionState → ℕ → CurrentGame → Answer
best_line s depth g = Says (best_text g depth ∷ []) s

-- Undo

-- the game without its last moves
abbrev pub undo : SessionState → ℕ → CurrentGame → Answer
undo s plies g =
    if nat_lt (length g.made) plies then refuse s (codes "err 7 undo beyond start")
    else go_on s (with_moves g (take (length g.made - plies) g.made))

-- Options

-- On is 1, and off is 0.
abbrev pub switch : Bool → ℕ
switch true = 1
switch false = 0

-- name, kind, value, default, least and greatest
abbrev pub option_line : Setting → List ℕ
option_line (Table entries) = codes "Table;int;" ++ (decimal entries ++ codes ";65536;1;1048576")
option_line (Workers workers) = codes "Workers;int;" ++ (decimal workers ++ codes ";1;1;16")
option_line (Repetition on) = codes "Repetition;int;" ++ (decimal (switch on) ++ codes ";0;0;1")

-- The value is one that its option can have.
abbrev pub IsSetting : Setting → Type 0
IsSetting (Table entries) = (1 ≤ entries) × (entries ≤ 1048576)
IsSetting (Workers workers) = (1 ≤ workers) × (workers ≤ 16)
IsSetting (Repetition on) = Unit {0}

abbrev pub setting_fault : SettingFault → List ℕ
setting_fault NoSuchOption = codes "err 9 no such option"
setting_fault OutOfRange = codes "err 9 value out of range"

-- the option with a name, with its current value
abbrev pub option_of : SessionState → List ℕ → Result Setting SettingFault
option_of s name =
    if bytes_eq name (codes "Table") then Ok (Table s.table) else
    if bytes_eq name (codes "Workers") then Ok (Workers s.workers) else
    if bytes_eq name (codes "Repetition") then Ok (Repetition s.repetition) else
    Err NoSuchOption

-- the number that a text spells, if it is in this range
abbrev pub or_out_of_range : Option ℕ → Result ℕ SettingFault
or_out_of_range None = Err OutOfRange
or_out_of_range (Some value) = Ok value

abbrev pub number_in : List ℕ → ℕ → ℕ → Result ℕ SettingFault
number_in text least most = or_out_of_range (number_at text least most)

abbrev pub given : (ℕ → Setting) → Result ℕ SettingFault → Result Setting SettingFault
given setting (Ok value) = Ok (setting value)
given setting (Err fault) = Err fault

-- the option with a name, with the value that a text gives it
abbrev pub setting_of : List ℕ → List ℕ → Result Setting SettingFault
setting_of name value =
    if bytes_eq name (codes "Table") then given Table (number_in value 1 1048576) else
    if bytes_eq name (codes "Workers") then given Workers (number_in value 1 16) else
    if bytes_eq name (codes "Repetition")
    then given (λ n. Repetition (nat_eq n 1)) (number_in value 0 1) else
    Err NoSuchOption

abbrev pub tell : SessionState → Result Setting SettingFault → Answer
tell s (Ok setting) = Says (option_line setting ∷ []) s
tell s (Err fault) = refuse s (setting_fault fault)

abbrev pub get : SessionState → List ℕ → Answer
get s name = tell s (option_of s name)

abbrev pub change : SessionState → Result Setting SettingFault → Answer
change s (Ok setting) = Says (option_line setting ∷ []) (with_setting s setting)
change s (Err fault) = refuse s (setting_fault fault)

abbrev pub set : SessionState → List ℕ → List ℕ → Answer
set s name value = change s (setting_of name value)

-- The table

-- The answer to a command. The parts that it refers to are those of the line. The depth is the one
-- that a timed search has completed, and only `bestmove time` uses it.
abbrev pub command_answer : SessionState → List ℕ → ℕ → Command → Answer
command_answer s line depth Info =
    Says (codes "id HiveReferee 1.0" ∷ (codes "Mosquito;Ladybug;Pillbug" ∷ [])) s
command_answer s line depth (NewGame part) =
    begin s (game_under s.repetition (or_base (bytes_at line part)))
command_answer s line depth (Play part) = in_game s s.game (play s (bytes_at line part))
command_answer s line depth Pass = in_game s s.game (play s (codes "pass"))
command_answer s line depth ValidMoves = while_on s (list s)
command_answer s line depth (BestDepth plies) = while_on s (best_line s plies)
command_answer s line depth (BestTime budget) = while_on s (best_line s depth)
command_answer s line depth (Undo plies) = in_game s s.game (undo s plies)
command_answer s line depth Options =
    Says (map option_line (Table s.table ∷ (Workers s.workers ∷ (Repetition s.repetition ∷ [])))) s
command_answer s line depth (OptionGet name) = get s (bytes_at line name)
command_answer s line depth (OptionSet name value) =
    set s (bytes_at line name) (bytes_at line value)
command_answer s line depth Exit = Leaves

abbrev pub words_answer : SessionState → List ℕ → ℕ → Result Command CommandFault → Answer
words_answer s line depth (Ok command) = command_answer s line depth command
words_answer s line depth (Err Unknown) = refuse s (codes "err 1 unknown command")
words_answer s line depth (Err Arguments) = refuse s (codes "err 2 wrong arguments")

-- the answer of a session to a line, at the depth that its timed search, if it asks for one, has
-- completed
abbrev pub answer : SessionState → Line → ℕ → Answer
answer s (TextLine bytes) depth = words_answer s bytes depth (command_of bytes)
answer s LongLine depth = refuse s (codes "err 10 line too long")

-- Replies

-- lines, each ended by LF
abbrev pub ended : List (List ℕ) → List ℕ
ended [] = []
ended (line ∷ lines) = line ++ 10 ∷ ended lines

-- the lines of the answer, and then `ok`; none if the session is left
abbrev pub reply_of : Answer → Option (List ℕ)
reply_of (Says lines after) = Some (ended (lines ++ codes "ok" ∷ []))
reply_of Leaves = None

abbrev pub after_of : SessionState → Answer → SessionState
after_of s (Says lines after) = after
after_of s Leaves = s

-- the reply to a line, or none if the run ends
unfoldable pub reply : SessionState → Line → ℕ → Option (List ℕ)
reply s line depth = reply_of (answer s line depth)

-- the session after a line; a search does not change it, whatever its depth
unfoldable pub next : SessionState → Line → SessionState
next s line = after_of s (answer s line 1)

-- A line that is handed to a session, and the reply

-- the line as a line of the stream
abbrev pub line_in : LineIn → Line
line_in (Text bytes) = TextLine bytes.now
line_in TooLong = LongLine

-- a reply's text, or none if the session is left
abbrev pub text_of : Reply → Option (List ℕ)
text_of (ReplyText text) = Some text
text_of ReplyExit = None

-- A session in a state gave this answer: the text of the reply, and the state after it. If memory
-- ran out, the state is as before.
pub record Gave (told : Answer) (result : Result Reply AllocError) (old new : SessionState)
    : Type 0 where
  pub reply : IfOk result (λ r. text_of r ≡ reply_of told)
  pub next : OnOk result (new ≡ after_of old told)
  pub err : OnErr result (new ≡ old)

-- A line that is handed on has at most 65,536 bytes.
abbrev pub IsShort : Line → Type 0
IsShort (TextLine bytes) = length bytes ≤ greatest_line
IsShort LongLine = Unit {0}
