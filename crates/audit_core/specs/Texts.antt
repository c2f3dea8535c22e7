-- What is sent to an engine, and what is written about it.
use Rattle.std.specs.Prelude.{ℕ, Bool, true, false, ◌||◌, nat_eq, List, [], ◌∷◌, ◌++◌, length, map, take, codes, decimal, nat_lt, if◌then◌else◌}
use Rattle.std.specs.List.{starts_with}
use Rattle.std.specs.Str.{bytes_eq}
use Rattle.hive_model.specs.declared.pieces.GameType.{GameType}
use Rattle.hive_model.specs.declared.places.Move.{Move}
use Rattle.hive_model.specs.declared.places.Move.TheVariants.{Pass, To}
use Rattle.hive_model.specs.Positions.{Position}
use Rattle.hive_model.specs.Denotes.{text}
use Rattle.hive_model.specs.Fields.{type_bytes}
use Rattle.hive_model.specs.Strings.{string}
use Rattle.audit_core.specs.declared.findings.Fault.{Fault}
use Rattle.audit_core.specs.declared.findings.Fault.TheVariants.{Missing, Extra, Twice, Unreadable, NotTheGame, Accepted, Ended, Late, Broke}
use Rattle.audit_core.specs.declared.findings.Finding.{Finding}

-- What is sent

-- a new game of this type
abbrev pub begin_line : GameType → List ℕ
begin_line t = codes "newgame " ++ (type_bytes t ++ 10 ∷ [])

-- A game is loaded by its game string.
abbrev pub load_line : GameType → List Move → List ℕ
load_line t ms = codes "newgame " ++ (string t ms ++ 10 ∷ [])

-- The legal moves are asked for.
abbrev pub list_line : List ℕ
list_line = codes "validmoves\n"

-- A move, made in this position, is played.
abbrev pub play_line : Position → Move → List ℕ
play_line p Pass = codes "pass\n"
play_line p (To x q) = codes "play " ++ (text p.board (To x q) ++ 10 ∷ [])

-- This number of plies is taken back.
abbrev pub undo_line : ℕ → List ℕ
undo_line plies = codes "undo " ++ (decimal plies ++ 10 ∷ [])

-- What is read

-- The line ends a reply.
abbrev pub is_ok : List ℕ → Bool
is_ok line = bytes_eq line (codes "ok")

-- A reply is this word, or begins with it and a space (32) or an LF (10).
abbrev pub begins_by : List ℕ → List ℕ → Bool
begins_by word reply =
    bytes_eq reply word
    || (starts_with nat_eq reply (word ++ 32 ∷ []) || starts_with nat_eq reply (word ++ 10 ∷ []))

-- A reply refuses what was sent: its first word is `err` or `invalidmove`.
abbrev pub is_refusal : List ℕ → Bool
is_refusal reply = begins_by (codes "err") reply || begins_by (codes "invalidmove") reply

-- a reply with one more line; an LF (10) separates two lines
abbrev pub with_line : Bool → List ℕ → List ℕ → List ℕ
with_line false reply line = line
with_line true reply line = reply ++ 10 ∷ line

-- What is written

-- a byte of an engine as it is written: one outside 32 to 126 becomes a question mark (63)
abbrev pub shown : ℕ → ℕ
shown byte = if nat_lt byte 32 then 63 else (if nat_lt 126 byte then 63 else byte)

-- a text of the engine, with a space (32) before it; nothing if it is empty
abbrev pub text_behind : List ℕ → List ℕ
text_behind [] = []
text_behind (byte ∷ bytes) = 32 ∷ map shown (byte ∷ bytes)

-- The line that was not answered, as a finding names it. One of more than 68 bytes is cut to the
-- first 68, with two dots after them. Only a game string is so long: after `newgame ` it keeps 60.
abbrev pub shortened : List ℕ → List ℕ
shortened line = if nat_lt 68 (length line) then take 68 line ++ codes ".." else line

-- what a finding says of the line that was sent, which ends with an LF; nothing if none was sent
abbrev pub asked_text : List ℕ → List ℕ
asked_text [] = []
asked_text (byte ∷ bytes) = codes "asked " ++ shortened (take (length bytes) (byte ∷ bytes))

-- a reply, with a space (32) before it; nothing if it is empty
abbrev pub behind_space : List ℕ → List ℕ
behind_space [] = []
behind_space (byte ∷ bytes) = 32 ∷ (byte ∷ bytes)

-- what a finding says of a reply to the line that was sent
abbrev pub answered_text : List ℕ → List ℕ → List ℕ
answered_text asked reply = asked_text asked ++ (codes " answered" ++ behind_space reply)

abbrev pub fault_word : Fault → List ℕ
fault_word Missing = codes "missing"
fault_word Extra = codes "extra"
fault_word Twice = codes "twice"
fault_word Unreadable = codes "unreadable"
fault_word NotTheGame = codes "string"
fault_word Accepted = codes "accepted"
fault_word Ended = codes "ended"
fault_word Late = codes "late"
fault_word Broke = codes "broke"

-- a word, and a number after it
abbrev pub numbered : List ℕ → ℕ → List ℕ
numbered word n = word ++ decimal n

-- what is wrong, ended by an LF
abbrev pub finding_end : Finding → List ℕ
finding_end f = 32 ∷ (fault_word f.fault ++ (text_behind f.text ++ 10 ∷ []))

-- the line of a finding: the game's number, the number of plies played, its game string, and what
-- is wrong
abbrev pub finding_line : ℕ → GameType → List Move → Finding → List ℕ
finding_line number t ms f =
    numbered (codes "game ") number
    ++ (numbered (codes " ply ") (length ms) ++ (32 ∷ (string t ms ++ finding_end f)))

-- the last line
abbrev pub last_line : ℕ → ℕ → ℕ → ℕ → List ℕ
last_line games positions choices findings =
    numbered (codes "audited ") games
    ++ (numbered (codes " games ") positions
    ++ (numbered (codes " positions ") choices
    ++ (numbered (codes " moves, ") findings ++ codes " findings\n")))
