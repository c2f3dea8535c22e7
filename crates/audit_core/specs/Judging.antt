-- What is wrong with an engine's reply.
use Rattle.std.specs.Prelude.{◌≡◌, ℕ, Bool, true, false, not, ◌&&◌, List, [], ◌∷◌, ◌++◌, Option, Some, None, Result, Ok, Err, if◌then◌else◌}
use Rattle.std.specs.List.{list_any}
use Rattle.std.specs.Str.{bytes_eq}
use Rattle.hive_model.specs.declared.pieces.GameType.{GameType}
use Rattle.hive_model.specs.declared.places.Move.{Move}
use Rattle.hive_model.specs.Lists.{IsOn}
use Rattle.hive_model.specs.Boards.{Stacks}
use Rattle.hive_model.specs.Positions.{Position}
use Rattle.hive_model.specs.Legal.{moves}
use Rattle.hive_model.specs.Histories.{is_move}
use Rattle.hive_model.specs.Denotes.{text}
use Rattle.hive_model.specs.Fields.{type_bytes}
use Rattle.hive_model.specs.Strings.{parts}
use Rattle.move_text.specs.declared.faults.MoveFault.{MoveFault}
use Rattle.move_text.specs.Moves.{move_of}
use Rattle.game_text.specs.declared.faults.GameFault.{GameFault}
use Rattle.game_text.specs.declared.parsed.Parsed.{Parsed}
use Rattle.game_text.specs.Reading.{game_of}
use Rattle.audit_core.specs.declared.findings.Fault.{Fault}
use Rattle.audit_core.specs.declared.findings.Fault.TheVariants.{Missing, Extra, Twice, Unreadable, NotTheGame, Accepted}
use Rattle.audit_core.specs.declared.findings.Finding.{Finding}
use Rattle.audit_core.specs.declared.findings.Judged.{Judged}
use Rattle.audit_core.specs.declared.findings.Judged.TheVariants.{Wrong, Next}
use Rattle.audit_core.specs.Texts.{answered_text, is_refusal}

abbrev pub finding : Fault → List ℕ → Finding
finding fault text = record { fault = fault; text = text }

-- Lists of moves

-- A move is on a list.
abbrev pub has_move : List Move → Move → Bool
has_move ms m = list_any (is_move m) ms

-- the first of the legal moves that is not on the list
abbrev pub first_missing : Stacks → List Move → List Move → Option Finding
first_missing b listed [] = None
first_missing b listed (m ∷ ms) =
    if has_move listed m then first_missing b listed ms else Some (finding Missing (text b m))

-- A part of the list, after these moves. It denotes no move, or one that is not legal, or one that
-- came before. Otherwise the list goes on after one more move.
abbrev pub part_of : List Move → List Move → List ℕ → Result Move MoveFault → Judged
part_of legal listed part (Err fault) = Wrong (finding Unreadable part)
part_of legal listed part (Ok m) =
    if has_move legal m
    then (if has_move listed m then Wrong (finding Twice part) else Next m)
    else Wrong (finding Extra part)

abbrev pub on_part : Judged → (Move → Option Finding) → Option Finding
on_part (Wrong f) rest = Some f
on_part (Next m) rest = rest m

-- the first fault in the parts of a list after these moves, or else the first legal move that is
-- missing
unfoldable pub wrong_in : GameType → Stacks → List Move → List Move → List (List ℕ) → Option Finding
wrong_in t b legal listed [] = first_missing b listed legal
wrong_in t b legal listed (part ∷ others) =
    on_part (part_of legal listed part (move_of t b part))
    (λ m. wrong_in t b legal (listed ++ m ∷ []) others)

-- what is wrong with a line as the list of the legal moves of a position
abbrev pub wrong_list : GameType → Position → List ℕ → Option Finding
wrong_list t p line = wrong_in t p.board (moves p) [] (parts line)

-- Game strings

-- Two lists have the same moves in the same order.
abbrev pub same_moves : List Move → List Move → Bool
same_moves [] [] = true
same_moves [] (n ∷ ns) = false
same_moves (m ∷ ms) [] = false
same_moves (m ∷ ms) (n ∷ ns) = is_move m n && same_moves ms ns

-- Two types have the same name.
abbrev pub same_type : GameType → GameType → Bool
same_type t u = bytes_eq (type_bytes t) (type_bytes u)

-- What was read is this game.
abbrev pub is_game : GameType → List Move → Result Parsed GameFault → Bool
is_game t ms (Err fault) = false
is_game t ms (Ok g) = same_type g.game_type t && same_moves g.moves ms

-- What is wrong with a line as the game string of a game, in reply to what was asked. It is another
-- game or none, or a type alone, which gives neither state nor turn.
abbrev pub wrong_string : GameType → List Move → List ℕ → List ℕ → Option Finding
wrong_string t ms asked line =
    if is_game t ms (game_of line) && not (bytes_eq line (type_bytes t))
    then None
    else Some (finding NotTheGame (answered_text asked line))

-- Refusals

-- what is wrong with a reply to this move, which is not legal: it is not a refusal
abbrev pub wrong_refusal : Stacks → Move → List ℕ → Option Finding
wrong_refusal b m reply = if is_refusal reply then None else Some (finding Accepted (text b m))

-- What a reply must be

-- A part of a list reads as a legal move that is not among these.
pub record ListsNext (t : GameType) (p : Position) (listed : List Move) (part : List ℕ)
    (m : Move) : Type 0 where
  pub reads : move_of t p.board part ≡ Ok m
  pub legal : IsOn (moves p) m
  pub first : IsOn listed m → ⊥

-- The parts, after these moves: each reads as one more legal move, and in the end all legal moves
-- are there.
abbrev pub ListsRest : GameType → Position → List Move → List (List ℕ) → Type 0
ListsRest t p listed [] = (m : Move) → IsOn (moves p) m → IsOn listed m
ListsRest t p listed (part ∷ others) =
    (m : Move) × ListsNext t p listed part m × ListsRest t p (listed ++ m ∷ []) others

-- A line lists the legal moves, each once and no other.
abbrev pub ListsMoves : GameType → Position → List ℕ → Type 0
ListsMoves t p line = ListsRest t p [] (parts line)

-- A line is the game string of a game: it reads as this game, and gives its state and turn.
pub record TellsGame (t : GameType) (ms : List Move) (line : List ℕ) : Type 0 where
  pub reads : is_game t ms (game_of line) ≡ true
  pub whole : bytes_eq line (type_bytes t) ≡ false
