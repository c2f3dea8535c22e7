-- The state of an audit, as a fold over the lines of the engine.
use Rattle.std.specs.Prelude.{ℕ, ◌+◌, ◌-◌, Bool, true, false, cond, not, ◌&&◌, ◌||◌, nat_eq, nat_lt, nat_le, List, [], ◌∷◌, ◌++◌, length, take, Option, Some, None, codes}
use Rattle.std.specs.List.{list_any}
use Rattle.std.specs.Str.{bytes_eq}
use Rattle.hive_model.specs.declared.pieces.GameType.{GameType}
use Rattle.hive_model.specs.declared.places.Move.{Move}
use Rattle.hive_model.specs.Positions.{Position, opening}
use Rattle.hive_model.specs.Legal.{moves, is_over}
use Rattle.hive_model.specs.Games.{replay}
use Rattle.io_edge.specs.Lines.{Line as Mark, Text, TooLong, greatest_line}
use Rattle.hive_model.specs.Strings.{parts}
use Rattle.audit_core.specs.declared.plan.AuditPlan.{AuditPlan}
use Rattle.audit_core.specs.declared.plan.Stage.{Stage}
use Rattle.audit_core.specs.declared.plan.Stage.TheVariants.{Greeting, Beginning, Listing, Playing, Undoing, Reviewing, Trying, Relisting, Loading, Finishing, Over}
use Rattle.audit_core.specs.declared.findings.Fault.{Fault}
use Rattle.audit_core.specs.declared.findings.Fault.TheVariants.{Unreadable}
use Rattle.audit_core.specs.declared.findings.Finding.{Finding}
use Rattle.grow_game.specs.Growing.{next_state}
use Rattle.audit_core.specs.Drawing.{drawn_of, is_siege, state_after, state_of, tried_of, type_of, undone_of}
use Rattle.audit_core.specs.Judging.{finding, wrong_list, wrong_refusal, wrong_string}
use Rattle.audit_core.specs.Texts.{asked_text, begin_line, list_line, load_line, play_line, undo_line, is_ok, with_line, finding_line, last_line}

-- An audit: the stage that it has reached, and whether the line of that stage is still to be sent.
-- How many games have ended, and which expansions the engine plays. The current game, its moves
-- before some were taken back, and the generator of its moves. What was read of the current reply.
-- The text to be written. The counts of findings, of lists that were right, and of the moves on
-- them.
pub record AuditState : Type 0 where
  pub plan : AuditPlan
  pub stage : Stage
  pub sending : Bool
  pub ended : ℕ
  pub plays : GameType
  pub game_type : GameType
  pub moves : List Move
  pub whole : List Move
  pub state : ℕ
  pub begun : Bool
  pub reply : List ℕ
  pub text : List ℕ
  pub findings : ℕ
  pub positions : ℕ
  pub choices : ℕ

-- the audit in this state
abbrev pub audit_state : AuditPlan → Stage → Bool → ℕ → GameType → GameType → List Move → List Move → ℕ
    → Bool → List ℕ → List ℕ → ℕ → ℕ → ℕ → AuditState
audit_state plan stage sending ended plays game_type moves whole state begun reply text findings
    positions choices = record {
      plan = plan;
      stage = stage;
      sending = sending;
      ended = ended;
      plays = plays;
      game_type = game_type;
      moves = moves;
      whole = whole;
      state = state;
      begun = begun;
      reply = reply;
      text = text;
      findings = findings;
      positions = positions;
      choices = choices;
    }

-- the position that the moves lead to
abbrev pub position_now : AuditState → Position
position_now s = replay (opening s.game_type) s.moves

-- the position two plies before, with the same side to move
abbrev pub position_before : AuditState → Position
position_before s = replay (opening s.game_type) (take (length s.moves - 2) s.moves)

-- how many games of the seed come before the current game: those before the first game of the
-- audit, and those of the audit that have ended
abbrev pub games_before : AuditState → ℕ
games_before s = s.plan.first - 1 + s.ended

-- the move that is drawn in the current game, if there is one
abbrev pub drawn_now : AuditState → Option Move
drawn_now s = drawn_of (is_siege s.plan.seed (games_before s)) s.state (position_now s)

-- no expansion
abbrev pub base_type : GameType
base_type = record { mosquito = false; ladybug = false; pillbug = false }

-- The engine's greeting is read first.
abbrev pub start : AuditPlan → AuditState
start plan = record {
  plan = plan;
  stage = Greeting;
  sending = false;
  ended = 0;
  plays = base_type;
  game_type = base_type;
  moves = [];
  whole = [];
  state = state_of plan.seed 0;
  begun = false;
  reply = [];
  text = [];
  findings = 0;
  positions = 0;
  choices = 0;
}

-- the line of a stage
abbrev pub line_at : AuditState → Stage → List ℕ
line_at s Greeting = []
line_at s Beginning = begin_line s.game_type
line_at s Listing = list_line
line_at s (Playing m) = play_line (position_now s) m
line_at s (Undoing back) = undo_line back
line_at s Reviewing = list_line
line_at s (Trying m) = play_line (position_now s) m
line_at s Relisting = list_line
line_at s Loading = load_line s.game_type s.whole
line_at s Finishing = list_line
line_at s Over = []

-- the line that is still to be sent
abbrev pub line_now : AuditState → List ℕ
line_now s = cond s.sending (line_at s s.stage) []

-- The audit moves to a stage with a line that is to be sent.
abbrev pub go : AuditState → Stage → AuditState
go s stage = record s { stage = stage; sending = true }

-- The audit is over, and the last line is written.
abbrev pub conclude : AuditState → AuditState
conclude s = record s {
  stage = Over;
  sending = false;
  text = s.text ++ last_line s.ended s.positions s.choices s.findings;
}

-- The next game begins.
abbrev pub begin : AuditState → AuditState
begin s = record s {
  stage = Beginning;
  sending = true;
  game_type = type_of s.plan.game_type s.plays (games_before s);
  moves = [];
  whole = [];
  state = state_of s.plan.seed (games_before s);
}

-- The next game begins if there is one. Otherwise the audit is over.
abbrev pub next_game : AuditState → AuditState
next_game s = cond (nat_le s.plan.games s.ended) (conclude s) (begin s)

-- A game has ended.
abbrev pub end_game : AuditState → AuditState
end_game s = record s { ended = s.ended + 1 }

-- A finding is counted, and its line is written.
abbrev pub note : AuditState → Finding → AuditState
note s f = record s {
  text = s.text ++ finding_line (games_before s + 1) s.game_type s.moves f;
  findings = s.findings + 1;
}

-- A finding ends its game. It also ends the audit if there are as many findings now as end it.
abbrev pub found : AuditState → Finding → AuditState
found s f =
    cond (nat_le s.plan.most (s.findings + 1)) (conclude (end_game (note s f)))
    (next_game (end_game (note s f)))

-- A reply is missing, and that ends the audit. The finding names the line of the stage, which was
-- sent last or which could not be written. It names none if the greeting is missing.
abbrev pub break_off : AuditState → Fault → AuditState
break_off s fault =
    conclude (end_game (note s (finding fault (asked_text (line_at s s.stage)))))

-- Anything wrong is a finding.
abbrev pub go_or_find : AuditState → Option Finding → AuditState → AuditState
go_or_find s None t = t
go_or_find s (Some f) t = found s f

-- Some of the plies are to be taken back. One word draws how many.
abbrev pub go_back : AuditState → AuditState
go_back s =
    go (record s { state = next_state s.state }) (Undoing (undone_of s.state (length s.moves)))

-- The game has come to its end. One without a ply has none to take back.
abbrev pub close_game : AuditState → AuditState
close_game s = cond (nat_eq (length s.moves) 0) (next_game (end_game s)) (go_back s)

-- The game is over, or it has as many plies as it may have. Otherwise the list is asked for.
abbrev pub list_or_end : AuditState → AuditState
list_or_end s =
    cond (is_over (position_now s) || nat_le s.plan.plies (length s.moves))
    (close_game s) (go s Listing)

-- The drawn move is to be played. A list without one ends the game.
abbrev pub play_drawn : AuditState → Option Move → AuditState
play_drawn s None = next_game (end_game s)
play_drawn s (Some m) = go s (Playing m)

-- A list was right.
abbrev pub count : AuditState → AuditState
count s = record s {
  positions = s.positions + 1;
  choices = s.choices + length (moves (position_now s));
}

-- A move was drawn.
abbrev pub advance : AuditState → AuditState
advance s = record s { state = state_after s.state }

-- The drawn move was played, and its game string is read.
abbrev pub with_move : AuditState → Move → AuditState
with_move s m = record s { stage = Beginning; moves = s.moves ++ m ∷ [] }

-- The reply to the start of a game, or to a move, must be the game string. A finding names the line
-- that was asked.
abbrev pub check_string : AuditState → List ℕ → List ℕ → AuditState
check_string s asked reply =
    go_or_find s (wrong_string s.game_type s.moves asked reply) (list_or_end s)

-- The reply to a question for moves must be the list of the legal ones.
abbrev pub check_list : AuditState → List ℕ → AuditState
check_list s reply =
    go_or_find s (wrong_list s.game_type (position_now s) reply)
    (play_drawn (advance (count s)) (drawn_now s))

-- This number of plies was taken back, and the game string of what is left is read.
abbrev pub without_plies : AuditState → ℕ → AuditState
without_plies s back = record s {
  stage = Beginning;
  moves = take (length s.moves - back) s.moves;
  whole = s.moves;
}

-- The reply to an undo must be the game string. Then the list is asked for.
abbrev pub check_undone : AuditState → List ℕ → List ℕ → AuditState
check_undone s asked reply =
    go_or_find s (wrong_string s.game_type s.moves asked reply) (go s Reviewing)

-- A move was drawn that is to be tried.
abbrev pub next_word : AuditState → AuditState
next_word s = record s { state = next_state s.state }

-- A move that is not legal is tried. If there is none, the whole game is loaded.
abbrev pub try_drawn : AuditState → Option Move → AuditState
try_drawn s None = go s Loading
try_drawn s (Some m) = go s (Trying m)

-- The list there must be that of the legal moves. Then a move is tried that was legal two plies
-- before and is not now.
abbrev pub check_review : AuditState → List ℕ → AuditState
check_review s reply =
    go_or_find s (wrong_list s.game_type (position_now s) reply)
    (try_drawn (next_word (count s)) (tried_of s.state (position_before s) (position_now s)))

-- The reply to the move that is tried must be a refusal. Then the list is asked for.
abbrev pub check_tried : AuditState → Move → List ℕ → AuditState
check_tried s m reply =
    go_or_find s (wrong_refusal (position_now s).board m reply) (go s Relisting)

-- The list must be as before, and the whole game is loaded.
abbrev pub check_relisted : AuditState → List ℕ → AuditState
check_relisted s reply =
    go_or_find s (wrong_list s.game_type (position_now s) reply) (go (count s) Loading)

-- The whole game is restored, and its game string is read.
abbrev pub loaded : AuditState → AuditState
loaded s = record s { stage = Beginning; moves = s.whole; whole = s.moves }

-- The list is asked for if the game goes on. Otherwise the game has ended.
abbrev pub list_loaded : AuditState → AuditState
list_loaded s = cond (is_over (position_now s)) (next_game (end_game s)) (go s Finishing)

-- The reply to the loading of the whole game must be its game string.
abbrev pub check_loaded : AuditState → List ℕ → List ℕ → AuditState
check_loaded s asked reply =
    go_or_find s (wrong_string s.game_type s.moves asked reply) (list_loaded s)

-- The list there must be that of the legal moves, and the game has ended.
abbrev pub check_finish : AuditState → List ℕ → AuditState
check_finish s reply =
    go_or_find s (wrong_list s.game_type (position_now s) reply) (next_game (end_game (count s)))

-- The expansions that a greeting names

-- One of the parts is this word.
abbrev pub has_part : List (List ℕ) → List ℕ → Bool
has_part parts word = list_any (λ part. bytes_eq part word) parts

-- the expansions that the last line of a greeting names, between semicolons
abbrev pub named_in : List (List ℕ) → GameType
named_in parts = record {
  mosquito = has_part parts (codes "Mosquito");
  ladybug = has_part parts (codes "Ladybug");
  pillbug = has_part parts (codes "Pillbug");
}

-- The greeting was read.
abbrev pub greet : AuditState → List ℕ → AuditState
greet s reply = next_game (record s { plays = named_in (parts reply) })

-- A reply has ended.
abbrev pub reply_ends : AuditState → Stage → List ℕ → AuditState
reply_ends s Greeting reply = greet s reply
reply_ends s Beginning reply = check_string s (line_at s Beginning) reply
reply_ends s Listing reply = check_list s reply
reply_ends s (Playing m) reply = check_string (with_move s m) (line_at s (Playing m)) reply
reply_ends s (Undoing back) reply =
    check_undone (without_plies s back) (line_at s (Undoing back)) reply
reply_ends s Reviewing reply = check_review s reply
reply_ends s (Trying m) reply = check_tried s m reply
reply_ends s Relisting reply = check_relisted s reply
reply_ends s Loading reply = check_loaded (loaded s) (line_at s Loading) reply
reply_ends s Finishing reply = check_finish s reply
reply_ends s Over reply = s

-- One more line of a reply is kept. A reply has at most 65,536 bytes.
abbrev pub keep : AuditState → List ℕ → AuditState
keep s reply =
    cond (nat_lt greatest_line (length reply)) (break_off s Unreadable)
    (record s { begun = true; reply = reply })

-- The greeting is being read.
abbrev pub is_greeting : Stage → Bool
is_greeting Greeting = true
is_greeting Beginning = false
is_greeting Listing = false
is_greeting (Playing m) = false
is_greeting (Undoing back) = false
is_greeting Reviewing = false
is_greeting (Trying m) = false
is_greeting Relisting = false
is_greeting Loading = false
is_greeting Finishing = false
is_greeting Over = false

-- Of the greeting the last line is kept, and of another reply all lines.
abbrev pub reply_with : AuditState → Stage → List ℕ → List ℕ
reply_with s stage line = with_line (s.begun && not (is_greeting stage)) s.reply line

-- Nothing was read of the next reply.
abbrev pub fresh : AuditState → AuditState
fresh s = record s { begun = false; reply = [] }

-- A line of a reply ends it or is kept.
abbrev pub hear : AuditState → Stage → List ℕ → AuditState
hear s stage line =
    cond (is_ok line) (reply_ends (fresh s) stage s.reply) (keep s (reply_with s stage line))

-- The line of the stage was sent.
abbrev pub sent : AuditState → AuditState
sent s = record s { sending = false }

-- the audit after a line, or after the mark of one that is too long
unfoldable pub at_mark : AuditState → Mark → AuditState
at_mark s (Text line) = hear s s.stage line
at_mark s TooLong = break_off s Unreadable

-- The audit is over.
abbrev pub is_ended : Stage → Bool
is_ended Greeting = false
is_ended Beginning = false
is_ended Listing = false
is_ended (Playing m) = false
is_ended (Undoing back) = false
is_ended Reviewing = false
is_ended (Trying m) = false
is_ended Relisting = false
is_ended Loading = false
is_ended Finishing = false
is_ended Over = true
