-- When an audit finds something.
use Rattle.std.specs.Prelude.{◌≡◌, ◌↔◌, ℕ, ◌-◌, ◌≤◌, Bool, true, false, List, [], ◌∷◌, ◌++◌, length, take, None}
use Rattle.hive_model.specs.declared.pieces.GameType.{GameType}
use Rattle.hive_model.specs.declared.places.Move.{Move}
use Rattle.hive_model.specs.Lists.{IsOn}
use Rattle.hive_model.specs.Boards.{Stacks}
use Rattle.hive_model.specs.Positions.{Position}
use Rattle.hive_model.specs.Legal.{moves}
use Rattle.hive_model.specs.Denotes.{Denotes, text}
use Rattle.io_edge.specs.Lines.{Line as Mark, Text, TooLong, greatest_line}
use Rattle.audit_core.specs.declared.plan.AuditPlan.{AuditPlan}
use Rattle.audit_core.specs.declared.plan.Stage.{Stage}
use Rattle.audit_core.specs.declared.plan.Stage.TheVariants.{Greeting, Beginning, Listing, Playing, Undoing, Reviewing, Trying, Relisting, Loading, Finishing, Over}
use Rattle.audit_core.specs.Drawing.{is_siege}
use Rattle.audit_core.specs.Judging.{wrong_list, wrong_refusal, wrong_string, ListsMoves, TellsGame}
use Rattle.audit_core.specs.Texts.{is_ok, is_refusal}
use Rattle.audit_core.specs.Keeps.{IsPlan}
use Rattle.audit_core.specs.AuditState.{AuditState, begin, games_before, start, position_before, position_now, is_ended, reply_with}
use Rattle.audit_core.specs.Audits.{after_all, step, audit_of}

-- Nothing is wrong with a list exactly if it lists the legal moves, and with a string exactly if it
-- is that of the game. Nothing is wrong with the reply to a move that is not legal exactly if it is
-- a refusal.
pub record RepliesAreJudged : Type 0 where
  pub lists : (t : GameType) (p : Position) (line : List ℕ)
      → (wrong_list t p line ≡ None) ↔ ListsMoves t p line
  pub strings : (t : GameType) (ms : List Move) (asked line : List ℕ)
      → (wrong_string t ms asked line ≡ None) ↔ TellsGame t ms line
  pub refusals : (b : Stacks) (m : Move) (line : List ℕ)
      → (wrong_refusal b m line ≡ None) ↔ (is_refusal line ≡ true)

-- A whole reply is right at its stage: it is the game string of the game reached, or the list of
-- the legal moves of its position. For a move that is not legal it is a refusal. A greeting may be
-- anything.
abbrev pub IsReply : AuditState → Stage → List ℕ → Type 0
IsReply s Greeting reply = Unit {0}
IsReply s Beginning reply = TellsGame s.game_type s.moves reply
IsReply s Listing reply = ListsMoves s.game_type (position_now s) reply
IsReply s (Playing m) reply = TellsGame s.game_type (s.moves ++ m ∷ []) reply
IsReply s (Undoing back) reply =
    TellsGame s.game_type (take (length s.moves - back) s.moves) reply
IsReply s Reviewing reply = ListsMoves s.game_type (position_now s) reply
IsReply s (Trying m) reply = is_refusal reply ≡ true
IsReply s Relisting reply = ListsMoves s.game_type (position_now s) reply
IsReply s Loading reply = TellsGame s.game_type s.whole reply
IsReply s Finishing reply = ListsMoves s.game_type (position_now s) reply
IsReply s Over reply = Unit {0}

-- A line ends a reply that is right, or leaves the reply no longer than a line may be.
abbrev pub IsRightLine : Bool → AuditState → List ℕ → Type 0
IsRightLine true s line = IsReply s s.stage s.reply
IsRightLine false s line = length (reply_with s s.stage line) ≤ greatest_line

abbrev pub IsRight : AuditState → Mark → Type 0
IsRight s (Text line) = IsRightLine (is_ok line) s line
IsRight s TooLong = ⊥

-- Whatever is read once the audit is over does not count.
abbrev pub IsRightAt : Bool → AuditState → Mark → Type 0
IsRightAt true s mark = Unit {0}
IsRightAt false s mark = IsRight s mark

-- Each reply is right, and the lines lead to the end of the audit.
abbrev pub AreRight : AuditState → List Mark → Type 0
AreRight s [] = is_ended s.stage ≡ true
AreRight s (mark ∷ marks) = IsRightAt (is_ended s.stage) s mark × AreRight (step s mark) marks

-- An audit finds nothing exactly if each reply up to its end is right.
abbrev pub AuditsFindFaults : Type 0
AuditsFindFaults =
    (plan : AuditPlan) (marks : List Mark) →
    ((audit_of plan marks).findings ≡ 0) ↔ AreRight (start plan) marks

-- A move that is tried was legal two plies before, and is not legal now. The text that is sent for
-- it denotes no legal move.
pub record TriesIllegal (s : AuditState) (m : Move) : Type 0 where
  pub was_legal : IsOn (moves (position_before s)) m
  pub not_legal : ¬ IsOn (moves (position_now s)) m
  pub denotes_none : (n : Move)
      → Denotes s.game_type (position_now s).board (text (position_now s).board m) n
      → ¬ IsOn (moves (position_now s)) n

-- This holds wherever an audit tries a move.
abbrev pub TriedAreIllegal : Type 0
TriedAreIllegal =
    (plan : AuditPlan) (marks : List Mark) (m : Move) → IsPlan plan
    → (after_all (start plan) marks).stage ≡ Trying m
    → TriesIllegal (after_all (start plan) marks) m

-- Two audits are before the game with one number of one seed, whichever game was the first of each.
-- For both the same type is asked for, if any, and their engines play the same expansions.
pub record AreBeforeOneGame (s t : AuditState) : Type 0 where
  pub seed : s.plan.seed ≡ t.plan.seed
  pub asked : s.plan.game_type ≡ t.plan.game_type
  pub plays : s.plays ≡ t.plays
  pub number : games_before s ≡ games_before t

-- The current game begins alike in two audits. It has one type, one generator draws its moves, and
-- it is a siege in both or in none.
pub record BeginAlike (s t : AuditState) : Type 0 where
  pub kind : (begin s).game_type ≡ (begin t).game_type
  pub state : (begin s).state ≡ (begin t).state
  pub siege : is_siege s.plan.seed (games_before s) ≡ is_siege t.plan.seed (games_before t)

-- So the game with some number of a seed is the same in each audit that reaches it.
abbrev pub GamesStandAlone : Type 0
GamesStandAlone = (s t : AuditState) → AreBeforeOneGame s t → BeginAlike s t
