-- What a search spends and what it answers, between two moments.
use Rattle.std.specs.Prelude.{◌≡◌, ℕ, ◌+◌, ◌-◌, ◌≤◌, ℤ, neg_ℤ, false, Option, None, IfSome}
use Rattle.hive_model.specs.declared.places.Move.{Move}
use Rattle.hive_model.specs.Positions.{Position}
use Rattle.hive_model.specs.Legal.{moves}
use Rattle.hive_model.specs.Games.{after}
use Rattle.hive_model.specs.Minimax.{nodes, value, reply_value}
use Rattle.hive_model.specs.Costs.{cost, tries_cost}
use Rattle.hive_model.specs.Histories.{History, position}
use Rattle.hive_model.specs.Stack.{Levels}
use Rattle.search_laws.specs.Found.{IsFound}
use Rattle.search_laws.specs.Nodes.{AreAsBefore}
use Rattle.search_laws.specs.Tries.{tried_cost}
use Rattle.search_core.specs.Ticks.{Ticks, KeepsTime, IsInTime, CountsPlays}
use Rattle.search_core.specs.Times.{HasEnded, IsPaid, counted, with_credit, behind, sum_but}
use Rattle.search_core.specs.declared.entries.Tried.{Tried}
use Rattle.search_core.specs.declared.play_credit.PlayCredit.{PlayCredit}
use Rattle.search_core.specs.declared.workspace.Node.{Node}
use Rattle.search_core.specs.declared.workspace.Workspace.{Workspace}

-- what contracts see at one moment of a game, of a search's workspace and of a clock
pub record Moment : Type 0 where
  pub history : History
  pub played : ℕ
  pub levels : Levels
  pub ticks : Ticks
  pub credit : PlayCredit
  pub readings : ℕ
  pub last : ℕ
  pub previous : ℕ

-- a moment within a search, which pays for early tries from its credit
abbrev pub moment_within : {G C : Type 0} → (G → History) → (G → ℕ) → (C → ℕ) → (C → ℕ) → (C → ℕ)
    → G → Workspace → C → Moment
moment_within history played readings last previous game work clock = record {
  history = history game;
  played = played game;
  levels = work.stack;
  ticks = work.ticker;
  credit = work.credit;
  readings = readings clock;
  last = last clock;
  previous = previous clock;
}

-- a moment before or after a search, when nothing is saved
abbrev pub moment : {G C : Type 0} → (G → History) → (G → ℕ) → (C → ℕ) → (C → ℕ) → (C → ℕ)
    → G → Workspace → C → Moment
moment history played readings last previous game work clock = record {
  history = history game;
  played = played game;
  levels = work.stack;
  ticks = work.ticker;
  credit = record { saved = 0; early = false };
  readings = readings clock;
  last = last clock;
  previous = previous clock;
}

-- Between two moments a search of so many nodes left game and stack as they were. It played at most
-- so many moves. Each play was counted, and with a deadline the clock was read once for each 256 of
-- them. What was saved on the way was paid for.
pub record Spends (nodes plays : ℕ) (old new : Moment) : Type 0 where
  pub before : AreAsBefore old.history new.history old.levels new.levels
  pub often : CountsPlays old.ticks new.ticks old.readings new.readings old.played new.played
  pub time : KeepsTime (with_credit old.ticks old.credit) (with_credit new.ticks new.credit)
      old.readings new.readings old.last new.last nodes
  pub played : new.played + new.credit.saved ≤ old.played + old.credit.saved + plays
  pub paid : IsPaid old.credit new.credit old.played new.played
      (counted old.ticks old.readings) (counted new.ticks new.readings)

-- An answer is as it should be, and came in time. There is none only if the deadline came, or if an
-- early try could not be paid for.
pub record Answers {X : Type 0} (Is : X → Type 0) (answer : Option X) (old new : Moment)
    : Type 0 where
  pub found : IfSome answer Is
  pub in_time : IfSome answer (λ _. IsInTime old.ticks old.last new.last)
  pub ended : answer ≡ None
      → HasEnded new.credit old.ticks new.ticks old.last new.last new.previous

-- what a search of a node spends: the plies of all its lines, and the plays that its window costs
abbrev pub SpendsOnNode : Node → Moment → Moment → Type 0
SpendsOnNode node old new =
    Spends (nodes (position old.history) node.depth)
    (cost (position old.history) node.depth node.window.alpha node.window.beta) old new

-- the plays that the moves of a node cost in its window, one move after the other
abbrev pub cost_of_moves : Position → Node → ℕ
cost_of_moves p node =
    tries_cost (tried_cost p (node.depth - 1) node.window.beta)
    (reply_value p (node.depth - 1)) node.window.alpha node.window.beta (moves p)

-- what a search of a node's moves spends, other than the one at the hint's place
abbrev pub SpendsOnMoves : Option ℕ → Node → Moment → Moment → Type 0
SpendsOnMoves hint node old new = let p = position old.history in
    Spends (sum_but hint 0 (behind p (node.depth - 1)) (moves p)) (cost_of_moves p node) old new

-- what a search of a node's moves spends, other than this one
abbrev pub SpendsOnOthers : Move → Node → Moment → Moment → Type 0
SpendsOnOthers m node old new = let p = position old.history in
    Spends (nodes p node.depth - behind p (node.depth - 1) m) (cost_of_moves p node) old new

-- what a search for a move's worth spends, if the move is played
abbrev pub SpendsOnReply : Move → Node → Moment → Moment → Type 0
SpendsOnReply m node old new = let behind = after (position old.history) m in
    Spends (1 + nodes behind node.depth)
    (1 + cost behind node.depth (neg_ℤ node.window.beta) (neg_ℤ node.window.alpha)) old new

-- what a search of a node answers, in its window
abbrev pub AnswersNode : Node → Option Tried → Moment → Moment → Type 0
AnswersNode node answer old new =
    Answers (λ tried. IsFound (value (position old.history) node.depth) node.window tried.value)
    answer old new

-- what a search for the worth of a move answers, in its window
abbrev pub AnswersReply : Move → Node → Option ℤ → Moment → Moment → Type 0
AnswersReply m node answer old new =
    Answers (IsFound (reply_value (position old.history) node.depth m) node.window) answer old new
