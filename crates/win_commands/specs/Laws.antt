-- Laws of forced wins that are written and checked.
use Rattle.std.specs.Prelude.{◌≡◌, ◌↔◌, ℕ, ◌≤◌, false, List, length, map, drop, Ok, Some}
use Rattle.hive_model.specs.declared.pieces.GameType.{GameType}
use Rattle.hive_model.specs.declared.places.Move.{Move}
use Rattle.hive_model.specs.Positions.{opening}
use Rattle.hive_model.specs.Legal.{is_over}
use Rattle.hive_model.specs.Games.{IsGame, replay}
use Rattle.io_edge.specs.Lines.{Line, lines}
use Rattle.command_runs.specs.Input.{Sides, WhereTold}
use Rattle.command_runs.specs.OneGame.{AsksOne, last_position}
use Rattle.command_runs.specs.Served.{RunsAreDone}
use Rattle.command_runs.specs.declared.status.Status.TheVariants.{Done}
use Rattle.certificate_text.specs.Text.{index_in}
use Rattle.win_solver.specs.Solution.{Solves}
use Rattle.win_commands.specs.declared.head.Head.{Head}
use Rattle.certificate_verdicts.specs.declared.verdict.TextVerdict.TheVariants.{Accepted}
use Rattle.certificate_verdicts.specs.Laws.{WritesAccepted}
use Rattle.win_commands.specs.Text.{is_forced, solution_text}
use Rattle.win_commands.specs.Verdicts.{head_of, verdict}
use Rattle.win_commands.specs.Runs.{SolveRun, VerifyRun}

-- the lines have a head, and its answer is true for its game
pub record IsTrueText (ls : List Line) (head : Head) : Type 0 where
  pub has_head : head_of ls ≡ Ok head
  pub is_true : is_forced (last_position head.game) head.plies ≡ head.answer

-- the answer of an accepted text is true
abbrev pub AcceptedIsTrue : Type 0
AcceptedIsTrue = (ls : List Line) → verdict ls ≡ Accepted → (head : Head) × IsTrueText ls head

-- so if a check is done, the answer is true
abbrev pub VerifiedIsTrue : Type 0
VerifiedIsTrue =
    (before : Sides) → (after : Sides) → VerifyRun Done before after
    → WhereTold before.rest (λ input. (head : Head) × IsTrueText (lines input) head)

-- The lines are a solution. They have a head, whose game is not over, and the lines after it are
-- indices that show its answer.
pub record HoldsSolution (ls : List Line) (head : Head) (indices : List ℕ) : Type 0 where
  pub has_head : head_of ls ≡ Ok head
  pub open_ : is_over (last_position head.game) ≡ false
  pub are_indices : map index_in (drop 4 ls) ≡ map (λ i. Some i) indices
  pub solves :
      Solves (last_position head.game) head.plies (last_position head.game).side head.answer indices

-- exactly such lines are accepted
abbrev pub SolutionsAlone : Type 0
SolutionsAlone =
    (ls : List Line)
    → (verdict ls ≡ Accepted) ↔ ((head : Head) × (indices : List ℕ) × HoldsSolution ls head indices)

-- For an input that is exactly one line, a game that is not over: if no read or write failed, the
-- run is done, unless memory ran out.
abbrev pub SolvesAreDone : Type 0
SolvesAreDone = (plies : ℕ) → RunsAreDone (SolveRun plies) AsksOne

-- The same for a check of an input that is accepted.
abbrev pub VerifiesAreDone : Type 0
VerifiesAreDone = RunsAreDone VerifyRun (λ input. verdict (lines input) ≡ Accepted)

-- A question for a solution: a game of at most 5,000 moves that is not over, and 1 to 16 plies.
pub record MayAsk (t : GameType) (ms : List Move) (plies : ℕ) : Type 0 where
  pub game : IsGame t ms
  pub few : length ms ≤ 5000
  pub open_ : is_over (replay (opening t) ms) ≡ false
  pub some : 1 ≤ plies
  pub short : plies ≤ 16

-- the solution that is written for it is accepted
abbrev pub SolutionsAreAccepted : Type 0
SolutionsAreAccepted =
    (t : GameType) (ms : List Move) (plies : ℕ) → MayAsk t ms plies
    → verdict (lines (solution_text t ms plies)) ≡ Accepted

-- so whatever a run writes that ends with `Done` is accepted
abbrev pub SolvedIsAccepted : Type 0
SolvedIsAccepted =
    (plies : ℕ) → 1 ≤ plies → plies ≤ 16 → (before : Sides) → (after : Sides)
    → SolveRun plies Done before after → WritesAccepted verdict before after
