-- Solutions as texts. The head is four lines: `hive-solution 1`; a game; `plies ` and a number from
-- 1 to 16; `answer yes` or `answer no`. Each line after them is an index.
use Rattle.std.specs.Prelude.{◌≡◌, ℕ, Bool, true, false, List, ◌++◌, codes, decimal, Option, Some, None, if◌then◌else◌}
use Rattle.std.specs.Str.{bytes_eq}
use Rattle.hive_model.specs.declared.pieces.GameType.{GameType}
use Rattle.hive_model.specs.declared.places.Move.{Move}
use Rattle.hive_model.specs.Positions.{Position, opening}
use Rattle.hive_model.specs.Games.{replay}
use Rattle.hive_model.specs.Strings.{string}
use Rattle.game_text.specs.Turns.{behind_word}
use Rattle.certificate_text.specs.Text.{number_behind, then_at, written_line}
use Rattle.certificate_indices.specs.Writing.{index_lines}
use Rattle.win_solver.specs.Force.{force}
use Rattle.win_solver.specs.Solution.{least_solution}
use Rattle.command_runs.specs.GameRun.{Answers}

-- The fields of the lines

abbrev pub version_at : List ℕ → Option ℕ
version_at line = number_behind (codes "hive-solution ") 1 1 line

abbrev pub plies_at : List ℕ → Option ℕ
plies_at line = number_behind (codes "plies ") 1 16 line

abbrev pub answer_of : List ℕ → Option Bool
answer_of word =
    if bytes_eq word (codes "yes") then Some true
    else if bytes_eq word (codes "no") then Some false else None

abbrev pub answer_at : List ℕ → Option Bool
answer_at line = then_at (behind_word (codes "answer ") line) answer_of

-- The written form

abbrev pub answer_word : Bool → List ℕ
answer_word true = codes "yes"
answer_word false = codes "no"

-- the four lines of the head
unfoldable pub head_text : GameType → List Move → ℕ → Bool → List ℕ
head_text t ms plies answer =
    ((written_line (codes "hive-solution 1") ++ written_line (string t ms))
    ++ written_line (codes "plies " ++ decimal plies))
    ++ written_line (codes "answer " ++ answer_word answer)

-- whether the side to move can force a win within this number of plies
abbrev pub is_forced : Position → ℕ → Bool
is_forced p plies = force p plies p.side

-- the indices of the least solution of the true answer, one a line
abbrev pub solution_lines : Position → ℕ → List ℕ
solution_lines p plies = index_lines (least_solution p plies p.side (is_forced p plies))

-- the least solution of the true answer, for the game of this type and these moves
abbrev pub solution_text : GameType → List Move → ℕ → List ℕ
solution_text t ms plies =
    head_text t ms plies (is_forced (replay (opening t) ms) plies)
    ++ solution_lines (replay (opening t) ms) plies

-- the answer to a game: the least solution of the true answer
abbrev pub solution_of : ℕ → Answers
solution_of plies game text = text ≡ solution_text game.game_type game.moves plies
