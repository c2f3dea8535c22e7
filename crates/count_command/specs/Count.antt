-- What a count writes.
use Rattle.std.specs.Prelude.{◌≡◌, ℕ, zero, suc, List, [], ◌∷◌, ◌++◌, decimal}
use Rattle.hive_model.specs.Positions.{Position}
use Rattle.hive_model.specs.Minimax.{lines as lines_of_play}
use Rattle.command_runs.specs.OneGame.{last_position}
use Rattle.command_runs.specs.Input.{Sides}
use Rattle.command_runs.specs.GameRun.{Answers, GameRun}
use Rattle.command_runs.specs.declared.status.Status.{Status}

-- the line for a number of plies and a number of lists: the first, a space (32), the second
abbrev pub count_line_of : ℕ → ℕ → List ℕ
count_line_of plies lists = decimal plies ++ 32 ∷ (decimal lists ++ 10 ∷ [])

-- the line for n: how many lists of n legal moves there are
abbrev pub count_line : Position → ℕ → List ℕ
count_line p n = count_line_of n (lines_of_play p n)

-- the lines for 1 to n
abbrev pub count_text : Position → ℕ → List ℕ
count_text p zero = []
count_text p (suc n) = count_text p n ++ count_line p (suc n)

-- the answer to a game: the counts of its last position
abbrev pub counts_of : ℕ → Answers
counts_of plies game text = text ≡ count_text (last_position game) plies

-- what was written and read if a count of up to this number of plies ends with this status
abbrev pub CountRun : ℕ → Status → Sides → Sides → Type 0
CountRun plies status before after = GameRun (counts_of plies) status before after
