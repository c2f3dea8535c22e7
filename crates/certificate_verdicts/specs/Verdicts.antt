-- The verdict on the walk of a text's items, and how it is written.
use Rattle.std.specs.Prelude.{ℕ, ◌+◌, List, [], ◌∷◌, ◌++◌, codes, decimal}
use Rattle.certificate_walks.specs.Walks.{WalkEnd, Left, Fault, Halt}
use Rattle.certificate_walks.specs.Follows.{held}
use Rattle.strategy_check.specs.Trace.{Steps}
use Rattle.strategy_check.specs.declared.why.Why.{Why}
use Rattle.strategy_check.specs.declared.why.Why.TheVariants.{NoSuchMove, BadIndex, LeafFails, TooShort, Rest}
use Rattle.command_runs.specs.OneGame.{bad_line}
use Rattle.command_runs.specs.Reasons.{reason}
use Rattle.command_runs.specs.declared.status.Status.{Status}
use Rattle.command_runs.specs.declared.status.Status.TheVariants.{Done, Refused as IsRefused, BadInput}
use Rattle.certificate_verdicts.specs.declared.verdict.TextVerdict.{TextVerdict}
use Rattle.certificate_verdicts.specs.declared.verdict.TextVerdict.TheVariants.{Accepted, Refused, BadCite, BadLine, BadGame, GameOver}

-- The verdict on the walk of the items after a head of `head` lines. `refusal` gives the verdict
-- for a fault, from the number of items taken before it. If n items were taken before an item, it
-- is on line n + 1 after the head. No count goes beyond the greatest u64.
abbrev pub walk_verdict : {S W : Type 0} → (ℕ → W → TextVerdict) → ℕ → WalkEnd S W → TextVerdict
walk_verdict refusal head (Left s) = Accepted
walk_verdict refusal head (Fault why n) = refusal (held n) why
walk_verdict refusal head (Halt n) = BadLine (held (n + 1 + head))

-- the verdict for a fault of indices
abbrev pub index_refusal : ℕ → Why → TextVerdict
index_refusal place why = Refused place why

-- the verdict on a walk of indices
abbrev pub of_walk : ℕ → WalkEnd Steps Why → TextVerdict
of_walk = walk_verdict index_refusal

-- What is written

abbrev pub why_word : Why → List ℕ
why_word NoSuchMove = codes "move "
why_word BadIndex = codes "index "
why_word LeafFails = codes "leaf "
why_word TooShort = codes "short "
why_word Rest = codes "rest "

-- a line of two parts
abbrev pub line_of : List ℕ → List ℕ → List ℕ
line_of start text = start ++ (text ++ 10 ∷ [])

abbrev pub verdict_line : TextVerdict → List ℕ
verdict_line Accepted = line_of (codes "accepted") []
verdict_line (Refused place why) = line_of (codes "refused ") (why_word why ++ decimal place)
verdict_line (BadCite place) = line_of (codes "refused ") (codes "cite " ++ decimal place)
verdict_line (BadLine n) = bad_line (codes "line " ++ decimal n)
verdict_line (BadGame fault) = bad_line (reason fault)
verdict_line GameOver = bad_line (codes "game over")

-- the status with which a check ends
abbrev pub status_of : TextVerdict → Status
status_of Accepted = Done
status_of (Refused place why) = IsRefused
status_of (BadCite place) = IsRefused
status_of (BadLine n) = BadInput
status_of (BadGame fault) = BadInput
status_of GameOver = BadInput
