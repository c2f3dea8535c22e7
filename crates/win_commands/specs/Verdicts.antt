-- The verdict on the lines of a text as a solution.
use Rattle.std.proofs.Common.{arith}
use Rattle.std.specs.Prelude.{ℕ, ◌<◌, ◌≤◌, Bool, true, false, List, length, map, drop, Option, Result, Ok, if◌then◌else◌}
use Rattle.hive_model.specs.Positions.{Position}
use Rattle.hive_model.specs.Legal.{is_over}
use Rattle.hive_model.specs.Games.{IsGame}
use Rattle.io_edge.specs.Lines.{Line}
use Rattle.certificate_text.specs.declared.head.HeadFault.{HeadFault}
use Rattle.certificate_text.specs.Text.{and_then, field_in, game_in, index_in}
use Rattle.certificate_walks.specs.Walks.{WalkEnd}
use Rattle.strategy_check.specs.Trace.{Steps}
use Rattle.strategy_check.specs.declared.why.Why.{Why}
use Rattle.win_solver.specs.Solution.{solved}
use Rattle.command_runs.specs.OneGame.{last_position}
use Rattle.win_commands.specs.declared.head.Head.{Head}
use Rattle.certificate_verdicts.specs.declared.verdict.TextVerdict.{TextVerdict}
use Rattle.certificate_verdicts.specs.declared.verdict.TextVerdict.TheVariants.{GameOver}
use Rattle.certificate_verdicts.specs.Judging.{text_verdict}
use Rattle.certificate_verdicts.specs.Runs.{IsDecidedBehind, not-yet}
use Rattle.certificate_verdicts.specs.Verdicts.{index_refusal, of_walk}
use Rattle.win_commands.specs.Text.{version_at, plies_at, answer_at}

-- The head

-- The head that the first four lines are; or the first of them that is missing, too long or
-- malformed, or what is wrong with the game.
unfoldable pub head_of : List Line → Result Head HeadFault
head_of lines =
    and_then (field_in 1 version_at lines) (λ version.
    and_then (game_in (drop 1 lines)) (λ game.
    and_then (field_in 3 plies_at (drop 2 lines)) (λ plies.
    and_then (field_in 4 answer_at (drop 3 lines)) (λ answer.
    Ok (record { game = game; plies = plies; answer = answer })))))

-- what holds of every head that was read
pub record IsHead (head : Head) : Type 0 where
  pub legal : IsGame head.game.game_type head.game.moves
  pub few : length head.game.moves ≤ 5000
  pub some : 1 ≤ head.plies
  pub short : head.plies ≤ 16

-- The verdict

-- the verdict on the items of the lines after the head, for its answer about a position
abbrev pub of_items : Position → ℕ → Bool → List (Option ℕ) → TextVerdict
of_items p plies answer items = of_walk 4 (solved p plies p.side answer items)

-- the same for a head and the lines after it; no answer is about a game that is over
abbrev pub of_claim : Head → List Line → TextVerdict
of_claim head rest =
    if is_over (last_position head.game) then GameOver
    else of_items (last_position head.game) head.plies head.answer (map index_in rest)

-- the verdict on the lines of a text
abbrev pub verdict : List Line → TextVerdict
verdict = text_verdict 4 head_of of_claim

-- the lines of the head alone never decide the verdict

claim-later : (n : ℕ) (over : Bool) (o : WalkEnd Steps Why) → n < 4
    → IsDecidedBehind 4 (if over then GameOver else of_walk 4 o) n
claim-later n true o less = less
claim-later n false o less =
    not-yet index_refusal 4 n o (λ place why. omega (arith, less)) less (omega arith)

pub claim-not-yet : (head : Head) (rest : List Line) (n : ℕ) → n < 4
    → IsDecidedBehind 4 (of_claim head rest) n
claim-not-yet head rest n less =
    let p = last_position head.game in
    claim-later n (is_over p) (solved p head.plies p.side head.answer (map index_in rest)) less
