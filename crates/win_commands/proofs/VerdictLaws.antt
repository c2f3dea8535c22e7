-- What an accepted text says.
use Rattle.std.proofs.Common.{◌≡◌, ℕ, Bool, true, false, List, drop, map, refl, sym, ap, ◌∙◌, Option, Some}
use Rattle.std.specs.Prelude.{Result, Ok, Err}
use Rattle.hive_model.specs.Positions.{Position}
use Rattle.hive_model.specs.Legal.{is_over}
use Rattle.io_edge.specs.Lines.{Line}
use Rattle.certificate_walks.specs.Walks.{WalkEnd, Left, Fault, Halt}
use Rattle.strategy_check.specs.declared.why.Why.{Why}
use Rattle.strategy_check.specs.Trace.{Steps}
use Rattle.certificate_text.specs.declared.head.HeadFault.{HeadFault}
use Rattle.certificate_text.specs.Text.{index_in}
use Rattle.win_solver.specs.Solution.{solved}
use Rattle.win_solver.specs.Solution.{Solves}
use Rattle.win_solver.proofs.SolutionLaws.{solved-indices, solved-sound}
use Rattle.command_runs.specs.OneGame.{last_position}
use Rattle.win_commands.specs.declared.head.Head.{Head}
use Rattle.certificate_verdicts.specs.declared.verdict.TextVerdict.TheVariants.{Accepted, GameOver}
use Rattle.certificate_verdicts.specs.Verdicts.{of_walk}
use Rattle.certificate_verdicts.proofs.TextLaws.{if-open, never-fault, verdict-is}
use Rattle.win_commands.specs.Text.{is_forced}
use Rattle.win_commands.specs.Verdicts.{head_of, of_claim, of_items, verdict}
use Rattle.win_commands.specs.Laws.{AcceptedIsTrue, HoldsSolution, IsTrueText}

-- ---- what is accepted is true

walk-true : (p : Position) (n : ℕ) (answer : Bool) (items : List (Option ℕ)) (o : WalkEnd Steps Why) → solved p n p.side answer items ≡ o → of_walk 4 o ≡ Accepted → is_forced p n ≡ answer
walk-true p n answer items (Left s) e h = solved-sound p n p.side answer items s e
walk-true p n answer items (Fault why k) e h = cc
walk-true p n answer items (Halt k) e h = cc

claim-true : (head : Head) (rest : List Line) → of_claim head rest ≡ Accepted → is_forced (last_position head.game) head.plies ≡ head.answer
claim-true head rest h = go (is_over (last_position head.game)) refl
  where
    go : (over : Bool) → is_over (last_position head.game) ≡ over → is_forced (last_position head.game) head.plies ≡ head.answer
    go true e = let same : of_claim head rest ≡ GameOver = rw e refl in cc
    go false e =
        let same : of_claim head rest ≡ of_items (last_position head.game) head.plies head.answer (map index_in rest) = rw e refl in
        walk-true (last_position head.game) head.plies head.answer (map index_in rest) (solved (last_position head.game) head.plies (last_position head.game).side head.answer (map index_in rest)) refl (sym same ∙ h)

pub accepted-true : AcceptedIsTrue
accepted-true = λ lines h. go lines (head_of lines) refl h
  where
    go : (lines : List Line) (r : Result Head HeadFault) → head_of lines ≡ r → verdict lines ≡ Accepted → (head : Head) × IsTrueText lines head
    go lines (Ok head) e h = (head, record { has_head = e; is_true = claim-true head (drop 4 lines) (sym (verdict-is 4 head_of of_claim lines (Ok head) e) ∙ h) })
    go lines (Err fault) e h = absurd (never-fault 4 head_of of_claim fault (drop 4 lines) (sym (verdict-is 4 head_of of_claim lines (Err fault) e) ∙ h))

-- ---- what is accepted holds

walk-holds : (p : Position) (n : ℕ) (answer : Bool) (items : List (Option ℕ)) (o : WalkEnd Steps Why) → solved p n p.side answer items ≡ o → of_walk 4 o ≡ Accepted →
    (indices : List ℕ) × (items ≡ map (λ i. Some i) indices) × Solves p n p.side answer indices
walk-holds p n answer items (Left s) e h = solved-indices p n p.side answer items s e
walk-holds p n answer items (Fault why k) e h = cc
walk-holds p n answer items (Halt k) e h = cc

claim-holds : (ls : List Line) (head : Head) (over : Bool) → head_of ls ≡ Ok head → is_over (last_position head.game) ≡ over → of_claim head (drop 4 ls) ≡ Accepted →
    (head : Head) × (indices : List ℕ) × HoldsSolution ls head indices
claim-holds ls head true has e h = let same : of_claim head (drop 4 ls) ≡ GameOver = rw e refl in cc
claim-holds ls head false has e h =
    let p = last_position head.game in
    let items = map index_in (drop 4 ls) in
    let same : of_claim head (drop 4 ls) ≡ of_items p head.plies head.answer items = rw e refl in
    let (indices, are, solves) = walk-holds p head.plies head.answer items (solved p head.plies p.side head.answer items) refl (sym same ∙ h) in
    (head, indices, record { has_head = has; open_ = e; are_indices = are; solves = solves })

pub accepted-holds : (ls : List Line) → verdict ls ≡ Accepted → (head : Head) × (indices : List ℕ) × HoldsSolution ls head indices
accepted-holds ls h = go (head_of ls) refl
  where
    go : (r : Result Head HeadFault) → head_of ls ≡ r → (head : Head) × (indices : List ℕ) × HoldsSolution ls head indices
    go (Ok head) e = claim-holds ls head (is_over (last_position head.game)) e refl (sym (verdict-is 4 head_of of_claim ls (Ok head) e) ∙ h)
    go (Err fault) e = absurd (never-fault 4 head_of of_claim fault (drop 4 ls) (sym (verdict-is 4 head_of of_claim ls (Err fault) e) ∙ h))

-- and what holds is accepted
pub held-accepted : (ls : List Line) (head : Head) (indices : List ℕ) → HoldsSolution ls head indices → verdict ls ≡ Accepted
held-accepted ls head indices h =
    let p = last_position head.game in
    verdict-is 4 head_of of_claim ls (Ok head) h.has_head
    ∙ if-open (is_over p) (of_items p head.plies head.answer (map index_in (drop 4 ls))) h.open_
    ∙ ap (of_items p head.plies head.answer) h.are_indices
    ∙ ap (of_walk 4) h.solves.1
