-- What is accepted holds.
use Rattle.std.proofs.Common.{◌≡◌, ◌⊎◌, inl, inr, ℕ, Bool, true, false, List, drop, map, refl, sym, ◌∙◌, Option, Some}
use Rattle.std.specs.Prelude.{Result, Ok, Err, ℤ}
use Rattle.hive_model.specs.declared.places.Move.{Move}
use Rattle.hive_model.specs.Positions.{Position}
use Rattle.hive_model.specs.Legal.{is_over}
use Rattle.io_edge.specs.Lines.{Line}
use Rattle.move_text.specs.declared.faults.MoveFault.{MoveFault}
use Rattle.certificate_walks.specs.Walks.{WalkEnd, Left, Fault, Halt}
use Rattle.strategy_check.specs.declared.why.Why.{Why}
use Rattle.strategy_check.specs.Trace.{Holds, Steps, checked}
use Rattle.strategy_check.proofs.TakenLaws.{accepted-indices}
use Rattle.strategy_lemmas.specs.declared.tokens.Token.{Token}
use Rattle.strategy_lemmas.specs.declared.tokens.WhyCited.{WhyCited}
use Rattle.strategy_lemmas.specs.declared.tokens.WhyCited.TheVariants.{NoSuchMove, BadIndex, BadCite, LeafFails, TooShort, Rest}
use Rattle.strategy_lemmas.specs.Cited.{CitedSteps, HoldsCited, cited_checked}
use Rattle.certificate_citing.specs.TokenText.{token_in}
use Rattle.certificate_text.specs.declared.head.Head.{Head}
use Rattle.certificate_text.specs.Text.{HeadRead, head_of, index_in}
use Rattle.certificate_verdicts.proofs.TextLaws.{never-fault, verdict-is}
use Rattle.certificate_verdicts.specs.declared.verdict.TextVerdict.TheVariants.{Accepted, GameOver}
use Rattle.certificate_verdicts.specs.Judging.{of_head}
use Rattle.certificate_verdicts.specs.Verdicts.{of_walk}
use Rattle.certificate_commands.specs.Verdicts.{claimed_move, end_of, of_claim, of_items, of_tokens, of_cited, of_lines, of_move, verdict}
use Rattle.certificate_commands.specs.Laws.{IsHeld}
use Rattle.certificate_commands.proofs.CheckLaws.{held-accepted, held-cited}
use Rattle.certificate_commands.proofs.HeadLaws.{either-version}
use Rattle.certificate_commands.proofs.TokenLaws.{accepted-tokens}

walk-held : (p : Position) (d : ℕ) (m : Move) (v : ℤ) (items : List (Option ℕ)) (o : WalkEnd Steps Why) → checked p d m v items ≡ o → of_walk 5 o ≡ Accepted →
    (indices : List ℕ) × (items ≡ map (λ i. Some i) indices) × Holds p d m v indices
walk-held p d m v items (Left s) e h = accepted-indices p d m v items s e
walk-held p d m v items (Fault why n) e h = cc
walk-held p d m v items (Halt n) e h = cc

cited-held : (p : Position) (d : ℕ) (m : Move) (v : ℤ) (items : List (Option Token)) (o : WalkEnd CitedSteps WhyCited) → cited_checked p d m v items ≡ o → of_cited 5 o ≡ Accepted →
    (tokens : List Token) × (items ≡ map (λ t. Some t) tokens) × HoldsCited p d m v tokens
cited-held p d m v items (Left s) e h = accepted-tokens p d m v items s e
cited-held p d m v items (Fault NoSuchMove n) e h = cc
cited-held p d m v items (Fault BadIndex n) e h = cc
cited-held p d m v items (Fault BadCite n) e h = cc
cited-held p d m v items (Fault LeafFails n) e h = cc
cited-held p d m v items (Fault TooShort n) e h = cc
cited-held p d m v items (Fault Rest n) e h = cc
cited-held p d m v items (Halt n) e h = cc

-- the version of a head that was read is the first or the second
lines-held : (ls : List Line) (head : Head) (m : Move) → head_of 2 ls ≡ Ok head → (head.version ≡ 1) ⊎ (head.version ≡ 2) → is_over (end_of head) ≡ false → claimed_move head ≡ Ok m
    → of_lines head.version (end_of head) head.depth m head.value (drop 5 ls) ≡ Accepted → IsHeld ls
lines-held ls head m has (inl one) goes denotes h =
    let p = end_of head in
    let items = map index_in (drop 5 ls) in
    let same : of_lines head.version p head.depth m head.value (drop 5 ls) ≡ of_items p head.depth m head.value items = rw one refl in
    let (indices, are, hold) = walk-held p head.depth m head.value items (checked p head.depth m head.value items) refl (sym same ∙ h) in
    (head, m, inl (indices, record { claims = record { has_head = has; is_of = one; open_ = goes; denotes = denotes }; are_items = are; hold = hold }))
lines-held ls head m has (inr two) goes denotes h =
    let p = end_of head in
    let items = map token_in (drop 5 ls) in
    let same : of_lines head.version p head.depth m head.value (drop 5 ls) ≡ of_tokens p head.depth m head.value items = rw two refl in
    let (tokens, are, hold) = cited-held p head.depth m head.value items (cited_checked p head.depth m head.value items) refl (sym same ∙ h) in
    (head, m, inr (tokens, record { claims = record { has_head = has; is_of = two; open_ = goes; denotes = denotes }; are_items = are; hold = hold }))

move-held : (ls : List Line) (head : Head) (r : Result Move MoveFault) → head_of 2 ls ≡ Ok head → is_over (end_of head) ≡ false → claimed_move head ≡ r
    → of_move head.version (end_of head) head.depth r head.value (drop 5 ls) ≡ Accepted → IsHeld ls
move-held ls head (Err fault) has goes e h = cc
move-held ls head (Ok m) has goes e h = lines-held ls head m has (either-version ls head has) goes e h

claim-held : (ls : List Line) (head : Head) (over : Bool) → head_of 2 ls ≡ Ok head → is_over (end_of head) ≡ over → of_claim head (drop 5 ls) ≡ Accepted → IsHeld ls
claim-held ls head true has e h = let same : of_claim head (drop 5 ls) ≡ GameOver = rw e refl in cc
claim-held ls head false has e h =
    let same : of_claim head (drop 5 ls) ≡ of_move head.version (end_of head) head.depth (claimed_move head) head.value (drop 5 ls) = rw e refl in
    move-held ls head (claimed_move head) has e refl (sym same ∙ h)

pub accepted-held : (ls : List Line) → verdict ls ≡ Accepted → IsHeld ls
accepted-held ls h = go (head_of 2 ls) refl (sym (verdict-is 5 (head_of 2) of_claim ls (head_of 2 ls) refl) ∙ h)
  where
    go : (r : HeadRead) → head_of 2 ls ≡ r → of_head of_claim r (drop 5 ls) ≡ Accepted → IsHeld ls
    go (Ok head) e h = claim-held ls head (is_over (end_of head)) e refl h
    go (Err fault) e h = absurd (never-fault 5 (head_of 2) of_claim fault (drop 5 ls) h)

pub is-held-accepted : (ls : List Line) → IsHeld ls → verdict ls ≡ Accepted
is-held-accepted ls (head, m, inl (indices, holds)) = held-accepted ls head m indices holds
is-held-accepted ls (head, m, inr (tokens, holds)) = held-cited ls head m tokens holds
