-- What an accepted text says, and which texts are accepted.
use Rattle.std.proofs.Common.{◌≡◌, ℕ, Bool, true, false, List, drop, map, refl, sym, ap, subst, ◌∙◌, Option, Some}
use Rattle.std.specs.Prelude.{nat_eq, Result, Ok, Err, ℤ, if◌then◌else◌}
use Rattle.hive_model.specs.declared.pieces.GameType.{GameType}
use Rattle.hive_model.specs.declared.places.Move.{Move}
use Rattle.hive_model.specs.Positions.{Position, opening}
use Rattle.hive_model.specs.Histories.{History}
use Rattle.hive_model.specs.Legal.{is_over}
use Rattle.hive_model.specs.Games.{replay}
use Rattle.hive_model.specs.Denotes.{Denotes}
use Rattle.io_edge.specs.Lines.{Line, lines}
use Rattle.hive_model.specs.Minimax.{IsInner, best, value}
use Rattle.search_laws.proofs.MinimaxLaws.{value-fits}
use Rattle.move_text.specs.declared.faults.MoveFault.{MoveFault}
use Rattle.move_text.proofs.MoveLaws.{of_denotes}
use Rattle.game_text.proofs.ReadLaws.{kind_here}
use Rattle.certificate_walks.specs.Walks.{WalkEnd, Left, Fault, Halt}
use Rattle.strategy_check.specs.declared.why.Why.{Why}
use Rattle.strategy_check.specs.Trace.{Steps, checked}
use Rattle.strategy_check.proofs.TakenLaws.{accepted-indices}
use Rattle.strategy_check.proofs.TraceLaws.{holds-sound}
use Rattle.strategy_lemmas.specs.declared.tokens.Token.{Token}
use Rattle.strategy_lemmas.specs.declared.tokens.WhyCited.{WhyCited}
use Rattle.strategy_lemmas.specs.declared.tokens.WhyCited.TheVariants.{NoSuchMove, BadIndex, BadCite, LeafFails, TooShort, Rest}
use Rattle.strategy_lemmas.specs.Cited.{CitedSteps, cited_checked, IsReached}
use Rattle.strategy_lemmas.proofs.CitedLaws.{items-sound}
use Rattle.certificate_citing.specs.TokenText.{token_in}
use Rattle.certificate_text.specs.declared.head.Head.{Head}
use Rattle.certificate_text.specs.Text.{HeadRead, head_of, index_in}
use Rattle.strategy_make.specs.Making.{certificate, least_indices}
use Rattle.strategy_make.specs.Laws.{MayClaim, claimed}
use Rattle.strategy_make.proofs.MakeLaws.{best-on}
use Rattle.strategy_make.proofs.ReadLaws.{heads, indices, least-hold, legal-text, move-text}
use Rattle.io_edge.specs.Outside.{behind}
use Rattle.certificate_verdicts.proofs.AskedLaws.{asked-open}
use Rattle.certificate_verdicts.proofs.TextLaws.{if-open, never-fault, verdict-is}
use Rattle.certificate_verdicts.specs.declared.verdict.TextVerdict.TheVariants.{Accepted, GameOver}
use Rattle.certificate_verdicts.specs.Judging.{of_head}
use Rattle.certificate_verdicts.specs.Verdicts.{of_walk}
use Rattle.certificate_commands.specs.Verdicts.{claimed_move, end_of, of_claim, of_items, of_tokens, of_cited, of_lines, of_move, verdict}
use Rattle.certificate_commands.specs.Laws.{AcceptedIsTrue, CertificatesAreAccepted, CertifiedIsAccepted, ClaimsIn, HeldIsAccepted, HeldCitedIsAccepted, IsTrueClaim, MayCertify}
use Rattle.certificate_commands.proofs.HeadLaws.{Keeps, head-keeps, end-reached, head-later}

-- ---- what is accepted is true

walk-true : (p : Position) (d : ℕ) (m : Move) (v : ℤ) (items : List (Option ℕ)) (o : WalkEnd Steps Why) → IsInner p d → checked p d m v items ≡ o → of_walk 5 o ≡ Accepted → (best p d ≡ Some m) × (value p d ≡ v)
walk-true p d m v items (Left s) inner e h = let (taken, is, holds) = accepted-indices p d m v items s e in holds-sound p d m v taken inner holds
walk-true p d m v items (Fault why n) inner e h = cc
walk-true p d m v items (Halt n) inner e h = cc

cited-true : (p : Position) (d : ℕ) (m : Move) (v : ℤ) (items : List (Option Token)) (o : WalkEnd CitedSteps WhyCited) → IsReached p d → IsInner p d → cited_checked p d m v items ≡ o → of_cited 5 o ≡ Accepted →
    (best p d ≡ Some m) × (value p d ≡ v)
cited-true p d m v items (Left s) reached inner e h = items-sound p d m v items s reached inner e
cited-true p d m v items (Fault NoSuchMove n) reached inner e h = cc
cited-true p d m v items (Fault BadIndex n) reached inner e h = cc
cited-true p d m v items (Fault BadCite n) reached inner e h = cc
cited-true p d m v items (Fault LeafFails n) reached inner e h = cc
cited-true p d m v items (Fault TooShort n) reached inner e h = cc
cited-true p d m v items (Fault Rest n) reached inner e h = cc
cited-true p d m v items (Halt n) reached inner e h = cc

lines-true : (version : ℕ) (p : Position) (d : ℕ) (m : Move) (v : ℤ) (rest : List Line) → IsReached p d → IsInner p d → of_lines version p d m v rest ≡ Accepted → (best p d ≡ Some m) × (value p d ≡ v)
lines-true version p d m v rest reached inner h = at (nat_eq version 1) h
  where
    at : (b : Bool) → (if b then of_items p d m v (map index_in rest) else of_tokens p d m v (map token_in rest)) ≡ Accepted → (best p d ≡ Some m) × (value p d ≡ v)
    at true e = walk-true p d m v (map index_in rest) (checked p d m v (map index_in rest)) inner refl e
    at false e = cited-true p d m v (map token_in rest) (cited_checked p d m v (map token_in rest)) reached inner refl e

-- the text of the claimed move denotes one, which is the best one and has the claimed value
abbrev Claims : Head → Type 0
Claims head = (m : Move) × (claimed_move head ≡ Ok m) × (best (end_of head) head.depth ≡ Some m) × (value (end_of head) head.depth ≡ head.value)

move-true : (head : Head) (rest : List Line) (r : Result Move MoveFault) → IsReached (end_of head) head.depth → IsInner (end_of head) head.depth → claimed_move head ≡ r →
    of_move head.version (end_of head) head.depth r head.value rest ≡ Accepted → Claims head
move-true head rest (Err fault) reached inner e h = cc
move-true head rest (Ok m) reached inner e h =
    let t = lines-true head.version (end_of head) head.depth m head.value rest reached inner h in (m, e, t.0, t.1)

claim-true : (head : Head) (rest : List Line) (over : Bool) → Keeps head → is_over (end_of head) ≡ over → of_claim head rest ≡ Accepted → Claims head
claim-true head rest true some e h = let same : of_claim head rest ≡ GameOver = rw e refl in cc
claim-true head rest false some e h =
    let same : of_claim head rest ≡ of_move head.version (end_of head) head.depth (claimed_move head) head.value rest = rw e refl in
    move-true head rest (claimed_move head) (end-reached head some) (record { deep = some.some; open_ = e }) refl (sym same ∙ h)

pub accepted-true : AcceptedIsTrue
accepted-true = λ ls h. go ls (head_of 2 ls) refl (sym (verdict-is 5 (head_of 2) of_claim ls (head_of 2 ls) refl) ∙ h)
  where
    go : (ls : List Line) (r : HeadRead) → head_of 2 ls ≡ r → of_head of_claim r (drop 5 ls) ≡ Accepted → (head : Head) × (m : Move) × IsTrueClaim ls head m
    go ls (Ok head) e h =
        let (m, denotes, first, worth) = claim-true head (drop 5 ls) (is_over (end_of head)) (head-keeps 2 ls head e) refl h in
        (head, m, record { has_head = e; denotes = denotes; is_best = first; is_worth = worth })
    go ls (Err fault) e h = absurd (never-fault 5 (head_of 2) of_claim fault (drop 5 ls) h)

-- ---- what holds is accepted

-- of lines with a claim, those after the head are judged
claim-judged : (ls : List Line) (version : ℕ) (head : Head) (m : Move) → ClaimsIn ls version head m
    → verdict ls ≡ of_lines version (end_of head) head.depth m head.value (drop 5 ls)
claim-judged ls version head m h =
    let p : Position = end_of head in
    verdict-is 5 (head_of 2) of_claim ls (Ok head) h.has_head
    ∙ if-open (is_over p) (of_move head.version p head.depth (claimed_move head) head.value (drop 5 ls)) h.open_
    ∙ ap (λ r. of_move head.version p head.depth r head.value (drop 5 ls)) h.denotes
    ∙ ap (λ n. of_lines n p head.depth m head.value (drop 5 ls)) h.is_of

pub held-accepted : HeldIsAccepted
held-accepted = λ ls head m indices h.
    claim-judged ls 1 head m h.claims
    ∙ ap (of_items (end_of head) head.depth m head.value) h.are_items
    ∙ ap (of_walk 5) h.hold.1

pub held-cited : HeldCitedIsAccepted
held-cited = λ ls head m tokens h.
    claim-judged ls 2 head m h.claims
    ∙ ap (of_tokens (end_of head) head.depth m head.value) h.are_items
    ∙ ap (of_cited 5) h.hold.1

-- the written text of a legal move denotes it
pub named : (t : GameType) (ms : List Move) (d : ℕ) (m : Move) (v : ℤ) → MayClaim t ms d m v → claimed_move (claimed t ms d m v) ≡ Ok m
named t ms d m v may =
    let history : History = record { game_type = t; made = ms; spare = 0 } in
    of_denotes t (replay (opening t) ms).board (move-text t ms m) m
    (subst (λ (k : GameType). Denotes k (replay (opening t) ms).board (move-text t ms m) m) (kind_here history) (legal-text t ms m may.game may.few may.legal))

pub certificate-accepted : CertificatesAreAccepted
certificate-accepted = λ t ms depth m h.
    let p : Position = replay (opening t) ms in
    let v : ℤ = value p depth in
    let may : MayClaim t ms depth m v = record {
      game = h.game;
      few = h.few;
      legal = best-on p depth m h.is_best;
      some = h.some;
      deep = h.deep;
      small = value-fits p depth v h.deep refl;
    } in
    held-accepted (lines (certificate t ms depth m v)) (claimed t ms depth m v) m (least_indices p depth m v) (record {
      claims = record {
        has_head = head-later (lines (certificate t ms depth m v)) (claimed t ms depth m v) (heads t ms depth m v may);
        is_of = refl;
        open_ = h.open_;
        denotes = named t ms depth m v may;
      };
      are_items = indices t ms depth m v may;
      hold = least-hold p depth m (record { deep = h.some; open_ = h.open_ }) h.is_best;
    })

pub certified-accepted : CertifiedIsAccepted
certified-accepted = λ depth some deep before after run input told none.
    let (text, wrote) = run input told in
    let (game, is_asked, (m, is)) = wrote.answer in
    let here = asked-open (lines input) game is_asked.asks in
    let may : MayCertify game.game_type game.moves depth m = record {
      game = here.legal;
      few = here.few;
      open_ = here.goes_on;
      some = some;
      deep = deep;
      is_best = is.is_best;
    } in (
      text,
      wrote.wrote ∙ ap (λ w. behind w text) none,
      ap (λ x. verdict (lines x)) is.is_text ∙ certificate-accepted game.game_type game.moves depth m may,
    )
