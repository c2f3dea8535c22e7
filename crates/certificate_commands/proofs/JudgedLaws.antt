-- The judgements of lines that have the same verdict.
use Rattle.std.proofs.Common.{◌≡◌, ℕ, Bool, true, false, List, refl, sym, ap, subst, ◌∙◌}
use Rattle.std.specs.Prelude.{Result, if◌then◌else◌}
use Rattle.io_edge.specs.Outside.{Aside}
use Rattle.hive_model.specs.Histories.{History, position}
use Rattle.hive_model.specs.Legal.{is_over}
use Rattle.io_edge.specs.Lines.{Line}
use Rattle.line_feed.specs.Feed.{Reading}
use Rattle.certificate_walks.specs.declared.claim.Claim.{Claim}
use Rattle.certificate_text.specs.declared.head.Head.{Head}
use Rattle.certificate_verdicts.specs.declared.verdict.TextVerdict.{TextVerdict}
use Rattle.certificate_verdicts.specs.declared.verdict.Unread.{Unread}
use Rattle.certificate_verdicts.specs.Judging.{JudgesAhead}
use Rattle.certificate_verdicts.specs.Reading.{Judges}
use Rattle.certificate_verdicts.specs.Runs.{IsUndecided, Judgement}
use Rattle.certificate_verdicts.proofs.TextLaws.{if-open}
use Rattle.certificate_commands.specs.Claims.{Claims}
use Rattle.certificate_commands.specs.Verdicts.{claimed_move, end_of, of_claim, of_lines, of_move}
use Rattle.certificate_commands.proofs.ClaimLaws.{ends-there}

pub judges-as : (head most : ℕ) (worth other : Judgement) (result : Result TextVerdict Unread) (reader : Reading) (source later : Aside) → ((left : List Line) → worth left ≡ other left) → JudgesAhead head worth most result reader source later → JudgesAhead head other most result reader source later
judges-as head most worth other result reader source later same h = record {
  judged = λ left told. subst (λ (v : TextVerdict). Judges result v) (same left) (h.judged left told);
  cause = h.cause;
  read = h.read;
  unread = λ left told text r e. subst (λ (v : TextVerdict). IsUndecided head v text later.bytes) (same left) (h.unread left told text r e);
}

pub if-first : (b : Bool) (v w : TextVerdict) → b ≡ true → v ≡ (if b then v else w)
if-first true v w e = refl
if-first false v w e = cc

pub if-later : (b : Bool) (v w : TextVerdict) → b ≡ false → w ≡ (if b then v else w)
if-later true v w e = cc
if-later false v w e = refl

-- the claim of a head, as one of the game in progress
pub claim-lines : (head : Head) (c : History) (claim : Claim) → Claims head c claim → (left : List Line) → of_lines head.version (position c) claim.depth claim.best claim.value left ≡ of_claim head left
claim-lines head c claim is left =
    let goes : is_over (end_of head) ≡ false = sym (ap is_over (ends-there head c is.kind is.made)) ∙ is.may_be.inner.open_ in
    (λ i. of_lines head.version (ends-there head c is.kind is.made i) (is.depth i) claim.best (is.value i) left)
    ∙ (ap (λ r. of_move head.version (end_of head) head.depth r head.value left) (sym is.denotes)
    ∙ sym (if-open (is_over (end_of head)) (of_move head.version (end_of head) head.depth (claimed_move head) head.value left) goes))
