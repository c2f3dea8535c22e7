-- The verdict on a text by its head, and what a reader lent to a walk has read.
use Rattle.std.proofs.Common.{◌≡◌, ◌<◌, ◌≤◌, ℕ, ◌+◌, ◌-◌, ◌^◌, min, Bool, true, false, List, drop, length, refl, sym, ap, subst, arith}
use Rattle.std.specs.Prelude.{Result, Ok, Err, if◌then◌else◌}
use Rattle.io_edge.specs.Outside.{Told}
use Rattle.io_edge.specs.Lines.{Line, ToldLines}
use Rattle.line_feed.specs.Feed.{Reading, input_limit}
use Rattle.certificate_walks.specs.Walks.{WalkEnd, Left, Fault, Halt}
use Rattle.certificate_walks.specs.Follows.{held}
use Rattle.certificate_walks.specs.Answers.{Faults, CountsUnread}
use Rattle.certificate_text.specs.declared.head.HeadFault.{HeadFault}
use Rattle.certificate_text.specs.declared.head.HeadFault.TheVariants.{BadLine as LineFault, BadGame as NoGame, ReadFault as NoRead, InputFull as IsFull, Memory as NoMemory}
use Rattle.certificate_text.specs.Heads.{BreaksOff, IsBehind, Reads}
use Rattle.certificate_text.specs.Taken.{HasRead}
use Rattle.certificate_text.proofs.TakenLaws.{within-limit}
use Rattle.command_runs.proofs.ReadLemmas.{given_were_read}
use Rattle.certificate_verdicts.specs.declared.verdict.TextVerdict.{TextVerdict}
use Rattle.certificate_verdicts.specs.declared.verdict.TextVerdict.TheVariants.{Accepted, GameOver}
use Rattle.certificate_verdicts.specs.declared.verdict.Unread.{Unread}
use Rattle.certificate_verdicts.specs.Judging.{of_head, text_verdict}
use Rattle.certificate_verdicts.specs.Reading.{Judges, of_fault}
use Rattle.certificate_verdicts.specs.Verdicts.{walk_verdict}
use Rattle.certificate_verdicts.specs.Runs.{IsDecidedBehind, IsUndecided, Judgement}

module _ {H : Type 0} (n : ℕ) (head_of : List Line → Result H HeadFault) (worth : H → Judgement) where
  pub verdict-is : (ls : List Line) (r : Result H HeadFault) → head_of ls ≡ r → text_verdict n head_of worth ls ≡ of_head worth r (drop n ls)
  unfolding text_verdict
  verdict-is ls r e = ap (λ h. of_head worth h (drop n ls)) e

  -- what does not decide the lines after a head does not decide the text
  pub head-undecided : (ls : List Line) (head : H) (text : List ℕ) (rest : Told) → head_of ls ≡ Ok head → IsUndecided n (worth head (drop n ls)) text rest → IsUndecided n (text_verdict n head_of worth ls) text rest
  head-undecided ls head text rest e h = subst (λ (v : TextVerdict). IsUndecided n v text rest) (sym (verdict-is ls (Ok head) e)) h

  -- if there is no head
  of-fault : (ls : List Line) (fault : HeadFault) (later : ToldLines) → (let r : Result H HeadFault = Err fault in Reads n r (head_of ls) ls later) → Judges (of_fault fault) (text_verdict n head_of worth ls)
  of-fault ls (LineFault k) later h = verdict-is ls (Err (LineFault k)) h
  of-fault ls (NoGame fault) later h = verdict-is ls (Err (NoGame fault)) h
  of-fault ls NoRead later h = tt
  of-fault ls IsFull later h = tt
  of-fault ls NoMemory later h = tt

  pub fault-judges : (ls : List Line) (fault : HeadFault) (result : Result TextVerdict Unread) (later : ToldLines) → result ≡ of_fault fault →
      (let r : Result H HeadFault = Err fault in Reads n r (head_of ls) ls later) → Judges result (text_verdict n head_of worth ls)
  fault-judges ls fault result later e h = subst (λ (r : Result TextVerdict Unread). Judges r (text_verdict n head_of worth ls)) (sym e) (of-fault ls fault later h)

  -- if a read failed within a head
  broken-at : ((head : H) (rest : List Line) (m : ℕ) → m < n → IsDecidedBehind n (worth head rest) m) → (r : Result H HeadFault) (rest : List Line) (lines m : ℕ) → lines < n → m ≤ lines → IsBehind lines r → IsDecidedBehind n (of_head worth r rest) m
  broken-at not_yet (Ok head) rest lines m less few sound = not_yet head rest m (omega (arith, less, few))
  broken-at not_yet (Err (LineFault k)) rest lines m less few sound = omega (arith, few, sound)
  broken-at not_yet (Err (NoGame fault)) rest lines m less few sound = omega (arith, few, sound)
  broken-at not_yet (Err NoRead) rest lines m less few sound = absurd sound
  broken-at not_yet (Err IsFull) rest lines m less few sound = absurd sound
  broken-at not_yet (Err NoMemory) rest lines m less few sound = absurd sound

  pub broken-unread : ((head : H) (rest : List Line) (m : ℕ) → m < n → IsDecidedBehind n (worth head rest) m) → (ls : List Line) (text : List ℕ) (rest : Told) (reader : Reading) → BreaksOff n (head_of ls) text rest reader →
      IsUndecided n (text_verdict n head_of worth ls) text rest
  broken-unread not_yet ls text rest reader b =
      let r = b.taken in (
        r.given,
        given_were_read text r.fed refl r.within r.little,
        subst (λ (v : TextVerdict). IsDecidedBehind n v (length r.given)) (sym (verdict-is ls (head_of ls) refl)) (broken-at not_yet (head_of ls) (drop n ls) b.lines (length r.given) b.fewer r.few b.sound),
      )

  -- no fault of a head is accepted
  pub never-fault : (fault : HeadFault) (rest : List Line) → (let r : Result H HeadFault = Err fault in of_head worth r rest ≡ Accepted) → ⊥
  never-fault (LineFault k) rest e = cc
  never-fault (NoGame fault) rest e = cc
  never-fault NoRead rest e = cc
  never-fault IsFull rest e = cc
  never-fault NoMemory rest e = cc

-- before the first item after a head, only the lines of the head were read
pub read-begins : (head : ℕ) (text : List ℕ) (rest0 rest1 : Told) (reader0 reader1 : Reading) (lines : ℕ) → reader1 ≡ reader0 → rest1 ≡ rest0 → lines ≡ 0 → HasRead text rest0 reader0 head → HasRead text rest1 reader1 (head + lines)
read-begins head text rest0 rest1 reader0 reader1 lines same_reader same_rest none r =
    let same : head ≡ head + lines = omega (arith, none) in
    subst (λ (n : ℕ). HasRead text rest1 reader1 n) same (subst (λ (x : Reading). HasRead text rest1 x head) (sym same_reader) (subst (λ (x : Told). HasRead text x reader0 head) (sym same_rest) r))

-- a game that goes on gets its own verdict
pub if-open : (over : Bool) (v : TextVerdict) → over ≡ false → (if over then GameOver else v) ≡ v
if-open true v e = cc
if-open false v e = refl

-- ---- if a walk was unread

module _ {S W : Type 0} (faults : Faults W) (refusal : ℕ → W → TextVerdict) (decides : (head lines place : ℕ) (why : W) → lines < head + place + faults.looked_for why → IsDecidedBehind head (refusal place why) lines) where
  walk-behind : (head lines n : ℕ) (o : WalkEnd S W) → CountsUnread faults o lines → n ≤ head + lines → n ≤ input_limit → IsDecidedBehind head (walk_verdict refusal head o) n
  walk-behind head lines n (Left s) less few within = tt
  walk-behind head lines n (Fault why k) less few within = decides head n (held k) why (omega (arith, less, few, within))
  walk-behind head lines n (Halt k) less few within = omega (arith, less, few, within)

  pub walk-unread : (head lines : ℕ) (o : WalkEnd S W) (text : List ℕ) (rest : Told) (reader : Reading) → CountsUnread faults o lines → HasRead text rest reader (head + lines) → IsUndecided head (walk_verdict refusal head o) text rest
  walk-unread head lines o text rest reader less r =
      (r.given, given_were_read text r.fed refl r.within r.little, walk-behind head lines (length r.given) o less r.few (within-limit text rest reader (head + lines) r))
