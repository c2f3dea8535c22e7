-- What is judged of a text, what was read of it, and how a run ends.
use Rattle.std.proofs.Common.{◌≡◌, ℕ, take, ◌<◌, ◌≤◌, ◌+◌, ◌-◌, ◌^◌, min, arith, Bool, true, List, [], ◌++◌, length, refl, sym, ap, subst, ◌∙◌, inl, inr, Some, None}
use Rattle.std.specs.Prelude.{Result, Ok, Err}
use Rattle.std.proofs.lemmas.List.{append-nil}
use Rattle.std.proofs.lemmas.Option.{same_Some}
use Rattle.io_edge.specs.Outside.{Told, IsAtEnd, behind, in_front}
use Rattle.io_edge.specs.Lines.{lines}
use Rattle.line_feed.specs.Feed.{HoldsLittle, Reading, fresh, input_limit, pending}
use Rattle.line_feed.specs.SoFar.{Covers, Fed, WasRead}
use Rattle.line_feed.proofs.FedLemmas.{fed_begin}
use Rattle.strategy_check.specs.declared.why.Why.{Why}
use Rattle.strategy_check.specs.declared.why.Why.TheVariants.{NoSuchMove, BadIndex, LeafFails, TooShort, Rest}
use Rattle.strategy_check.specs.Checks.{OnShort, looked_at}
use Rattle.certificate_text.specs.Taken.{HasRead}
use Rattle.certificate_text.proofs.TakenLaws.{read-more, within-limit}
use Rattle.command_runs.specs.Input.{IsAllRead, Sides, WhereTold}
use Rattle.command_runs.specs.declared.status.Status.{Status}
use Rattle.command_runs.specs.declared.status.Status.TheVariants.{Done, Refused as IsRefused, Usage, ReadFault as ReadFailed, WriteFault as WriteFailed, SpawnFault, BadInput, Memory as NoMemory, InputFull as InputIsFull}
use Rattle.command_runs.proofs.ReadLemmas.{fresh_holds_little, given_were_read}
use Rattle.command_runs.proofs.ServedLemmas.{no_failure, not_full}
use Rattle.certificate_verdicts.specs.declared.verdict.TextVerdict.{TextVerdict}
use Rattle.certificate_verdicts.specs.declared.verdict.TextVerdict.TheVariants.{Accepted, Refused, BadCite, BadLine, BadGame, GameOver}
use Rattle.certificate_verdicts.specs.declared.verdict.Unread.{Unread}
use Rattle.certificate_verdicts.specs.declared.verdict.Unread.TheVariants.{ReadFault, InputFull, Memory as WantsMemory}
use Rattle.certificate_verdicts.specs.Verdicts.{status_of, verdict_line}
use Rattle.certificate_verdicts.specs.Laws.{AcceptedAreDone}
use Rattle.certificate_verdicts.specs.Reading.{Judges, TellsJudged, WasReadAs}
use Rattle.certificate_verdicts.specs.Runs.{AtMostWereRead, IsDecidedBehind, IsUndecided, Judgement, VerdictRun, WasUnread, WasReadToJudge, WasReadToRefuse, WroteVerdict}

-- only what is accepted is done
pub done-accepted : (v : TextVerdict) → status_of v ≡ Done → v ≡ Accepted
done-accepted Accepted e = refl
done-accepted (Refused place why) e = cc
done-accepted (BadCite place) e = cc
done-accepted (BadLine n) e = cc
done-accepted (BadGame fault) e = cc
done-accepted GameOver e = cc

-- ---- what was read

-- a new reader has read nothing
pub read-none : (input : List ℕ) (rest : Told) (reader : Reading) → rest ≡ Some input → reader ≡ fresh → HasRead input rest reader 0
read-none input rest reader told begun =
    let none : Fed rest rest reader [] [] = fed_begin rest reader begun in
    record {
      bytes = [];
      given = [];
      few = omega arith;
      fed = subst (λ (r : Told). Fed r rest reader [] []) told none;
      within = subst (λ (r : Reading). r.taken ≤ input_limit) (sym begun) (omega arith);
      little = subst HoldsLittle (sym begun) fresh_holds_little;
    }

-- a reader has read at most this number of lines
pub most-read : (most : ℕ) (input : List ℕ) (rest : Told) (reader : Reading) → HasRead input rest reader most → AtMostWereRead most input rest
most-read most input rest reader r = (r.given, given_were_read input r.fed refl r.within r.little, r.few)

within-most : (m n : ℕ) (input : List ℕ) (rest : Told) (reader : Reading) → m ≤ n → HasRead input rest reader m → AtMostWereRead n input rest
within-most m n input rest reader less r = most-read n input rest reader (read-more input rest reader m n less r)

-- the input is the bytes read and those that are left
split : (input : List ℕ) (rest : Told) (bytes : List ℕ) → Some input ≡ in_front bytes rest → (left : List ℕ) × WasRead input rest bytes left
split input None bytes e = cc
split input (Some left) bytes e = (left, record { split = same_Some _ _ e; told = refl })

all-covered : (input bytes left : List ℕ) (rest : Told) (taken : ℕ) → WasRead input rest bytes left → taken ≡ length bytes → taken < input_limit → IsAtEnd rest → IsAllRead input rest
all-covered input bytes left None taken w counted below over = absurd (let e = w.told in cc)
all-covered input bytes left (Some rest) taken w counted below over =
    let told : rest ≡ left = same_Some _ _ w.told in
    let none : left ≡ [] = sym told ∙ over in
    let same : input ≡ bytes = w.split ∙ (ap (λ (x : List ℕ). bytes ++ x) none ∙ append-nil bytes) in
    record { at_end = ap Some over; below = subst (λ (n : ℕ). n < input_limit) (counted ∙ ap length (sym same)) below }

-- a reader that has met the end has read all
pub all-read : (input : List ℕ) (rest : Told) (reader : Reading) (most : ℕ) → HasRead input rest reader most → reader.finished ≡ true → IsAllRead input rest
all-read input rest reader most r over =
    let (all, none, at_end) = subst (λ (f : Bool). Covers f r.bytes (pending reader) r.given rest) over r.fed.covers in
    let (left, w) = split input rest r.bytes r.fed.left in
    all-covered input r.bytes left rest reader.taken w r.fed.counted (r.fed.below over) at_end

-- what was read if this is the first fault
pub refused-read : (head place lines : ℕ) (why : Why) (input : List ℕ) (rest : Told) (reader : Reading) → lines ≤ place + looked_at why → HasRead input rest reader (head + lines) → OnShort why (reader.finished ≡ true)
    → WasReadToRefuse (head + place) why input rest
refused-read head place lines NoSuchMove input rest reader few r stops = within-most (head + lines) (head + place) input rest reader (omega (arith, few)) r
refused-read head place lines BadIndex input rest reader few r stops = within-most (head + lines) (head + place) input rest reader (omega (arith, few)) r
refused-read head place lines LeafFails input rest reader few r stops = within-most (head + lines) (head + place) input rest reader (omega (arith, few)) r
refused-read head place lines TooShort input rest reader few r stops = all-read input rest reader (head + lines) r stops
refused-read head place lines Rest input rest reader few r stops = within-most (head + lines) (head + place + 1) input rest reader (omega (arith, few)) r

-- what was read if the last line is bad, whose number stops at the greatest u64
pub bad-read : (head lines line : ℕ) (input : List ℕ) (rest : Told) (reader : Reading) → line ≡ min (lines + head) (2 ^ 64 - 1) → HasRead input rest reader (head + lines) → AtMostWereRead line input rest
bad-read head lines line input rest reader is r =
    (r.given, given_were_read input r.fed refl r.within r.little, omega (arith, is, r.few, within-limit input rest reader (head + lines) r))

-- ---- a run

-- the line of the verdict was written
wrote-as : (head : ℕ) (verdict : Judgement) (v : TextVerdict) (s : Status) (before after : Sides) → status_of v ≡ s → WhereTold before.rest (λ input. Judges (Ok v) (verdict (lines input))) → WhereTold before.rest (λ input. WasReadToJudge head v input after.rest)
    → after.written ≡ behind before.written (verdict_line v) → WhereTold before.rest (λ input. WroteVerdict head (verdict (lines input)) s input before after)
wrote-as head verdict v s before after status_is judges read wrote = λ input told.
    let is : verdict (lines input) ≡ v = judges input told in
    record {
      status_is = ap status_of is ∙ status_is;
      wrote = wrote ∙ ap (λ (x : TextVerdict). behind before.written (verdict_line x)) (sym is);
      was_read = subst (λ (x : TextVerdict). WasReadToJudge head x input after.rest) (sym is) (read input told);
    }

wrote-whole : (head : ℕ) (verdict : Judgement) (v : TextVerdict) (before after : Sides) → WhereTold before.rest (λ input. Judges (Ok v) (verdict (lines input))) → WhereTold before.rest (λ input. WasReadToJudge head v input after.rest)
    → after.written ≡ behind before.written (verdict_line v) → VerdictRun head verdict (status_of v) before after
wrote-whole head verdict Accepted before after judges read wrote = wrote-as head verdict Accepted Done before after refl judges read wrote
wrote-whole head verdict (Refused place why) before after judges read wrote = wrote-as head verdict (Refused place why) IsRefused before after refl judges read wrote
wrote-whole head verdict (BadCite place) before after judges read wrote = wrote-as head verdict (BadCite place) IsRefused before after refl judges read wrote
wrote-whole head verdict (BadLine n) before after judges read wrote = wrote-as head verdict (BadLine n) BadInput before after refl judges read wrote
wrote-whole head verdict (BadGame fault) before after judges read wrote = wrote-as head verdict (BadGame fault) BadInput before after refl judges read wrote
wrote-whole head verdict GameOver before after judges read wrote = wrote-as head verdict GameOver BadInput before after refl judges read wrote

-- an initial part of the line of the verdict was written
wrote-cut : (head : ℕ) (verdict : Judgement) (v : TextVerdict) (before after : Sides) (n : ℕ) → WhereTold before.rest (λ input. Judges (Ok v) (verdict (lines input))) → WhereTold before.rest (λ input. WasReadToJudge head v input after.rest)
    → n < length (verdict_line v) → after.written ≡ behind before.written (take n (verdict_line v)) → VerdictRun head verdict WriteFailed before after
wrote-cut head verdict v before after n judges read less wrote = λ input told.
    let is : verdict (lines input) ≡ v = judges input told in (
      n,
      record {
        cut = subst (λ (x : TextVerdict). n < length (verdict_line x)) (sym is) less;
        wrote = wrote ∙ ap (λ (x : TextVerdict). behind before.written (take n (verdict_line x))) (sym is);
        was_read = subst (λ (x : TextVerdict). WasReadToJudge head x input after.rest) (sym is) (read input told);
      },
    )

-- the verdict on the input was written
pub verdict-run : (head : ℕ) (verdict : Judgement) (judged : Result TextVerdict Unread) (status : Status) (before after : Sides) → WhereTold before.rest (λ input. Judges judged (verdict (lines input))) → WhereTold before.rest (λ input. WasReadAs head judged input after.rest)
    → WhereTold before.rest (λ input. judged ≡ Err ReadFault → IsUndecided head (verdict (lines input)) input after.rest) → TellsJudged judged status before.written after.written → VerdictRun head verdict status before after
verdict-run head verdict (Ok v) status before after judges read unread (inl (e, same)) = subst (λ (s : Status). VerdictRun head verdict s before after) (sym e) same
verdict-run head verdict (Ok v) status before after judges read unread (inr (inl (e, wrote))) = subst (λ (s : Status). VerdictRun head verdict s before after) (sym e) (wrote-whole head verdict v before after judges read wrote)
verdict-run head verdict (Ok v) status before after judges read unread (inr (inr (e, (n, less, wrote)))) = subst (λ (s : Status). VerdictRun head verdict s before after) (sym e) (wrote-cut head verdict v before after n judges read less wrote)
verdict-run head verdict (Err ReadFault) status before after judges read unread (e, same) = subst (λ (s : Status). VerdictRun head verdict s before after) (sym e) (same, λ input told. record { took = read input told; undecided = unread input told refl })
verdict-run head verdict (Err InputFull) status before after judges read unread (e, same) = subst (λ (s : Status). VerdictRun head verdict s before after) (sym e) (same, read)
verdict-run head verdict (Err WantsMemory) status before after judges read unread (e, same) = subst (λ (s : Status). VerdictRun head verdict s before after) (sym e) same

-- ---- what is accepted is done

pub accepted-done : AcceptedAreDone
accepted-done head verdict Done before after run input served is = inl refl
accepted-done head verdict IsRefused before after run input served is =
    let s = (run input served.told).status_is in absurd (let e : Done ≡ IsRefused = ap status_of (sym is) ∙ s in cc)
accepted-done head verdict BadInput before after run input served is =
    let s = (run input served.told).status_is in absurd (let e : Done ≡ BadInput = ap status_of (sym is) ∙ s in cc)
accepted-done head verdict ReadFailed before after run input served is = absurd (no_failure served.reads refl)
accepted-done head verdict WriteFailed before after run input served is = absurd (no_failure served.writes refl)
accepted-done head verdict InputIsFull before after (same, run) input served is =
    let (bytes, left, was_read, full) = run input served.told in
    absurd (not_full input bytes left after.rest was_read full served.below)
accepted-done head verdict NoMemory before after run input served is = inr refl
accepted-done head verdict Usage before after run input served is = absurd run
accepted-done head verdict SpawnFault before after run input served is = absurd run
