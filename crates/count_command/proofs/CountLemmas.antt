-- The counts written so far, and how a count ends.
use Rattle.std.proofs.Common.{◌≡◌, ◌≤◌, ◌<◌, ℕ, zero, suc, ◌+◌, ◌-◌, List, [], ◌∷◌, ◌++◌, length, take, ap, sym, ◌∙◌, subst, arith, add-zero, append_assoc, length-append}
use Rattle.std.proofs.lemmas.List.{append-nil, take-append-le}
use Rattle.io_edge.specs.Outside.{Told, behind}
use Rattle.hive_model.specs.Histories.{History, position}
use Rattle.hive_model.specs.Minimax.{lines as lines_of_play}
use Rattle.hive_model.specs.Positions.{Position}
use Rattle.game_text.specs.declared.parsed.Parsed.{Parsed}
use Rattle.command_runs.specs.Input.{Sides, WhereTold}
use Rattle.command_runs.specs.OneGame.{IsAsked}
use Rattle.command_runs.specs.Asking.{IsReplayOf}
use Rattle.command_runs.specs.Answered.{WritesAnswer}
use Rattle.command_runs.specs.declared.status.Status.{Status}
use Rattle.command_runs.proofs.WrittenLemmas.{on_written}
use Rattle.command_runs.proofs.GameRunLemmas.{end_is, game_run}
use Rattle.count_command.specs.Count.{CountRun, count_line, count_line_of, count_text, counts_of}

-- The lines

-- the lines for 1 to n are those before, and the line for n
text_next : (p : Position) (n : ℕ) → 1 ≤ n → count_text p n ≡ count_text p (n - 1) ++ count_line p n
text_next p zero low = absurd (omega (arith, low))
text_next p (suc n) low = let e : n ≡ suc n - 1 = omega arith in ap (λ m. count_text p m ++ count_line p (suc n)) e

-- the lines for 1 to n come first among all
text_front : (p : Position) (n d : ℕ) → (rest : List ℕ) × (count_text p (n + d) ≡ count_text p n ++ rest)
text_front p n zero = ([], ap (count_text p) (add-zero n) ∙ sym (append-nil (count_text p n)))
text_front p n (suc d) =
    let (rest, e) = text_front p n d in
    let s : n + suc d ≡ suc (n + d) = omega arith in (
      rest ++ count_line p (suc (n + d)),
      ap (count_text p) s ∙ (ap (λ x. x ++ count_line p (suc (n + d))) e ∙ append_assoc (count_text p n) rest (count_line p (suc (n + d)))),
    )

-- a cut in what comes second
seam : (front line rest : List ℕ) (k : ℕ) → k ≤ length line → take (length front + k) ((front ++ line) ++ rest) ≡ front ++ take k line
seam [] line rest k less = let e : 0 + k ≡ k = omega arith in ap (λ n. take n (line ++ rest)) e ∙ take-append-le k line rest less
seam (x ∷ front) line rest k less =
    let e : length (x ∷ front) + k ≡ suc (length front + k) = omega arith in
    ap (λ n. take n (((x ∷ front) ++ line) ++ rest)) e ∙ ap (λ xs. x ∷ xs) (seam front line rest k less)

-- the line for n was written after those before it
pub count_on : (p : Position) (n lists : ℕ) (line : List ℕ) (w0 w1 w2 : Told) → 1 ≤ n → line ≡ count_line_of n lists → lists ≡ lines_of_play p n → w1 ≡ behind w0 (count_text p (n - 1)) → w2 ≡ behind w1 line
    → w2 ≡ behind w0 (count_text p n)
count_on p n lists line w0 w1 w2 low is count before wrote =
    on_written w0 w1 w2 (count_text p (n - 1)) line before wrote
    ∙ ap (behind w0) (ap (λ x. count_text p (n - 1) ++ x) (is ∙ ap (count_line_of n) count) ∙ sym (text_next p n low))

-- an initial part of the line for n was written after those before it
pub count_cut : (p : Position) (n plies lists : ℕ) (line : List ℕ) (w0 w1 w2 : Told) → 1 ≤ n → n ≤ plies → line ≡ count_line_of n lists → lists ≡ lines_of_play p n → w1 ≡ behind w0 (count_text p (n - 1))
    → (k : ℕ) × (k < length line) × (w2 ≡ behind w1 (take k line)) → (m : ℕ) × (m < length (count_text p plies)) × (w2 ≡ behind w0 (take m (count_text p plies)))
count_cut p n plies lists line w0 w1 w2 low high is count before (k, less, wrote) =
    let (rest, front) = text_front p n (plies - n) in
    let e : plies ≡ n + (plies - n) = omega (arith, high) in
    let same : line ≡ count_line p n = is ∙ ap (count_line_of n) count in
    let whole : count_text p plies ≡ (count_text p (n - 1) ++ line) ++ rest = ap (count_text p) e ∙ (front ∙ ap (λ x. x ++ rest) (text_next p n low ∙ ap (λ x. count_text p (n - 1) ++ x) (sym same))) in
    let short : k ≤ length line = omega (arith, less) in (
      length (count_text p (n - 1)) + k,
      subst (λ t. length (count_text p (n - 1)) + k < length t) (sym whole) (longer (count_text p (n - 1)) line rest k less),
      on_written w0 w1 w2 (count_text p (n - 1)) (take k line) before wrote
          ∙ ap (behind w0) (sym (ap (take (length (count_text p (n - 1)) + k)) whole ∙ seam (count_text p (n - 1)) line rest k short)),
    )
  where
    longer : (a b c : List ℕ) (k : ℕ) → k < length b → length a + k < length ((a ++ b) ++ c)
    longer a b c k less = rw (length-append (a ++ b) c, length-append a b) (omega (arith, less))

-- The run

-- the input was one game, and its counts were written
pub counts_run : (plies : ℕ) (status : Status) (before after : Sides) (c : History) → WhereTold before.rest (λ input. (game : Parsed) × IsAsked input after.rest game × IsReplayOf c game)
    → WritesAnswer (count_text (position c) plies) status before.written after.written → CountRun plies status before after
counts_run plies status before after c given told =
    game_run (counts_of plies) status before after c (count_text (position c) plies) given (λ game end. ap (λ p. count_text p plies) (end_is c game end)) told
