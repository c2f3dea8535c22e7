-- A text of written lines has these lines.
use Rattle.std.proofs.Common.{◌≡◌, ◌≢◌, ℕ, suc, zero, ◌-◌, true, List, [], ◌∷◌, ◌++◌, length, get_or, take, ◌∙◌, ap, arith, if◌then◌else◌}
use Rattle.std.proofs.lemmas.Bool.{ne_eqb}
use Rattle.std.proofs.lemmas.List.{append_assoc}
use Rattle.io_edge.specs.Lines.{Text, line_of, lines}
use Rattle.line_feed.specs.Feed.{NoLf}
use Rattle.line_feed.proofs.PartLemmas.{lines-lf, line_of_short}
use Rattle.certificate_text.specs.Text.{written_line}
use Rattle.strategy_make.proofs.PlainLaws.{is_plain, IsPlain, plain-cons}

no-lf : (xs : List ℕ) → is_plain xs ≡ true → NoLf xs
no-lf [] h = tt
no-lf (b ∷ bs) h = let s = plain-cons b bs h in ((λ e. omega (arith, e, s.0)), no-lf bs s.1)

no-cr : (xs : List ℕ) (i : ℕ) → is_plain xs ≡ true → get_or xs i 0 ≢ 13
no-cr [] i h = λ e. absurd (omega (arith, e))
no-cr (b ∷ bs) zero h = let s = plain-cons b bs h in λ e. absurd (omega (arith, e, s.0))
no-cr (b ∷ bs) (suc i) h = let s = plain-cons b bs h in no-cr bs i s.1

line-is : (xs : List ℕ) → IsPlain 65536 xs → line_of xs ≡ Text xs
line-is xs h =
    line_of_short xs h.short
    ∙ ap (λ t. Text (if t then take (length xs - 1) xs else xs)) (ne_eqb (get_or xs (length xs - 1) 0) 13 (no-cr xs (length xs - 1) h.plain))

-- the first line of a text that begins with a written line, and the lines after it
pub lines-begin : (xs rest : List ℕ) → IsPlain 65536 xs → lines (written_line xs ++ rest) ≡ Text xs ∷ lines rest
lines-begin xs rest h =
    ap lines (append_assoc xs (10 ∷ []) rest) ∙ lines-lf xs rest (no-lf xs h.plain) ∙ ap (λ l. l ∷ lines rest) (line-is xs h)
