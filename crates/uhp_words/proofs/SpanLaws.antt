-- The spans of the words of a line.
use Rattle.std.proofs.Common.{◌≡◌, ℕ, ◌+◌, List, ◌++◌, length, take, drop, sym, ◌∙◌, ap, arith, append_assoc, length-append}
use Rattle.std.proofs.Math.Seq.{take-append_seam, drop-append_seam}
use Rattle.uhp_words.specs.declared.span.Span.{Span}
use Rattle.uhp_words.specs.Spaces.{spaces, Split, rest_at}
use Rattle.uhp_words.specs.Spans.{IsPart}
use Rattle.uhp_words.proofs.SplitLaws.{length-spaces}

-- the text comes after this many bytes
pub record Lies (line : List ℕ) (at : ℕ) (text : List ℕ) : Type 0 where
  pub front : List ℕ
  pub back : List ℕ
  pub line_is : line ≡ front ++ (text ++ back)
  pub at_is : at ≡ length front

pub lies_rest : (line : List ℕ) (s : Split line) → Lies line (rest_at s) s.rest
lies_rest line s = record {
  front = spaces s.before ++ (s.word ++ spaces s.between);
  back = spaces s.after;
  line_is = s.text_is ∙ simp append_assoc;
  at_is = simp (length-append, length-spaces) (omega arith);
}

pub lies_word : (line : List ℕ) (s : Split line) → Lies line s.before s.word
lies_word line s = record {
  front = spaces s.before;
  back = spaces s.between ++ (s.rest ++ spaces s.after);
  line_is = s.text_is;
  at_is = sym (length-spaces s.before);
}

pub lies_in : (line : List ℕ) (a : ℕ) (x : List ℕ) (b : ℕ) (y : List ℕ) → Lies line a x → Lies x b y → Lies line (a + b) y
lies_in line a x b y p q = record {
  front = p.front ++ q.front;
  back = q.back ++ p.back;
  line_is = p.line_is ∙ ap (λ t. p.front ++ (t ++ p.back)) q.line_is ∙ simp append_assoc;
  at_is = (λ i. p.at_is i + q.at_is i) ∙ sym (length-append p.front q.front);
}

pub part_of : (line : List ℕ) (at : ℕ) (text : List ℕ) (span : Span) → Lies line at text → span.at ≡ at → span.len ≡ length text → IsPart line span at text
part_of line at text span l e f = record {
  begins = e;
  len = f;
  bytes = (λ i. take (f i) (drop ((e ∙ l.at_is) i) (l.line_is i))) ∙ ap (take (length text)) (drop-append_seam l.front (text ++ l.back)) ∙ take-append_seam text l.back;
  within =
      let here = l.at_is in
      let long = ap length l.line_is ∙ length-append l.front (text ++ l.back) in
      let rest = length-append text l.back in
      omega (arith, e, f, here, long, rest);
}

pub same_span : (x y : Span) → x.at ≡ y.at → x.len ≡ y.len → x ≡ y
same_span x y e f = λ i. record { at = e i; len = f i }
