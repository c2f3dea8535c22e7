-- The lines that a reader has given, as the first lines of the input.
use Rattle.std.proofs.Common.{◌≡◌, ◌<◌, ℕ, ◌+◌, Bool, true, false, List, [], ◌∷◌, ◌++◌, length, refl, ap, sym, ◌∙◌, arith, append_assoc, length-append, add-zero, None, Some, subst}
use Rattle.std.specs.Bool.{MatchBool}
use Rattle.std.proofs.lemmas.List.{append-nil}
use Rattle.std.proofs.lemmas.Option.{same_Some}
use Rattle.io_edge.specs.Outside.{Told, in_front, IsAtEnd}
use Rattle.io_edge.proofs.Told.{in_front-in_front, in_front-nil}
use Rattle.io_edge.specs.Lines.{Line as OneLine, lines, whole_lines}
use Rattle.line_feed.specs.Feed.{Reading, pending, SplitsOff, IsLastLine, Gives, Holds, Ends, Takes, fresh, input_limit}
use Rattle.line_feed.specs.SoFar.{Covers, Fed, WasRead}
use Rattle.line_feed.proofs.AheadLemmas.{lines-nil}
use Rattle.line_feed.proofs.Feeding.{never}

-- a new reader has been fed nothing
pub fed_begin : (r : Told) (reading : Reading) → reading ≡ fresh → Fed r r reading [] []
fed_begin r reading e = rw e (record {
  left = in_front-nil r;
  counted = refl;
  covers = record { all = λ more. refl; whole = λ more. refl };
  below = λ t. cc;
})

splits_compose : {b1 b2 p1 p2 : List ℕ} {g1 g2 : List OneLine} → SplitsOff [] b1 g1 p1 → SplitsOff p1 b2 g2 p2 → SplitsOff [] (b1 ++ b2) (g1 ++ g2) p2
splits_compose {b1} {b2} {p1} {p2} {g1} {g2} s t = record {
  all = λ more.
      ap lines (append_assoc b1 b2 more)
      ∙ (s.all (b2 ++ more) ∙ (ap (λ x. g1 ++ lines x) (sym (append_assoc p1 b2 more)) ∙ (ap (λ x. g1 ++ x) (t.all more) ∙ sym (append_assoc g1 g2 (lines (p2 ++ more))))));
  whole = λ more.
      ap whole_lines (append_assoc b1 b2 more)
      ∙ (s.whole (b2 ++ more) ∙ (ap (λ x. g1 ++ whole_lines x) (sym (append_assoc p1 b2 more)) ∙ (ap (λ x. g1 ++ x) (t.whole more) ∙ sym (append_assoc g1 g2 (whole_lines (p2 ++ more))))));
}

covers_line : (finished : Bool) (b1 b2 p1 p2 : List ℕ) (given : List OneLine) (line : OneLine) (rest : Told) → SplitsOff [] b1 given p1
    → MatchBool finished (IsLastLine p1 b2 line p2 × IsAtEnd rest) (SplitsOff p1 b2 (line ∷ []) p2) → Covers finished (b1 ++ b2) p2 (given ++ line ∷ []) rest
covers_line true b1 b2 p1 p2 given line rest s (last, at_end) = (s.all b2 ∙ ap (λ x. given ++ x) last.line, last.nothing_left, at_end)
covers_line false b1 b2 p1 p2 given line rest s t = splits_compose s t

on_left : (r0 r1 r2 : Told) (b1 b2 : List ℕ) → r0 ≡ in_front b1 r1 → r1 ≡ in_front b2 r2 → r0 ≡ in_front (b1 ++ b2) r2
on_left r0 r1 r2 b1 b2 e f = e ∙ (ap (in_front b1) f ∙ in_front-in_front b1 b2 r2)

on_count : (b1 b2 : List ℕ) (before now : ℕ) → before ≡ length b1 → now ≡ before + length b2 → now ≡ length (b1 ++ b2)
on_count b1 b2 before now e f = rw (length-append b1 b2) (omega arith)

covers_open : (finished : Bool) (bytes held : List ℕ) (given : List OneLine) (rest : Told) → finished ≡ false → SplitsOff [] bytes given held → Covers finished bytes held given rest
covers_open true bytes held given rest e s = absurd (never e refl)
covers_open false bytes held given rest e s = s

-- a reader that has not finished
splits_of : (finished : Bool) (bytes held : List ℕ) (given : List OneLine) (rest : Told) → Covers finished bytes held given rest → finished ≡ false → SplitsOff [] bytes given held
splits_of finished bytes held given rest c e = subst (λ (f : Bool). Covers f bytes held given rest) e c

-- a line was given
pub fed_line : {r0 r1 r2 : Told} {old new : Reading} {bytes b1 : List ℕ} {given : List OneLine} {line : OneLine} → Fed r0 r1 old bytes given → Takes r1 r2 old.taken new.taken b1 → Gives old b1 line new r2 → Fed r0 r2 new (bytes ++ b1) (given ++ line ∷ [])
fed_line {r0} {r1} {r2} {old} {new} {bytes} {b1} {given} {line} f t g = record {
  left = on_left r0 r1 r2 bytes b1 f.left t.left;
  counted = on_count bytes b1 old.taken new.taken f.counted t.counted;
  covers = covers_line new.finished bytes b1 (pending old) (pending new) given line r2 (splits_of old.finished bytes (pending old) given r1 f.covers g.went_on) g.line;
  below = g.below;
}

-- if nothing was given, a reader goes on with what it holds
pub fed_kept : {r0 r1 r2 : Told} {old new : Reading} {bytes b1 : List ℕ} {given : List OneLine} → Fed r0 r1 old bytes given → Takes r1 r2 old.taken new.taken b1 → Holds old b1 new → Fed r0 r2 new (bytes ++ b1) given
fed_kept {r0} {r1} {r2} {old} {new} {bytes} {b1} {given} f t h =
    let s : SplitsOff [] (bytes ++ b1) (given ++ []) (pending new) = splits_compose (splits_of old.finished bytes (pending old) given r1 f.covers h.went_on) h.split in
    record {
      left = on_left r0 r1 r2 bytes b1 f.left t.left;
      counted = on_count bytes b1 old.taken new.taken f.counted t.counted;
      covers = covers_open new.finished (bytes ++ b1) (pending new) given r2 h.goes_on (subst (λ g. SplitsOff [] (bytes ++ b1) g (pending new)) (append-nil given) s);
      below = λ e. absurd (never h.goes_on e);
    }

-- the input is the bytes read and those that are left
was_read : (rest old : Told) (bytes input : List ℕ) → old ≡ in_front bytes rest → old ≡ Some input → (left : List ℕ) × WasRead input rest bytes left
was_read None old bytes input e f = cc
was_read (Some left) old bytes input e f = (left, record { split = same_Some _ _ (sym f ∙ e); told = refl })

at_end_of : (rest : Told) (left : List ℕ) → IsAtEnd rest → rest ≡ Some left → left ≡ []
at_end_of None left h e = cc
at_end_of (Some bytes) left h e = sym (same_Some _ _ e) ∙ h

prefix_of : (finished : Bool) (bytes held left : List ℕ) (given : List OneLine) (rest : Told) → Covers finished bytes held given rest → rest ≡ Some left → (others : List OneLine) × (lines (bytes ++ left) ≡ given ++ others)
prefix_of true bytes held left given rest (all, none, at_end) e = ([], rw (at_end_of rest left at_end e, append-nil bytes, append-nil given) all)
prefix_of false bytes held left given rest s e = (lines (held ++ left), s.all left)

-- the lines given are the first of the input
pub fed_prefix : {r0 rest : Told} {reading : Reading} {bytes : List ℕ} {given : List OneLine} (input : List ℕ) → Fed r0 rest reading bytes given → r0 ≡ Some input → (others : List OneLine) × (lines input ≡ given ++ others)
fed_prefix {r0} {rest} {reading} {bytes} {given} input f e =
    let (left, w) = was_read rest r0 bytes input f.left e in
    let (others, p) = prefix_of reading.finished bytes (pending reading) left given rest f.covers w.told in
    (others, ap lines w.split ∙ p)

append-empty : (xs ys : List ℕ) → xs ++ ys ≡ [] → (xs ≡ []) × (ys ≡ [])
append-empty [] ys e = (refl, e)
append-empty (x ∷ xs) ys e = cc

all_of : (finished : Bool) (bytes held : List ℕ) (given : List OneLine) (rest : Told) → Covers finished bytes held given rest → held ≡ [] → (finished ≡ false → IsAtEnd rest) → (lines bytes ≡ given) × IsAtEnd rest
all_of true bytes held given rest (all, none, at_end) h k = (all, at_end)
all_of false bytes held given rest s h k =
    let e : lines (bytes ++ []) ≡ given ++ lines (held ++ []) = s.all [] in
    let n : lines (held ++ []) ≡ [] = rw h lines-nil in
    (ap lines (sym (append-nil bytes)) ∙ (e ∙ (ap (λ x. given ++ x) n ∙ append-nil given)), k refl)

-- if the source has ended, the lines given are all
pub fed_end : {r0 r1 r2 : Told} {old new : Reading} {bytes b1 : List ℕ} {given : List OneLine} (input : List ℕ) → Fed r0 r1 old bytes given → Takes r1 r2 old.taken new.taken b1 → Ends old b1 new r2 → r0 ≡ Some input → (lines input ≡ given) × (length input < input_limit)
fed_end {r0} {r1} {r2} {old} {new} {bytes} {b1} {given} input f t d e =
    let (held, none) = append-empty (pending old) b1 d.nothing in
    let same : r1 ≡ r2 = t.left ∙ (ap (λ b. in_front b r2) none ∙ sym (in_front-nil r2)) in
    let (all, at_end) = all_of old.finished bytes (pending old) given r1 f.covers held (λ go. subst IsAtEnd (sym same) (d.at_end go)) in
    let (left, w) = was_read r1 r0 bytes input f.left e in
    let is : input ≡ bytes = w.split ∙ (ap (λ x. bytes ++ x) (at_end_of r1 left at_end w.told) ∙ append-nil bytes) in
    let same_count : new.taken ≡ old.taken = t.counted ∙ (ap (λ b. old.taken + length b) none ∙ add-zero old.taken) in
    (ap lines is ∙ all, subst (λ n. n < input_limit) (same_count ∙ (f.counted ∙ ap length (sym is))) d.below)

-- if a read failed, the lines given are the whole ones of what was read
pub fed_held : {r0 r1 r2 : Told} {old new : Reading} {bytes b1 : List ℕ} {given : List OneLine} (input : List ℕ) → Fed r0 r1 old bytes given → Takes r1 r2 old.taken new.taken b1 → Holds old b1 new → r0 ≡ Some input
    → (left : List ℕ) × WasRead input r2 (bytes ++ b1) left × (whole_lines (bytes ++ b1) ≡ given) × (new.taken ≡ length (bytes ++ b1))
fed_held {r0} {r1} {r2} {old} {new} {bytes} {b1} {given} input f t h e =
    let s = splits_compose (splits_of old.finished bytes (pending old) given r1 f.covers h.went_on) h.split in
    let w : whole_lines ((bytes ++ b1) ++ []) ≡ (given ++ []) ++ whole_lines (pending new ++ []) = s.whole [] in
    let n : whole_lines (pending new ++ []) ≡ [] = rw (append-nil (pending new)) h.no_whole in
    let (left, r) = was_read r2 r0 (bytes ++ b1) input (on_left r0 r1 r2 bytes b1 f.left t.left) e in
    (left, r, ap whole_lines (sym (append-nil (bytes ++ b1))) ∙ (w ∙ (ap (λ x. (given ++ []) ++ x) n ∙ rw (append-nil given, append-nil given) refl)), on_count bytes b1 old.taken new.taken f.counted t.counted)
