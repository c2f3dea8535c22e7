-- Each text has one split, and the functions on words and spaces find it.
use Rattle.std.proofs.Common.{◌≡◌, ◌≢◌, ℕ, zero, suc, ◌+◌, List, [], ◌∷◌, ◌++◌, length, refl, sym, ◌∙◌, ap, arith, append_assoc, append-nil, length-append}
use Rattle.std.specs.Prelude.{if◌then◌else◌}
use Rattle.std.proofs.lemmas.Bool.{ne_eqb}
use Rattle.uhp_words.specs.Spaces.{spaces, HasNoSpace, IsBare, IsApart, Split, rest_at, after_spaces, before_spaces, first_word, after_word, rest_of}
use Rattle.uhp_words.proofs.SpaceLaws.{after_spaces-spaces, after_spaces-bare, led, starts, before_spaces-spaces, before_spaces-end, before_spaces-bare, before_spaces-word, before_spaces-front, ended, stops, first_word-append, after_word-append, no_space, word_parts, word_stop}

pub length-spaces : (n : ℕ) → length (spaces n) ≡ n
length-spaces zero = refl
length-spaces (suc n) = ap suc (length-spaces n)

one_more : (n : ℕ) → spaces (suc n) ≡ spaces n ++ 32 ∷ []
one_more zero = refl
one_more (suc n) = ap (λ z. 32 ∷ z) (one_more n)

-- Each text has a split

apart_of : (line : List ℕ) (a : ℕ) (w : List ℕ) (m : ℕ) (r : List ℕ) → before_spaces line ≡ spaces a ++ (w ++ (spaces m ++ r))
    → ((back : List ℕ) → w ++ (spaces m ++ r) ≢ 32 ∷ back) → ((c : ℕ) (cs : List ℕ) → spaces m ++ r ≡ c ∷ cs → c ≡ 32) → ((back : List ℕ) → r ≢ 32 ∷ back) → IsApart w m r
apart_of line a w zero [] e front gap begins = refl
apart_of line a w (suc k) [] e front gap begins = absurd (stops line (spaces a ++ (w ++ spaces k))
    (e ∙ ap (λ z. spaces a ++ (w ++ z)) (append-nil (spaces (suc k)) ∙ one_more k) ∙ simp append_assoc))
apart_of line a w zero (c ∷ cs) e front gap begins = absurd (begins cs (ap (λ b. b ∷ cs) (gap c cs refl)))
apart_of line a w (suc k) (c ∷ cs) e front gap begins = (not_empty w front, omega arith)
  where
    not_empty : (x : List ℕ) → ((back : List ℕ) → x ++ (32 ∷ (spaces k ++ c ∷ cs)) ≢ 32 ∷ back) → x ≢ []
    not_empty [] h f = h (spaces k ++ c ∷ cs) refl
    not_empty (b ∷ bs) h f = cc

pub split_of : (line : List ℕ) → Split line
split_of line =
    let text = before_spaces line in
    let words = after_spaces text in
    let gap = after_word words in
    let rest = after_spaces gap in
    let a = led text in
    let m = led gap in
    let z = ended line in
    let words_are : words ≡ first_word words ++ (spaces m.0 ++ rest) = word_parts words ∙ ap (λ g. first_word words ++ g) m.1 in
    let text_is : text ≡ spaces a.0 ++ (first_word words ++ (spaces m.0 ++ rest)) = a.1 ∙ ap (λ s. spaces a.0 ++ s) words_are in
    record {
      before = a.0;
      word = first_word words;
      between = m.0;
      rest = rest;
      after = z.0;
      text_is = z.1 ∙ ap (λ t. t ++ spaces z.0) text_is ∙ simp append_assoc;
      word_is = no_space words;
      rest_is = record {
        begins = starts gap;
        ends = λ front e. stops line (spaces a.0 ++ (first_word words ++ (spaces m.0 ++ front)))
            (text_is ∙ ap (λ r. spaces a.0 ++ (first_word words ++ (spaces m.0 ++ r))) e ∙ simp append_assoc);
      };
      apart = apart_of line a.0 (first_word words) m.0 rest text_is
          (λ back e. starts text back (words_are ∙ e)) (λ c cs e. word_stop words c cs (m.1 ∙ e)) (starts gap);
    }

-- A split is what the functions find

text_kept : (a : ℕ) (w : List ℕ) (m : ℕ) (r : List ℕ) (z : ℕ) → HasNoSpace w → IsBare r → IsApart w m r → w ≢ []
    → before_spaces (spaces a ++ (w ++ (spaces m ++ (r ++ spaces z)))) ≡ spaces a ++ (w ++ (spaces m ++ r))
text_kept a [] m r z h bare apart some = absurd (some refl)
text_kept a (x ∷ xs) zero [] z h bare apart some =
    before_spaces-front (spaces a) ((x ∷ xs) ++ spaces z) x xs (before_spaces-end (x ∷ xs) z ∙ before_spaces-word (x ∷ xs) h)
    ∙ ap (λ t. spaces a ++ t) (sym (append-nil (x ∷ xs)))
text_kept a (x ∷ xs) (suc k) [] z h bare apart some = absurd (omega (arith, apart))
text_kept a (x ∷ xs) m (c ∷ cs) z h bare apart some =
    let back : before_spaces ((c ∷ cs) ++ spaces z) ≡ c ∷ cs = before_spaces-end (c ∷ cs) z ∙ before_spaces-bare (c ∷ cs) bare.ends in
    let front = spaces a ++ ((x ∷ xs) ++ spaces m) in
    let parts : spaces a ++ ((x ∷ xs) ++ (spaces m ++ ((c ∷ cs) ++ spaces z))) ≡ front ++ ((c ∷ cs) ++ spaces z) = simp append_assoc in
    ap before_spaces parts ∙ before_spaces-front front ((c ∷ cs) ++ spaces z) c cs back ∙ simp append_assoc

words_kept : (a : ℕ) (w ys : List ℕ) → HasNoSpace w → w ≢ [] → after_spaces (spaces a ++ (w ++ ys)) ≡ w ++ ys
words_kept a [] ys h some = absurd (some refl)
words_kept a (x ∷ xs) ys h some = after_spaces-spaces a ((x ∷ xs) ++ ys)
    ∙ ap (λ t. if t then after_spaces (xs ++ ys) else x ∷ (xs ++ ys)) (ne_eqb x 32 h.0)

gap_word : (w : List ℕ) (m : ℕ) (r : List ℕ) → IsApart w m r → first_word (spaces m ++ r) ≡ []
gap_word w zero [] apart = refl
gap_word w zero (c ∷ cs) apart = let some = apart.1 in absurd (omega (arith, some))
gap_word w (suc k) r apart = refl

gap_kept : (w : List ℕ) (m : ℕ) (r : List ℕ) → IsApart w m r → after_word (spaces m ++ r) ≡ spaces m ++ r
gap_kept w zero [] apart = refl
gap_kept w zero (c ∷ cs) apart = let some = apart.1 in absurd (omega (arith, some))
gap_kept w (suc k) r apart = refl

-- what is found of a line
pub record Reads (line : List ℕ) (word rest : List ℕ) (at : ℕ) : Type 0 where
  pub word_is : first_word (after_spaces (before_spaces line)) ≡ word
  pub rest_is : rest_of (after_spaces (before_spaces line)) ≡ rest
  pub place : word ≢ [] → length (before_spaces line) ≡ at + length rest

reads_words : (line : List ℕ) (a : ℕ) (w : List ℕ) (m : ℕ) (r : List ℕ) (z : ℕ) → HasNoSpace w → IsBare r → IsApart w m r → w ≢ []
    → line ≡ spaces a ++ (w ++ (spaces m ++ (r ++ spaces z))) → Reads line w r (a + length w + m)
reads_words line a w m r z h bare apart some e =
    let text : before_spaces line ≡ spaces a ++ (w ++ (spaces m ++ r)) = ap before_spaces e ∙ text_kept a w m r z h bare apart some in
    let words : after_spaces (before_spaces line) ≡ w ++ (spaces m ++ r) = ap after_spaces text ∙ words_kept a w (spaces m ++ r) h some in
    record {
      word_is = ap first_word words ∙ first_word-append w (spaces m ++ r) h (gap_word w m r apart);
      rest_is = ap rest_of words ∙ ap after_spaces (after_word-append w (spaces m ++ r) h (gap_kept w m r apart))
          ∙ after_spaces-spaces m r ∙ after_spaces-bare r bare.begins;
      place = λ some'. ap length text ∙ simp (length-append, length-spaces) (omega arith);
    }

reads_nothing : (line : List ℕ) (a m : ℕ) (r : List ℕ) (z : ℕ) → IsApart [] m r → line ≡ spaces a ++ ([] ++ (spaces m ++ (r ++ spaces z))) → Reads line [] r (a + 0 + m)
reads_nothing line a zero [] z apart e =
    let text : before_spaces line ≡ [] = ap before_spaces e ∙ before_spaces-end (spaces a) z ∙ before_spaces-spaces a in
    record {
      word_is = ap (λ t. first_word (after_spaces t)) text;
      rest_is = ap (λ t. rest_of (after_spaces t)) text;
      place = λ some. absurd (some refl);
    }
reads_nothing line a (suc k) [] z apart e = absurd (omega (arith, apart))
reads_nothing line a m (c ∷ cs) z apart e = absurd (apart.0 refl)

pub reads : (line : List ℕ) (s : Split line) → Reads line s.word s.rest (rest_at s)
reads line s = go s.word s.word_is s.apart s.text_is
  where
    go : (w : List ℕ) → HasNoSpace w → IsApart w s.between s.rest → line ≡ spaces s.before ++ (w ++ (spaces s.between ++ (s.rest ++ spaces s.after)))
        → Reads line w s.rest (s.before + length w + s.between)
    go [] h apart e = reads_nothing line s.before s.between s.rest s.after apart e
    go (x ∷ xs) h apart e = reads_words line s.before (x ∷ xs) s.between s.rest s.after h s.rest_is apart (λ f. cc) e

-- the same of a text with no spaces at its ends
pub record ReadsBare (text : List ℕ) (word rest : List ℕ) (at : ℕ) : Type 0 where
  pub word_is : first_word text ≡ word
  pub rest_is : rest_of text ≡ rest
  pub place : word ≢ [] → length text ≡ at + length rest

pub reads_bare : (text : List ℕ) (s : Split text) → IsBare text → ReadsBare text s.word s.rest (rest_at s)
reads_bare text s bare =
    let read = reads text s in
    let kept : before_spaces text ≡ text = before_spaces-bare text bare.ends in
    let words : after_spaces (before_spaces text) ≡ text = ap after_spaces kept ∙ after_spaces-bare text bare.begins in
    record {
      word_is = ap first_word (sym words) ∙ read.word_is;
      rest_is = ap rest_of (sym words) ∙ read.rest_is;
      place = λ some. ap length (sym kept) ∙ read.place some;
    }

-- nothing precedes the first word of such a text
pub first_at : (text : List ℕ) (s : Split text) → IsBare text → s.before ≡ 0
first_at text s bare = go s.before s.text_is
  where
    go : (n : ℕ) → text ≡ spaces n ++ (s.word ++ (spaces s.between ++ (s.rest ++ spaces s.after))) → n ≡ 0
    go zero e = refl
    go (suc n) e = absurd (bare.begins _ e)
