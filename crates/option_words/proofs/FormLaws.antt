-- How the lexer of `clap` reads the words of an item, and back.
use Rattle.std.proofs.Common.{◌≡◌, ◌≢◌, ◌∙◌, ◌⊎◌, ◌<◌, ◌++◌, inl, inr, ℕ, zero, suc, Bool, true, false, refl, sym, ap, ap₂, subst, arith, [], ◌∷◌, Option, Some, None, codes, length, if◌then◌else◌, nat_eq}
use Rattle.std.specs.Prelude.{option_and_then}
use Rattle.std.specs.Str.{bytes_eq}
use Rattle.std.proofs.lemmas.Bool.Decides.{nat_tests}
use Rattle.clap.specs.Lexer.{long_of, long_of_rest, name_and_value, short_of, strip_byte}
use Rattle.clap.specs.Walk.{Text}
use Rattle.clap.proofs.CutLemmas.{Lacks}
use Rattle.clap.proofs.LexerLemmas.{name_and_value-at, name_and_value-without}
use Rattle.option_words.specs.Options.{IsValue}

-- ---- from an item to the lexer

pub one_word_long : (name v : Text) → Lacks 61 name → long_of (codes "--" ++ (name ++ 61 ∷ v)) ≡ Some (name, Some v)
one_word_long [] v h = ap Some (name_and_value-at [] v h)
one_word_long (b ∷ bs) v h = ap Some (name_and_value-at (b ∷ bs) v h)

pub one_word_whole : (name v : Text) → bytes_eq (codes "--" ++ (name ++ 61 ∷ v)) (codes "--") ≡ false
one_word_whole [] v = refl
one_word_whole (b ∷ bs) v = refl

pub name_word_long : (name : Text) → 0 < length name → Lacks 61 name → long_of (codes "--" ++ name) ≡ Some (name, None)
name_word_long [] more h = absurd (omega (arith, more))
name_word_long (b ∷ bs) more h = ap Some (name_and_value-without (b ∷ bs) h)

pub name_word_whole : (name : Text) → 0 < length name → bytes_eq (codes "--" ++ name) (codes "--") ≡ false
name_word_whole [] more = absurd (omega (arith, more))
name_word_whole (b ∷ bs) more = refl

pub value_whole : (v : Text) → IsValue v → bytes_eq v (codes "--") ≡ false
value_whole [] h = absurd h
value_whole (b ∷ bs) h = let other : nat_eq b 45 ≡ false = grind (arith, nat_tests) in rw other refl

pub value_long : (v : Text) → IsValue v → long_of v ≡ None
value_long [] h = absurd h
value_long (b ∷ bs) h = let other : nat_eq b 45 ≡ false = grind (arith, nat_tests) in rw other refl

pub value_short : (v : Text) → IsValue v → short_of v ≡ None
value_short [] h = absurd h
value_short (b ∷ bs) h = let other : nat_eq b 45 ≡ false = grind (arith, nat_tests) in rw other refl

-- ---- and back

strip_is : (b : ℕ) (text rest : Text) → strip_byte b text ≡ Some rest → text ≡ b ∷ rest
strip_is b [] rest e = cc
strip_is b (x ∷ xs) rest e = go (nat_eq x b) refl
  where
    go : (t : Bool) → nat_eq x b ≡ t → x ∷ xs ≡ b ∷ rest
    go true same =
        let first : x ≡ b = grind (arith, nat_tests) in
        let others : Some xs ≡ Some rest = sym (ap (λ t. if t then Some xs else None) same) ∙ e in
        let tail : xs ≡ rest = cc in
        ap₂ (λ y ys. y ∷ ys) first tail
    go false other = let none : None ≡ Some rest = sym (ap (λ t. if t then Some xs else None) other) ∙ e in cc

-- a long flag is `--` and a text that is cut at its first `=`
pub long_is : (word : Text) (p : Text × Option Text) → long_of word ≡ Some p → (text : Text) × (word ≡ 45 ∷ (45 ∷ text)) × (name_and_value text ≡ p)
long_is word p long = first (strip_byte 45 word) refl
  where
    third : (rest text : Text) → word ≡ 45 ∷ rest → rest ≡ 45 ∷ text → long_of_rest text ≡ Some p → (text : Text) × (word ≡ 45 ∷ (45 ∷ text)) × (name_and_value text ≡ p)
    third rest [] one two e = cc
    third rest (b ∷ bs) one two e = let cut : name_and_value (b ∷ bs) ≡ p = cc in (b ∷ bs, one ∙ ap (λ t. 45 ∷ t) two, cut)

    second : (rest : Text) → word ≡ 45 ∷ rest → (s : Option Text) → strip_byte 45 rest ≡ s → option_and_then long_of_rest s ≡ Some p
        → (text : Text) × (word ≡ 45 ∷ (45 ∷ text)) × (name_and_value text ≡ p)
    second rest one None e none = cc
    second rest one (Some text) e some = third rest text one (strip_is 45 rest text e) some

    first : (s : Option Text) → strip_byte 45 word ≡ s → (text : Text) × (word ≡ 45 ∷ (45 ∷ text)) × (name_and_value text ≡ p)
    first None e = let none : None ≡ Some p = sym (ap (λ s. option_and_then long_of_rest (option_and_then (strip_byte 45) s)) e) ∙ long in cc
    first (Some rest) e = second rest (strip_is 45 word rest e) (strip_byte 45 rest) refl
        (sym (ap (λ s. option_and_then long_of_rest (option_and_then (strip_byte 45) s)) e) ∙ long)

pub lacks_more : (x : ℕ) (xs : Text) → x ≢ 61 → Lacks 61 xs → Lacks 61 (x ∷ xs)
lacks_more x xs first others zero lt = first
lacks_more x xs first others (suc i) lt = others i (omega (arith, lt))

-- a text has no `=`, or it is cut at the first
cut_at_equals : (text : Text) → Lacks 61 text ⊎ ((xs : Text) × (ys : Text) × (text ≡ xs ++ 61 ∷ ys) × Lacks 61 xs)
cut_at_equals [] = inl (λ i lt. absurd (omega (arith, lt)))
cut_at_equals (x ∷ rest) = go (nat_eq x 61) refl (cut_at_equals rest)
  where
    go : (t : Bool) → nat_eq x 61 ≡ t → Lacks 61 rest ⊎ ((xs : Text) × (ys : Text) × (rest ≡ xs ++ 61 ∷ ys) × Lacks 61 xs)
        → Lacks 61 (x ∷ rest) ⊎ ((xs : Text) × (ys : Text) × (x ∷ rest ≡ xs ++ 61 ∷ ys) × Lacks 61 xs)
    go true e cut = let first : x ≡ 61 = grind (arith, nat_tests) in inr ([], rest, ap (λ y. y ∷ rest) first, λ i lt. absurd (omega (arith, lt)))
    go false e (inl none) = let first : x ≢ 61 = grind (arith, nat_tests) in inl (lacks_more x rest first none)
    go false e (inr cut) = let first : x ≢ 61 = grind (arith, nat_tests) in inr (x ∷ cut.0, cut.1, ap (λ t. x ∷ t) cut.2, lacks_more x cut.0 first cut.3)

-- a text that is cut into a name and a value
pub cut_is : (text name v : Text) → name_and_value text ≡ (name, Some v) → (text ≡ name ++ 61 ∷ v) × Lacks 61 name
cut_is text name v cut = go (cut_at_equals text)
  where
    go : Lacks 61 text ⊎ ((xs : Text) × (ys : Text) × (text ≡ xs ++ 61 ∷ ys) × Lacks 61 xs) → (text ≡ name ++ 61 ∷ v) × Lacks 61 name
    go (inl none) =
        let whole = sym (name_and_value-without text none) ∙ cut in
        let bad : None ≡ Some v = ap (λ p. p.1) whole in cc
    go (inr (xs, ys, is, lacks)) =
        let both = sym (name_and_value-at xs ys lacks) ∙ sym (ap name_and_value is) ∙ cut in
        let first : xs ≡ name = ap (λ p. p.0) both in
        let some : Some ys ≡ Some v = ap (λ p. p.1) both in
        let second : ys ≡ v = cc in
        (is ∙ ap₂ (λ a b. a ++ 61 ∷ b) first second, subst (λ n. Lacks 61 n) first lacks)

-- a text that is a name alone
pub whole_is : (text name : Text) → name_and_value text ≡ (name, None) → (text ≡ name) × Lacks 61 name
whole_is text name cut = go (cut_at_equals text)
  where
    go : Lacks 61 text ⊎ ((xs : Text) × (ys : Text) × (text ≡ xs ++ 61 ∷ ys) × Lacks 61 xs) → (text ≡ name) × Lacks 61 name
    go (inl none) =
        let both = sym (name_and_value-without text none) ∙ cut in
        let first : text ≡ name = ap (λ p. p.0) both in
        (first, subst (λ n. Lacks 61 n) first none)
    go (inr (xs, ys, is, lacks)) =
        let both = sym (name_and_value-at xs ys lacks) ∙ sym (ap name_and_value is) ∙ cut in
        let bad : Some ys ≡ None = ap (λ p. p.1) both in cc
