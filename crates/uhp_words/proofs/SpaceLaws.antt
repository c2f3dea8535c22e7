-- What the functions on words and spaces leave.
use Rattle.std.proofs.Common.{◌≡◌, ◌≢◌, ℕ, zero, suc, ◌+◌, ◌-◌, ◌<◌, Bool, true, false, List, [], ◌∷◌, ◌++◌, length, take, get_or, refl, sym, ◌∙◌, ap, subst, arith}
use Rattle.std.specs.Prelude.{nat_eq, if◌then◌else◌}
use Rattle.std.proofs.lemmas.Bool.{eqb-true, eqb-false, ne_eqb}
use Rattle.std.proofs.lemmas.List.{append-nil, length-append, take_more}
use Rattle.std.proofs.Math.Seq.{take-length}
use Rattle.uhp_words.specs.Spaces.{spaces, HasNoSpace, after_spaces, before_spaces, closed, first_word, after_word, is_empty, is_word}

-- Leading spaces

pub after_spaces-spaces : (n : ℕ) (xs : List ℕ) → after_spaces (spaces n ++ xs) ≡ after_spaces xs
after_spaces-spaces zero xs = refl
after_spaces-spaces (suc n) xs = after_spaces-spaces n xs

pub after_spaces-bare : (xs : List ℕ) → ((back : List ℕ) → xs ≢ 32 ∷ back) → after_spaces xs ≡ xs
after_spaces-bare [] h = refl
after_spaces-bare (b ∷ bs) h = ap (λ t. if t then after_spaces bs else b ∷ bs) (ne_eqb b 32 (λ e. h bs (ap (λ x. x ∷ bs) e)))

pub led : (xs : List ℕ) → (n : ℕ) × (xs ≡ spaces n ++ after_spaces xs)
led [] = (0, refl)
led (b ∷ bs) = go (nat_eq b 32) refl (led bs)
  where
    go : (t : Bool) → nat_eq b 32 ≡ t → ((n : ℕ) × (bs ≡ spaces n ++ after_spaces bs)) → (n : ℕ) × (b ∷ bs ≡ spaces n ++ (if t then after_spaces bs else b ∷ bs))
    go true e r = (suc r.0, (λ i. eqb-true b 32 e i ∷ r.1 i))
    go false e r = (0, refl)

pub starts : (xs back : List ℕ) → after_spaces xs ≢ 32 ∷ back
starts [] back e = cc
starts (b ∷ bs) back e = go (nat_eq b 32) refl (starts bs back) e
  where
    go : (t : Bool) → nat_eq b 32 ≡ t → after_spaces bs ≢ 32 ∷ back → (if t then after_spaces bs else b ∷ bs) ≡ 32 ∷ back → ⊥
    go true e h f = h f
    go false e h f = let same : b ≡ 32 = cc in eqb-false b 32 e same

-- Spaces at the end

pub before_spaces-spaces : (n : ℕ) → before_spaces (spaces n) ≡ []
before_spaces-spaces zero = refl
before_spaces-spaces (suc n) = ap (closed 32) (before_spaces-spaces n)

pub before_spaces-end : (xs : List ℕ) (n : ℕ) → before_spaces (xs ++ spaces n) ≡ before_spaces xs
before_spaces-end [] n = before_spaces-spaces n
before_spaces-end (b ∷ bs) n = ap (closed b) (before_spaces-end bs n)

pub before_spaces-bare : (xs : List ℕ) → ((front : List ℕ) → xs ≢ front ++ 32 ∷ []) → before_spaces xs ≡ xs
before_spaces-bare [] h = refl
before_spaces-bare (b ∷ []) h = ap (λ t. if t then [] else b ∷ []) (ne_eqb b 32 (λ e. h [] (ap (λ x. x ∷ []) e)))
before_spaces-bare (b ∷ (c ∷ cs)) h = ap (closed b) (before_spaces-bare (c ∷ cs) (λ front e. h (b ∷ front) (ap (λ z. b ∷ z) e)))

pub before_spaces-word : (xs : List ℕ) → HasNoSpace xs → before_spaces xs ≡ xs
before_spaces-word [] h = refl
before_spaces-word (b ∷ []) h = ap (λ t. if t then [] else b ∷ []) (ne_eqb b 32 h.0)
before_spaces-word (b ∷ (c ∷ cs)) h = ap (closed b) (before_spaces-word (c ∷ cs) h.1)

closed_front : (b : ℕ) (bs : List ℕ) (c : ℕ) (cs : List ℕ) → closed b (bs ++ c ∷ cs) ≡ b ∷ (bs ++ c ∷ cs)
closed_front b [] c cs = refl
closed_front b (x ∷ xs) c cs = refl

-- what precedes a text that is not empty is kept
pub before_spaces-front : (xs ys : List ℕ) (c : ℕ) (cs : List ℕ) → before_spaces ys ≡ c ∷ cs → before_spaces (xs ++ ys) ≡ xs ++ c ∷ cs
before_spaces-front [] ys c cs e = e
before_spaces-front (b ∷ bs) ys c cs e = ap (closed b) (before_spaces-front bs ys c cs e) ∙ closed_front b bs c cs

pub ended : (xs : List ℕ) → (n : ℕ) × (xs ≡ before_spaces xs ++ spaces n)
ended [] = (0, refl)
ended (b ∷ bs) = go (before_spaces bs) (ended bs)
  where
    last : (t : Bool) → nat_eq b 32 ≡ t → (n : ℕ) → bs ≡ spaces n → (m : ℕ) × (b ∷ bs ≡ (if t then [] else b ∷ []) ++ spaces m)
    last true e n h = (suc n, (λ i. eqb-true b 32 e i ∷ h i))
    last false e n h = (n, ap (λ z. b ∷ z) h)

    go : (ys : List ℕ) → ((n : ℕ) × (bs ≡ ys ++ spaces n)) → (n : ℕ) × (b ∷ bs ≡ closed b ys ++ spaces n)
    go [] r = last (nat_eq b 32) refl r.0 r.1
    go (c ∷ cs) r = (r.0, ap (λ z. b ∷ z) r.1)

never_empty : (front : List ℕ) → [] ≢ front ++ 32 ∷ []
never_empty [] e = cc
never_empty (f ∷ fs) e = cc

pub stops : (xs front : List ℕ) → before_spaces xs ≢ front ++ 32 ∷ []
stops [] front e = never_empty front e
stops (b ∷ bs) front e = go (before_spaces bs) (stops bs) e
  where
    last : (t : Bool) → nat_eq b 32 ≡ t → (f : List ℕ) → (if t then [] else b ∷ []) ≡ f ++ 32 ∷ [] → ⊥
    last true h f k = never_empty f k
    last false h [] k = let same : b ≡ 32 = cc in eqb-false b 32 h same
    last false h (f ∷ fs) k = let none : [] ≡ fs ++ 32 ∷ [] = cc in never_empty fs none

    more : (c : ℕ) (cs f : List ℕ) → ((g : List ℕ) → c ∷ cs ≢ g ++ 32 ∷ []) → b ∷ (c ∷ cs) ≡ f ++ 32 ∷ [] → ⊥
    more c cs [] h k = let none : c ∷ cs ≡ [] = cc in absurd (cc)
    more c cs (f ∷ fs) h k = let same : c ∷ cs ≡ fs ++ 32 ∷ [] = cc in h fs same

    go : (ys : List ℕ) → ((g : List ℕ) → ys ≢ g ++ 32 ∷ []) → closed b ys ≡ front ++ 32 ∷ [] → ⊥
    go [] h k = last (nat_eq b 32) refl front k
    go (c ∷ cs) h k = more c cs front h k

last_parts : (xs : List ℕ) → 0 < length xs → xs ≡ take (length xs - 1) xs ++ get_or xs (length xs - 1) 0 ∷ []
last_parts xs h =
    let within : length xs - 1 < length xs = omega arith in
    let whole : length xs ≡ length xs - 1 + 1 = omega arith in
    sym (take-length xs) ∙ ap (λ k. take k xs) whole ∙ take_more xs (length xs - 1) 0 within

-- a space less at the end
pub last_space : (xs : List ℕ) → 0 < length xs → get_or xs (length xs - 1) 0 ≡ 32 → before_spaces (take (length xs - 1) xs) ≡ before_spaces xs
last_space xs h e =
    sym (before_spaces-end (take (length xs - 1) xs) 1) ∙ ap (λ b. before_spaces (take (length xs - 1) xs ++ b ∷ [])) (sym e) ∙ ap before_spaces (sym (last_parts xs h))

-- no space at the end
pub last_other : (xs : List ℕ) → 0 < length xs → get_or xs (length xs - 1) 0 ≢ 32 → before_spaces xs ≡ xs
last_other xs h n =
    let b = get_or xs (length xs - 1) 0 in
    ap before_spaces (last_parts xs h)
    ∙ before_spaces-front (take (length xs - 1) xs) (b ∷ []) b [] (ap (λ t. if t then [] else b ∷ []) (ne_eqb b 32 n))
    ∙ sym (last_parts xs h)

-- Words

pub first_word-append : (w ys : List ℕ) → HasNoSpace w → first_word ys ≡ [] → first_word (w ++ ys) ≡ w
first_word-append [] ys h e = e
first_word-append (b ∷ bs) ys h e = ap (λ t. if t then [] else b ∷ first_word (bs ++ ys)) (ne_eqb b 32 h.0) ∙ ap (λ z. b ∷ z) (first_word-append bs ys h.1 e)

pub after_word-append : (w ys : List ℕ) → HasNoSpace w → after_word ys ≡ ys → after_word (w ++ ys) ≡ ys
after_word-append [] ys h e = e
after_word-append (b ∷ bs) ys h e = ap (λ t. if t then b ∷ (bs ++ ys) else after_word (bs ++ ys)) (ne_eqb b 32 h.0) ∙ after_word-append bs ys h.1 e

pub no_space : (xs : List ℕ) → HasNoSpace (first_word xs)
no_space [] = tt
no_space (b ∷ bs) = go (nat_eq b 32) refl (no_space bs)
  where
    go : (t : Bool) → nat_eq b 32 ≡ t → HasNoSpace (first_word bs) → HasNoSpace (if t then [] else b ∷ first_word bs)
    go true e h = tt
    go false e h = (eqb-false b 32 e, h)

pub word_parts : (xs : List ℕ) → xs ≡ first_word xs ++ after_word xs
word_parts [] = refl
word_parts (b ∷ bs) = go (nat_eq b 32) (word_parts bs)
  where
    go : (t : Bool) → bs ≡ first_word bs ++ after_word bs → b ∷ bs ≡ (if t then [] else b ∷ first_word bs) ++ (if t then b ∷ bs else after_word bs)
    go true h = refl
    go false h = ap (λ z. b ∷ z) h

pub word_stop : (xs : List ℕ) (c : ℕ) (cs : List ℕ) → after_word xs ≡ c ∷ cs → c ≡ 32
word_stop [] c cs e = absurd (cc)
word_stop (b ∷ bs) c cs e = go (nat_eq b 32) refl (word_stop bs c cs) e
  where
    go : (t : Bool) → nat_eq b 32 ≡ t → (after_word bs ≡ c ∷ cs → c ≡ 32) → (if t then b ∷ bs else after_word bs) ≡ c ∷ cs → c ≡ 32
    go true e h f = let same : b ≡ 32 = eqb-true b 32 e in cc
    go false e h f = h f

-- the first word by the lengths
pub taken_word : (xs : List ℕ) → take (length xs - length (after_word xs)) xs ≡ first_word xs
taken_word xs = go (first_word xs) (after_word xs) (word_parts xs)
  where
    front : (w ys : List ℕ) → take (length w) (w ++ ys) ≡ w
    front [] ys = refl
    front (b ∷ bs) ys = ap (λ z. b ∷ z) (front bs ys)

    go : (w ys : List ℕ) → xs ≡ w ++ ys → take (length xs - length ys) xs ≡ w
    go w ys e = let long = ap length e ∙ length-append w ys in let count : length xs - length ys ≡ length w = omega (arith, long) in
        ap (λ n. take n xs) count ∙ ap (take (length w)) e ∙ front w ys

-- One word

pub one_word : (xs : List ℕ) → is_word xs ≡ true → (xs ≢ []) × HasNoSpace xs
one_word [] e = absurd (cc)
one_word (b ∷ bs) e = ((λ f. cc), whole (b ∷ bs) (after_word (b ∷ bs)) (word_parts (b ∷ bs)) e)
  where
    whole : (xs ys : List ℕ) → xs ≡ first_word xs ++ ys → is_empty ys ≡ true → HasNoSpace xs
    whole xs [] h k = let same : first_word xs ≡ xs = sym (h ∙ append-nil (first_word xs)) in let P : List ℕ → Type 0 = λ z. HasNoSpace z in subst P same (no_space xs)
    whole xs (c ∷ cs) h k = absurd (cc)

pub word_again : (xs : List ℕ) → xs ≢ [] → HasNoSpace xs → is_word xs ≡ true
word_again [] h k = absurd (h refl)
word_again (b ∷ bs) h k = ap is_empty (ap after_word (sym (append-nil (b ∷ bs))) ∙ after_word-append (b ∷ bs) [] k refl)
