-- The test of a program's text is the rule.
use Rattle.std.proofs.Common.{◌≡◌, ◌↔◌, ◌<◌, ◌∙◌, ap, sym, arith, ℕ, Bool, true, false, cond, List, [], ◌∷◌, length, map, nat_eq, refl, IsTrue, if◌then◌else◌, String, Global}
use Rattle.std.specs.Prelude.{string_bytes}
use Rattle.std.specs.List.{onto_first, slice_split}
use Rattle.command_words.specs.Matches.{AreNotEmpty, IsProgram, between_spaces, in_first}
use Rattle.command_words.specs.Programs.{begins_word, goes_on}

abbrev others : List (List ℕ) → List (List ℕ)
others [] = []
others (word ∷ words) = words

-- a byte before the first word makes it one that is not empty
in_front : (b : ℕ) (words : List (List ℕ)) → AreNotEmpty (in_first b words) ↔ AreNotEmpty (others words)
in_front b [] = (λ h. tt, λ h. (tt, tt))
in_front b (word ∷ words) = (λ h. h.1, λ h. (tt, h))

behind_front : (b : ℕ) (words : List (List ℕ)) → AreNotEmpty (others (in_first b words)) ↔ AreNotEmpty (others words)
behind_front b [] = (λ h. h, λ h. h)
behind_front b (word ∷ words) = (λ h. h, λ h. h)

-- the test agrees with the rule at the start of a word, and within one
abbrev Agree : List ℕ → Type 0
Agree text = (IsTrue (goes_on true text) ↔ AreNotEmpty (between_spaces text)) × (IsTrue (goes_on false text) ↔ AreNotEmpty (others (between_spaces text)))

agree_on : (b : ℕ) (bs : List ℕ) → Agree bs → Agree (b ∷ bs)
agree_on b bs later = go (nat_eq b 32)
  where
    go : (c : Bool)
        → (IsTrue (if c then false else goes_on false bs) ↔ AreNotEmpty (if c then [] ∷ between_spaces bs else in_first b (between_spaces bs)))
        × (IsTrue (if c then goes_on true bs else goes_on false bs) ↔ AreNotEmpty (others (if c then [] ∷ between_spaces bs else in_first b (between_spaces bs))))
    go true = ((λ t. absurd (cc), λ h. absurd h.0), later.0)
    go false =
        let on = later.1 in
        let front = in_front b (between_spaces bs) in
        let behind = behind_front b (between_spaces bs) in
        ((λ t. front.1 (on.0 t), λ h. on.1 (front.0 h)), (λ t. behind.1 (on.0 t), λ h. on.1 (behind.0 h)))

agree : (text : List ℕ) → Agree text
agree [] = ((λ t. absurd (cc), λ h. absurd h.0), (λ t. tt, λ h. refl))
agree (b ∷ bs) = agree_on b bs (agree bs)

pub program_is_tested : (text : List ℕ) → IsTrue (begins_word text) ↔ IsProgram text
program_is_tested text = (agree text).0

-- ---- the words

in-front-is : (b : ℕ) (words : List (List ℕ)) → in_first b words ≡ onto_first b words
in-front-is b [] = refl
in-front-is b (word ∷ words) = refl

-- the pieces between spaces are those of a split at each space
pub split-is : (text : List ℕ) → slice_split (λ b. nat_eq b 32) text ≡ between_spaces text
split-is [] = refl
split-is (b ∷ bs) = go (nat_eq b 32) (split-is bs)
  where
    go : (c : Bool) → slice_split (λ b. nat_eq b 32) bs ≡ between_spaces bs →
        cond c ([] ∷ slice_split (λ b. nat_eq b 32) bs) (onto_first b (slice_split (λ b. nat_eq b 32) bs)) ≡ (if c then [] ∷ between_spaces bs else in_first b (between_spaces bs))
    go true e = ap (λ (ws : List (List ℕ)). [] ∷ ws) e
    go false e = ap (onto_first b) e ∙ sym (in-front-is b (between_spaces bs))

in-first-some : (b : ℕ) (words : List (List ℕ)) → 0 < length (in_first b words)
in-first-some b [] = omega arith
in-first-some b (word ∷ words) = omega arith

between-some : (text : List ℕ) → 0 < length (between_spaces text)
between-some [] = omega arith
between-some (b ∷ bs) = go (nat_eq b 32)
  where
    go : (c : Bool) → 0 < length (if c then [] ∷ between_spaces bs else in_first b (between_spaces bs))
    go true = omega arith
    go false = in-first-some b (between_spaces bs)

-- there is always a word
pub words-some : (words : List (String Global)) (text : List ℕ) → map string_bytes words ≡ between_spaces text → 0 < length words
words-some [] text e = absurd (let none : 0 ≡ length (between_spaces text) = ap length e in let some = between-some text in omega (arith, none, some))
words-some (word ∷ words) text e = omega arith
