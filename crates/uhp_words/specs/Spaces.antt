-- Words, the spaces between them, and the one way to split a text into a first word and a rest.
use Rattle.std.specs.Prelude.{◌≡◌, ◌≢◌, ℕ, zero, suc, ◌+◌, ◌<◌, Bool, true, false, List, [], ◌∷◌, ◌++◌, length, nat_eq, if◌then◌else◌}

-- n spaces
abbrev pub spaces : ℕ → List ℕ
spaces zero = []
spaces (suc n) = 32 ∷ spaces n

-- No byte of the text is a space.
abbrev pub HasNoSpace : List ℕ → Type 0
HasNoSpace [] = Unit {0}
HasNoSpace (b ∷ bs) = (b ≢ 32) × HasNoSpace bs

-- a text that neither begins nor ends with a space
pub record IsBare (text : List ℕ) : Type 0 where
  pub begins : (back : List ℕ) → text ≢ 32 ∷ back
  pub ends : (front : List ℕ) → text ≢ front ++ 32 ∷ []

-- A rest comes after a word and at least one space. If there is no rest, the spaces after the word
-- count as final ones.
abbrev pub IsApart : List ℕ → ℕ → List ℕ → Type 0
IsApart word between [] = between ≡ 0
IsApart word between (b ∷ bs) = (word ≢ []) × (0 < between)

-- A text split at its first gap: spaces, the first word, spaces, the rest, and spaces.
pub record Split (text : List ℕ) : Type 0 where
  pub before : ℕ
  pub word : List ℕ
  pub between : ℕ
  pub rest : List ℕ
  pub after : ℕ
  pub text_is : text ≡ spaces before ++ (word ++ (spaces between ++ (rest ++ spaces after)))
  pub word_is : HasNoSpace word
  pub rest_is : IsBare rest
  pub apart : IsApart word between rest

-- the number of bytes before the rest
abbrev pub rest_at : {text : List ℕ} → Split text → ℕ
rest_at s = s.before + length s.word + s.between

-- the text without its leading spaces
abbrev pub after_spaces : List ℕ → List ℕ
after_spaces [] = []
after_spaces (b ∷ bs) = if nat_eq b 32 then after_spaces bs else b ∷ bs

-- a byte before a text without final spaces
abbrev pub closed : ℕ → List ℕ → List ℕ
closed b [] = if nat_eq b 32 then [] else b ∷ []
closed b (c ∷ cs) = b ∷ (c ∷ cs)

-- the text without its final spaces
abbrev pub before_spaces : List ℕ → List ℕ
before_spaces [] = []
before_spaces (b ∷ bs) = closed b (before_spaces bs)

-- the text up to its first space
abbrev pub first_word : List ℕ → List ℕ
first_word [] = []
first_word (b ∷ bs) = if nat_eq b 32 then [] else b ∷ first_word bs

-- the text from its first space on
abbrev pub after_word : List ℕ → List ℕ
after_word [] = []
after_word (b ∷ bs) = if nat_eq b 32 then b ∷ bs else after_word bs

-- what follows the first word and the spaces after it
abbrev pub rest_of : List ℕ → List ℕ
rest_of text = after_spaces (after_word text)

abbrev pub is_empty : List ℕ → Bool
is_empty [] = true
is_empty (b ∷ bs) = false

-- The text is one word: not empty, and without spaces.
abbrev pub is_word : List ℕ → Bool
is_word [] = false
is_word (b ∷ bs) = is_empty (after_word (b ∷ bs))
