-- Lists of exactly one word.
use Rattle.std.proofs.Common.{◌≡◌, ◌<◌, ◌≤◌, ◌∙◌, ℕ, Bool, true, List, [], ◌∷◌, length, get_or, map, ap, sym, arith, IsTrue, String, Global}
use Rattle.std.specs.Prelude.{string_bytes}

true_of : (b : Bool) → IsTrue b → b ≡ true
true_of b t = t

of_true : (b : Bool) → b ≡ true → IsTrue b
of_true b t = t

front : {x y : List ℕ} → x ∷ [] ≡ y ∷ [] → x ≡ y
front e = cc

-- the words are exactly this text, if the answer is whether the first of them is
pub one_word : (words : List (String Global)) (word : String Global) (b : Bool) (text : List ℕ) → 1 ≤ length words → length words < 2 → word ≡ get_or words 0 word
    → (b ≡ true → string_bytes word ≡ text) → (string_bytes word ≡ text → b ≡ true) → (IsTrue b → map string_bytes words ≡ text ∷ []) × (map string_bytes words ≡ text ∷ [] → IsTrue b)
one_word [] word b text l h e f g = absurd (omega arith)
one_word (x ∷ []) word b text l h e f g =
    (λ t. ap (λ s. s ∷ []) (ap string_bytes (sym e) ∙ f (true_of b t)), λ is. of_true b (g (ap string_bytes e ∙ front is)))
one_word (x ∷ y ∷ more) word b text l h e f g = absurd (omega arith)
