-- A test of the text of a program, byte by byte.
use Rattle.std.specs.Prelude.{ℕ, Bool, true, false, List, [], ◌∷◌, nat_eq, if◌then◌else◌}

-- A word begins here, or one goes on here, and all words after it are not empty.
abbrev pub goes_on : Bool → List ℕ → Bool
goes_on true [] = false
goes_on false [] = true
goes_on true (b ∷ bs) = if nat_eq b 32 then false else goes_on false bs
goes_on false (b ∷ bs) = if nat_eq b 32 then goes_on true bs else goes_on false bs

abbrev pub begins_word : List ℕ → Bool
begins_word text = goes_on true text
