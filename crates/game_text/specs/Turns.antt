-- The turn that a part declares, as a function that computes.
use Rattle.std.specs.Prelude.{◌≡◌, ℕ, ◌≤◌, nat_eq, List, [], ◌∷◌, codes, Option, Some, None, option_map, if◌then◌else◌}
use Rattle.hive_model.specs.declared.pieces.Colour.{Colour}
use Rattle.hive_model.specs.declared.pieces.Colour.TheVariants.{White, Black}
use Rattle.hive_model.specs.Strings.{turn_bytes}
use Rattle.move_text.specs.Readers.{number_at}
use Rattle.game_text.specs.declared.turns.DeclaredTurn.{DeclaredTurn}

-- The part declares this turn. It is `White[n]` or `Black[n]`, with a number of 1 to 9 digits other
-- than 0.
pub record IsTurn (text : List ℕ) (u : DeclaredTurn) : Type 0 where
  pub text_is : text ≡ turn_bytes u.side u.number
  pub low : 1 ≤ u.number
  pub high : u.number ≤ 999999999

-- the text after a word
abbrev pub behind_word : List ℕ → List ℕ → Option (List ℕ)
behind_word [] xs = Some xs
behind_word (p ∷ ps) [] = None
behind_word (p ∷ ps) (x ∷ xs) = if nat_eq x p then behind_word ps xs else None

-- the text before a final bracket
abbrev pub before_close : List ℕ → Option (List ℕ)
before_close [] = None
before_close (x ∷ []) = if nat_eq x 93 then Some [] else None
before_close (x ∷ y ∷ ys) = option_map (λ (r : List ℕ). x ∷ r) (before_close (y ∷ ys))

abbrev pub turn_number : Colour → Option ℕ → Option DeclaredTurn
turn_number c None = None
turn_number c (Some n) = Some (record { side = c; number = n })

abbrev pub turn_digits : Colour → Option (List ℕ) → Option DeclaredTurn
turn_digits c None = None
turn_digits c (Some digits) = turn_number c (number_at digits 1 999999999)

abbrev pub turn_of : Colour → Option (List ℕ) → Option DeclaredTurn
turn_of c None = None
turn_of c (Some text) = turn_digits c (before_close text)

abbrev pub or_turn : Option DeclaredTurn → Option DeclaredTurn → Option DeclaredTurn
or_turn None other = other
or_turn (Some t) other = Some t

-- the turn that the part declares, if it declares one
unfoldable pub turn_at : List ℕ → Option DeclaredTurn
turn_at text =
    or_turn (turn_of White (behind_word (codes "White[") text))
    (turn_of Black (behind_word (codes "Black[") text))
