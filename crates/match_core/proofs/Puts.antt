-- The line that sends a move, made from its parts.
use Rattle.std.proofs.Common.{◌≡◌, ℕ, ◌+◌, ◌≤◌, List, [], ◌++◌, length, ap, sym, ◌∙◌, append_assoc, arith}
use Rattle.std.specs.Prelude.{codes}
use Rattle.hive_model.specs.declared.pieces.Piece.{Piece}
use Rattle.hive_model.specs.declared.places.Place.{Place}
use Rattle.hive_model.specs.declared.places.Move.{Move}
use Rattle.hive_model.specs.declared.places.Move.TheVariants.{Pass, To}
use Rattle.hive_model.specs.Boards.{Stacks}
use Rattle.hive_model.specs.Denotes.{text}
use Rattle.hive_model.specs.Positions.{Position}
use Rattle.match_core.specs.Texts.{tell_line, most_sent}

-- there is room for the first word, which has five bytes
pub word_fits : (none : ℕ) → none ≡ 0 → none + 5 ≤ most_sent
word_fits none e = omega (arith, e)

-- for the written move, which has at most eight
pub move_fits : (none word : ℕ) (bytes shown written : List ℕ) → none ≡ 0 → word ≡ none + 5 → bytes ≡ shown → shown ≡ written → length written ≤ 8 → word + length bytes ≤ most_sent
move_fits none word bytes shown written e more same is few =
    let long : length bytes ≡ length written = ap length (same ∙ is) in
    omega (arith, e, more, few, long)

-- and for the end of the line
pub end_fits : (none word all : ℕ) (bytes shown written : List ℕ) → none ≡ 0 → word ≡ none + 5 → all ≡ word + length bytes → bytes ≡ shown → shown ≡ written → length written ≤ 8
    → all + 1 ≤ most_sent
end_fits none word all bytes shown written e more last same is few =
    let long : length bytes ≡ length written = ap length (same ∙ is) in
    omega (arith, e, more, last, few, long)

-- these parts are the line that sends the move
pub tells_pass : (p : Position) (m : Move) (none all : List ℕ) → m ≡ Pass → none ≡ [] → all ≡ none ++ codes "pass\n" → all ≡ tell_line p m
unfolding tell_line
tells_pass p m none all is e put = put ∙ ap (λ (z : List ℕ). z ++ codes "pass\n") e ∙ sym (ap (tell_line p) is)

pub tells_move : (p : Position) (b : Stacks) (m : Move) (x : Piece) (place : Place) (none word more all bytes shown written : List ℕ) → b ≡ p.board → m ≡ To x place → none ≡ []
    → word ≡ none ++ codes "play " → more ≡ word ++ bytes → all ≡ more ++ codes "\n" → bytes ≡ shown → shown ≡ written → written ≡ text b m → all ≡ tell_line p m
unfolding tell_line
tells_move p b m x place none word more all bytes shown written board is e first then last same spelled told =
    let start : word ≡ codes "play " = first ∙ ap (λ (z : List ℕ). z ++ codes "play ") e in
    let move : bytes ≡ text b m = same ∙ (spelled ∙ told) in
    last ∙ ap (λ (z : List ℕ). z ++ codes "\n") (then ∙ (λ j. start j ++ move j)) ∙ append_assoc (codes "play ") (text b m) (codes "\n")
    ∙ (λ j. codes "play " ++ (text (board j) (is j) ++ codes "\n")) ∙ sym (ap (tell_line p) is)
