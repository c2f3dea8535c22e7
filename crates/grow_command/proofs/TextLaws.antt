-- The lines about a made game, one after another.
use Rattle.std.proofs.Common.{◌≡◌, ℕ, List, [], ◌∷◌, ◌++◌, length, codes, decimal, sym, ap, subst, ◌∙◌, arith, Option, None, Some, append_assoc}
use Rattle.std.specs.Prelude.{if◌then◌else◌}
use Rattle.std.proofs.lemmas.List.{append-nil}
use Rattle.hive_model.specs.declared.best.Best.{Best}
use Rattle.hive_model.specs.declared.pieces.GameType.{GameType}
use Rattle.hive_model.specs.declared.places.Move.{Move}
use Rattle.hive_model.specs.Positions.{Position, opening}
use Rattle.hive_model.specs.Games.{replay}
use Rattle.hive_model.specs.Legal.{moves, state}
use Rattle.hive_model.specs.Lists.{IsOn}
use Rattle.hive_model.specs.Fields.{state_bytes, type_bytes}
use Rattle.hive_model.specs.Strings.{string}
use Rattle.hive_model.specs.Minimax.{IsInner, best}
use Rattle.search_laws.proofs.BestLaws.{best-exists, best-is}
use Rattle.search_laws.proofs.LoopLaws.{on-at}
use Rattle.certificate_text.specs.Text.{written_line}
use Rattle.grow_game.specs.Growing.{full_type, start, grown_moves, choices, IsBestHere, TellsBest}
use Rattle.grow_command.specs.Laws.{BestMovesAreTold}
use Rattle.grow_command.specs.Text.{best_field, move_field, grow_text, lines_about, lines_text}

-- the best move that is written is legal
pub told-legal : (p : Position) (told : Option Best) (b : Best) → TellsBest p told → told ≡ Some b → IsOn (moves p) b.best
told-legal p told b tells is =
    let here : IsBestHere p b = subst (λ o. TellsBest p o) is tells in
    let first = best-is p 1 b.best here.first in
    on-at (moves p) first.place b.best first.move

-- the best move is written if the game goes on
pub best-told : BestMovesAreTold
best-told p goes_on =
    let inner : IsInner p 1 = record { deep = omega arith; open_ = goes_on } in
    let found = best-exists p 1 inner in (
      found.0,
      best-is p 1 found.0 found.1,
      ap (move_field p.board) (ap (λ b. if b then None else best p 1) goes_on ∙ found.1),
    )

-- one line more
lines-more : (done : List (List ℕ)) (line : List ℕ) → lines_text done ++ written_line line ≡ lines_text (done ++ line ∷ [])
unfolding lines_text
lines-more [] line = sym (append-nil (written_line line))
lines-more (l ∷ ls) line = append_assoc (written_line l) (lines_text ls) (written_line line) ∙ ap (λ t. written_line l ++ t) (lines-more ls line)

line-behind : (done : List (List ℕ)) (line a b : List ℕ) → a ≡ lines_text done → b ≡ a ++ written_line line → b ≡ lines_text (done ++ line ∷ [])
line-behind done line a b before wrote = wrote ∙ (ap (λ t. t ++ written_line line) before ∙ lines-more done line)

none-yet : (a : List ℕ) → a ≡ [] → a ≡ lines_text []
unfolding lines_text
none-yet a e = e

-- eight lines, as the code puts them together
eight-behind : (l1 l2 l3 l4 l5 l6 l7 l8 none a b c d e f h i : List ℕ) → none ≡ [] → a ≡ none ++ written_line l1 → b ≡ a ++ written_line l2 → c ≡ b ++ written_line l3 → d ≡ c ++ written_line l4 → e ≡ d ++ written_line l5 → f ≡ e ++ written_line l6
    → h ≡ f ++ written_line l7 → i ≡ h ++ written_line l8 → i ≡ lines_text (l1 ∷ (l2 ∷ (l3 ∷ (l4 ∷ (l5 ∷ (l6 ∷ (l7 ∷ (l8 ∷ []))))))))
eight-behind l1 l2 l3 l4 l5 l6 l7 l8 none a b c d e f h i zero_lines one two three four five six seven eight =
    let done1 = line-behind [] l1 none a (none-yet none zero_lines) one in
    let done2 = line-behind (l1 ∷ []) l2 a b done1 two in
    let done3 = line-behind (l1 ∷ (l2 ∷ [])) l3 b c done2 three in
    let done4 = line-behind (l1 ∷ (l2 ∷ (l3 ∷ []))) l4 c d done3 four in
    let done5 = line-behind (l1 ∷ (l2 ∷ (l3 ∷ (l4 ∷ [])))) l5 d e done4 five in
    let done6 = line-behind (l1 ∷ (l2 ∷ (l3 ∷ (l4 ∷ (l5 ∷ []))))) l6 e f done5 six in
    let done7 = line-behind (l1 ∷ (l2 ∷ (l3 ∷ (l4 ∷ (l5 ∷ (l6 ∷ [])))))) l7 f h done6 seven in
    line-behind (l1 ∷ (l2 ∷ (l3 ∷ (l4 ∷ (l5 ∷ (l6 ∷ (l7 ∷ []))))))) l8 h i done7 eight

pub lines-pushed : (seed : ℕ) (t : GameType) (ms : List Move) (chosen undone : ℕ) (none a b c d e f h i : List ℕ) → none ≡ [] → a ≡ none ++ written_line (codes "seed " ++ decimal seed)
    → b ≡ a ++ written_line (codes "type " ++ type_bytes t) → c ≡ b ++ written_line (codes "plies " ++ decimal (length ms)) → d ≡ c ++ written_line (codes "state " ++ state_bytes (state (replay (opening t) ms)))
    → e ≡ d ++ written_line (codes "moves " ++ decimal chosen) → f ≡ e ++ written_line (codes "undone " ++ decimal undone) → h ≡ f ++ written_line (codes "best " ++ best_field (replay (opening t) ms))
    → i ≡ h ++ written_line (codes "game " ++ string t ms) → i ≡ lines_text (lines_about seed t ms chosen undone)
lines-pushed seed t ms chosen undone none a b c d e f h i zero_lines one two three four five six seven eight =
    eight-behind (codes "seed " ++ decimal seed) (codes "type " ++ type_bytes t) (codes "plies " ++ decimal (length ms)) (codes "state " ++ state_bytes (state (replay (opening t) ms)))
    (codes "moves " ++ decimal chosen) (codes "undone " ++ decimal undone) (codes "best " ++ best_field (replay (opening t) ms)) (codes "game " ++ string t ms)
    none a b c d e f h i zero_lines one two three four five six seven eight

-- the lines about the game of a seed are its text
pub told-text : (seed plies : ℕ) (t : GameType) (ms : List Move) (chosen undone : ℕ) → t ≡ full_type → ms ≡ grown_moves seed plies → chosen ≡ choices start ms → undone ≡ length ms
    → lines_text (lines_about seed t ms chosen undone) ≡ grow_text seed plies
unfolding grow_text
told-text seed plies t ms chosen undone kind made sum back =
    let counted : chosen ≡ choices start (grown_moves seed plies) = sum ∙ ap (choices start) made in
    let undone_all : undone ≡ length (grown_moves seed plies) = back ∙ ap (λ xs. length xs) made in
    λ j. lines_text (lines_about seed (kind j) (made j) (counted j) (undone_all j))
