-- The head of a text, line by line.
use Rattle.std.proofs.Common.{◌≡◌, ◌<◌, arith, ℕ, Bool, List, [], ◌∷◌, ◌++◌, drop, codes, decimal, refl, ap, ◌∙◌, Some}
use Rattle.std.specs.Prelude.{Result, Ok}
use Rattle.std.proofs.lemmas.List.{append_assoc}
use Rattle.hive_model.specs.declared.pieces.GameType.{GameType}
use Rattle.hive_model.specs.declared.places.Move.{Move}
use Rattle.io_edge.specs.Lines.{Line, ToldLines}
use Rattle.hive_model.specs.Strings.{string}
use Rattle.game_text.specs.declared.parsed.Parsed.{Parsed}
use Rattle.certificate_text.specs.declared.head.HeadFault.{HeadFault}
use Rattle.certificate_text.specs.Heads.{IsBehind}
use Rattle.certificate_text.specs.Text.{and_then, field_in, game_in, written_line}
use Rattle.certificate_text.proofs.TextLaws.{GoesOn, behind-field, behind-game}
use Rattle.win_commands.specs.declared.head.Head.{Head}
use Rattle.win_commands.specs.Text.{answer_at, answer_word, head_text, plies_at, version_at}
use Rattle.win_commands.specs.Verdicts.{head_of}

-- ---- reading

abbrev pub head_is : Parsed → ℕ → Bool → Head
head_is game plies answer = record { game = game; plies = plies; answer = answer }

-- what is made from the parts of the head
abbrev pub after_answer : Parsed → ℕ → Bool → Result Head HeadFault
after_answer game plies answer = Ok (head_is game plies answer)

abbrev pub after_plies : List Line → Parsed → ℕ → Result Head HeadFault
after_plies lines game plies = and_then (field_in 4 answer_at (drop 3 lines)) (after_answer game plies)

abbrev pub after_game : List Line → Parsed → Result Head HeadFault
after_game lines game = and_then (field_in 3 plies_at (drop 2 lines)) (after_plies lines game)

abbrev pub after_version : List Line → ℕ → Result Head HeadFault
after_version lines version = and_then (game_in (drop 1 lines)) (after_game lines)

pub begins : (lines : List Line) (before : ToldLines) → before ≡ Some lines → GoesOn (head_of lines) lines 0 (and_then (field_in 1 version_at (drop 0 lines)) (after_version lines)) before
unfolding head_of
begins lines before told = record { told = told; so = refl }

-- what the lines after the first n give is the fault of none of the first n

pub behind-answer : (m : ℕ) (lines : List Line) (game : Parsed) (plies : ℕ) → m < 4 → IsBehind m (after_plies lines game plies)
behind-answer m lines game plies less = behind-field m 4 answer_at (drop 3 lines) (after_answer game plies) less (λ answer. tt)

pub behind-plies : (m : ℕ) (lines : List Line) (game : Parsed) → m < 3 → IsBehind m (after_game lines game)
behind-plies m lines game less = behind-field m 3 plies_at (drop 2 lines) (after_plies lines game) less (λ plies. behind-answer m lines game plies (omega (arith, less)))

pub behind-version : (m : ℕ) (lines : List Line) (version : ℕ) → m < 2 → IsBehind m (after_version lines version)
behind-version m lines version less = behind-game m (drop 1 lines) (after_game lines) less (λ game. behind-plies m lines game (omega (arith, less)))

pub behind-none : (lines : List Line) → IsBehind 0 (and_then (field_in 1 version_at (drop 0 lines)) (after_version lines))
behind-none lines = behind-field 0 1 version_at (drop 0 lines) (after_version lines) (omega arith) (λ version. behind-version 0 lines version (omega arith))

-- ---- writing

-- the head, as the code puts it together
pub head-pushed : (t : GameType) (ms : List Move) (plies : ℕ) (answer : Bool) (start a b c d e : List ℕ) → start ≡ [] → a ≡ start ++ written_line (codes "hive-solution " ++ codes "1") → b ≡ a ++ string t ms →
    c ≡ b ++ 10 ∷ [] → d ≡ c ++ written_line (codes "plies " ++ decimal plies) → e ≡ d ++ written_line (codes "answer " ++ answer_word answer) → e ≡ head_text t ms plies answer
unfolding head_text
head-pushed t ms plies answer start a b c d e none one two three four five =
    let first : a ≡ written_line (codes "hive-solution 1") = one ∙ ap (λ s. s ++ written_line (codes "hive-solution " ++ codes "1")) none in
    let game : c ≡ written_line (codes "hive-solution 1") ++ written_line (string t ms) =
    three ∙ ap (λ s. s ++ 10 ∷ []) two ∙ append_assoc a (string t ms) (10 ∷ []) ∙ ap (λ s. s ++ written_line (string t ms)) first in
    five ∙ ap (λ s. s ++ written_line (codes "answer " ++ answer_word answer)) (four ∙ ap (λ s. s ++ written_line (codes "plies " ++ decimal plies)) game)
