-- What is written for a game is accepted.
use Rattle.std.proofs.Common.{◌≡◌, ℕ, ◌+◌, ◌^◌, ◌≤◌, ◌<◌, Bool, true, false, List, ◌∷◌, ◌++◌, length, map, refl, sym, ap, subst, ◌∙◌, arith, lit<, Some}
use Rattle.std.specs.Prelude.{codes, decimal, Ok}
use Rattle.std.proofs.lemmas.Fmt.{decimal_digit}
use Rattle.std.proofs.lemmas.List.{append_assoc}
use Rattle.hive_model.specs.declared.pieces.GameType.{GameType}
use Rattle.hive_model.specs.declared.places.Move.{Move}
use Rattle.hive_model.specs.Positions.{Position, opening}
use Rattle.hive_model.specs.Pieces.{is_colour}
use Rattle.hive_model.specs.Legal.{is_over}
use Rattle.hive_model.specs.Games.{replay}
use Rattle.io_edge.specs.Lines.{Line, Text, lines}
use Rattle.hive_model.specs.Strings.{string}
use Rattle.rule_laws.proofs.Games.{games_sound}
use Rattle.move_text.proofs.NumberLaws.{number_again}
use Rattle.move_text.specs.Readers.{number_at}
use Rattle.game_text.specs.Reading.{game_of}
use Rattle.game_text.specs.declared.parsed.Parsed.{Parsed}
use Rattle.game_text.proofs.GameLaws.{strings}
use Rattle.game_text.proofs.LineLaws.{game_again}
use Rattle.io_edge.specs.Outside.{behind}
use Rattle.certificate_text.specs.Text.{and_then, index_in, or_bad, or_bad_game, then_at, written_line}
use Rattle.certificate_text.proofs.TextLaws.{some-behind}
use Rattle.certificate_indices.specs.Writing.{index_lines}
use Rattle.strategy_make.proofs.PlainLaws.{IsPlain, decimal-plain, joined, string-plain}
use Rattle.strategy_make.proofs.LineLaws.{lines-begin}
use Rattle.strategy_make.proofs.LowLaws.{AreLow, indices-read, least-low}
use Rattle.win_solver.specs.Solution.{least_solution, limit_of}
use Rattle.win_solver.proofs.SolutionLaws.{least-is, least-solves}
use Rattle.certificate_verdicts.specs.Verdicts.{of_walk}
use Rattle.certificate_verdicts.proofs.AskedLaws.{asked-open}
use Rattle.certificate_verdicts.proofs.TextLaws.{if-open, verdict-is}
use Rattle.win_commands.specs.declared.head.Head.{Head}
use Rattle.win_commands.specs.Text.{answer_at, answer_of, answer_word, head_text, is_forced, plies_at, version_at}
use Rattle.win_commands.specs.Verdicts.{head_of, of_claim, of_items, verdict}
use Rattle.win_commands.specs.Laws.{MayAsk, SolutionsAreAccepted, SolvedIsAccepted}
use Rattle.win_commands.proofs.HeadLaws.{after_answer, after_game, after_plies, after_version, begins, head_is}

-- ---- the fields

version-is : version_at (codes "hive-solution 1") ≡ Some 1
version-is =
    let fits : 1 < 2 ^ 64 = lit< tt in
    ap (λ o. then_at o (λ t. number_at t 1 1)) (some-behind (codes "hive-solution ") _ (codes "1") refl)
    ∙ number_again (codes "1") 1 1 1 fits (record { digits = sym (decimal_digit 1 (omega arith)); low = omega arith; high = omega arith })

plies-is : (n : ℕ) → 1 ≤ n → n ≤ 16 → plies_at (codes "plies " ++ decimal n) ≡ Some n
plies-is n some few =
    let fits : 16 < 2 ^ 64 = lit< tt in
    ap (λ o. then_at o (λ t. number_at t 1 16)) (some-behind (codes "plies ") _ (decimal n) refl)
    ∙ number_again (decimal n) 1 16 n fits (record { digits = refl; low = some; high = few })

word-is : (answer : Bool) → answer_of (answer_word answer) ≡ Some answer
word-is true = refl
word-is false = refl

answer-is : (answer : Bool) → answer_at (codes "answer " ++ answer_word answer) ≡ Some answer
answer-is answer = ap (λ o. then_at o answer_of) (some-behind (codes "answer ") _ (answer_word answer) refl) ∙ word-is answer

answer-plain : (answer : Bool) → IsPlain 65536 (codes "answer " ++ answer_word answer)
answer-plain true = record { plain = refl; short = omega arith }
answer-plain false = record { plain = refl; short = omega arith }

plies-plain : (n : ℕ) → n ≤ 16 → IsPlain 65536 (codes "plies " ++ decimal n)
plies-plain n few = joined 6 7 65536 (codes "plies ") (decimal n) (record { plain = refl; short = omega arith }) (decimal-plain n (omega (arith, few))) (omega arith)

-- ---- the lines

four-parts : (a b c d rest : List ℕ) → (((a ++ b) ++ c) ++ d) ++ rest ≡ a ++ (b ++ (c ++ (d ++ rest)))
four-parts a b c d rest = append_assoc ((a ++ b) ++ c) d rest ∙ append_assoc (a ++ b) c (d ++ rest) ∙ append_assoc a b (c ++ (d ++ rest))

four-lines : (a b c d rest : List ℕ) → IsPlain 65536 a → IsPlain 65536 b → IsPlain 65536 c → IsPlain 65536 d →
    lines ((((written_line a ++ written_line b) ++ written_line c) ++ written_line d) ++ rest) ≡ Text a ∷ (Text b ∷ (Text c ∷ (Text d ∷ lines rest)))
four-lines a b c d rest ha hb hc hd =
    ap lines (four-parts (written_line a) (written_line b) (written_line c) (written_line d) rest)
    ∙ lines-begin a _ ha
    ∙ ap (λ s. Text a ∷ s) (lines-begin b _ hb)
    ∙ ap (λ s. Text a ∷ (Text b ∷ s)) (lines-begin c _ hc)
    ∙ ap (λ s. Text a ∷ (Text b ∷ (Text c ∷ s))) (lines-begin d rest hd)

head-lines : (t : GameType) (ms : List Move) (plies : ℕ) (answer : Bool) (rest : List ℕ) → IsPlain 65536 (string t ms) → plies ≤ 16 →
    lines (head_text t ms plies answer ++ rest)
    ≡ Text (codes "hive-solution 1") ∷ (Text (string t ms) ∷ (Text (codes "plies " ++ decimal plies) ∷ (Text (codes "answer " ++ answer_word answer) ∷ lines rest)))
unfolding head_text
head-lines t ms plies answer rest plain few =
    four-lines (codes "hive-solution 1") (string t ms) (codes "plies " ++ decimal plies) (codes "answer " ++ answer_word answer) rest
    (record { plain = refl; short = omega arith }) plain (plies-plain plies few) (answer-plain answer)

-- ---- the head

four-read : (a b c d : List ℕ) (rest : List Line) (v : ℕ) (game : Parsed) (plies : ℕ) (answer : Bool) → version_at a ≡ Some v → game_of b ≡ Ok game → plies_at c ≡ Some plies → answer_at d ≡ Some answer →
    head_of (Text a ∷ (Text b ∷ (Text c ∷ (Text d ∷ rest)))) ≡ Ok (head_is game plies answer)
four-read a b c d rest v game plies answer one two three four =
    let ls : List Line = Text a ∷ (Text b ∷ (Text c ∷ (Text d ∷ rest))) in
    (begins ls (Some ls) refl).so
    ∙ ap (λ o. and_then (or_bad 1 o) (after_version ls)) one
    ∙ ap (λ o. and_then (or_bad_game o) (after_game ls)) two
    ∙ ap (λ o. and_then (or_bad 3 o) (after_plies ls game)) three
    ∙ ap (λ o. and_then (or_bad 4 o) (after_answer game plies)) four

-- ---- the verdict

solution-low : (t : GameType) (ms : List Move) (plies : ℕ) (answer : Bool) → MayAsk t ms plies → AreLow (least_solution (replay (opening t) ms) plies (replay (opening t) ms).side answer)
solution-low t ms plies answer may =
    let few = may.few in
    let short = may.short in
    let p : Position = replay (opening t) ms in
    let low : length ms ≤ 9000 = omega (arith, few) in
    let room : length ms + plies ≤ 9000 = omega (arith, few, short) in
    let sound = games_sound t ms may.game low in
    subst AreLow (sym (least-is plies p p.side answer)) (least-low plies p (length ms) (limit_of (is_colour p.side p.side) answer) sound.0 sound.1 room)

pub accepted : SolutionsAreAccepted
accepted t ms plies may =
    let p : Position = replay (opening t) ms in
    let answer : Bool = is_forced p plies in
    let indices : List ℕ = least_solution p plies p.side answer in
    let game : Parsed = record { game_type = t; moves = ms } in
    let head : Head = head_is game plies answer in
    let ls : List Line = Text (codes "hive-solution 1") ∷ (Text (string t ms) ∷ (Text (codes "plies " ++ decimal plies) ∷ (Text (codes "answer " ++ answer_word answer) ∷ lines (index_lines indices)))) in
    let read : head_of ls ≡ Ok head =
    four-read (codes "hive-solution 1") (string t ms) (codes "plies " ++ decimal plies) (codes "answer " ++ answer_word answer) (lines (index_lines indices)) 1 game plies answer
    version-is (game_again (string t ms) t ms (strings t ms may.game may.few)) (plies-is plies may.some may.short) (answer-is answer) in
    ap verdict (head-lines t ms plies answer (index_lines indices) (string-plain t ms may.game may.few) may.short)
    ∙ verdict-is 4 head_of of_claim ls (Ok head) read
    ∙ if-open (is_over p) (of_items p plies answer (map index_in (lines (index_lines indices)))) may.open_
    ∙ ap (of_items p plies answer) (indices-read indices (solution-low t ms plies answer may))
    ∙ ap (of_walk 4) (least-solves p plies p.side).1

-- ---- a run

pub solved-accepted : SolvedIsAccepted
solved-accepted = λ plies some short before after run input told none.
    let (text, wrote) = run input told in
    let (game, is_asked, answer) = wrote.answer in
    let here = asked-open (lines input) game is_asked.asks in
    let may : MayAsk game.game_type game.moves plies = record { game = here.legal; few = here.few; open_ = here.goes_on; some = some; short = short } in (
      text,
      wrote.wrote ∙ ap (λ w. behind w text) none,
      ap (λ x. verdict (lines x)) answer ∙ accepted game.game_type game.moves plies may,
    )
