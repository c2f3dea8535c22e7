-- A certificate that was written is read: its head, and that its indices hold.
use Rattle.std.proofs.Common.{◌≡◌, ◌≢◌, ℕ, suc, ◌+◌, ◌%◌, ◌^◌, ◌≤◌, ◌<◌, Bool, true, false, List, [], ◌∷◌, ◌++◌, ◌-◌, length, drop, map, refl, sym, ◌∙◌, ap, subst, arith, lit<, Some, None, inl, inr}
use Rattle.std.specs.Prelude.{nat_eq, codes, decimal, if◌then◌else◌, Ok, ℤ, pos, negsuc, neg_ℤ}
use Rattle.std.specs.Option.{option_map}
use Rattle.std.specs.Fmt.{signed_decimal}
use Rattle.std.proofs.lemmas.Bool.{ne_eqb}
use Rattle.std.proofs.lemmas.Fmt.{decimal_by_steps}
use Rattle.std.proofs.lemmas.Int.{ints}
use Rattle.std.proofs.lemmas.List.{append_assoc}
use Rattle.hive_model.specs.declared.pieces.GameType.{GameType}
use Rattle.hive_model.specs.declared.places.Move.{Move}
use Rattle.hive_model.specs.Lists.{IsOn}
use Rattle.hive_model.specs.Positions.{Position, opening}
use Rattle.hive_model.specs.Legal.{moves}
use Rattle.hive_model.specs.Games.{replay, IsGame}
use Rattle.hive_model.specs.Minimax.{value}
use Rattle.hive_model.specs.Denotes.{Denotes, text}
use Rattle.hive_model.specs.Boards.{Stacks}
use Rattle.hive_model.specs.Strings.{string}
use Rattle.io_edge.specs.Lines.{Line, Text, lines}
use Rattle.hive_model.proofs.MoveLaws.{moves_legal}
use Rattle.move_text.proofs.LegalSpell.{legal_denotes}
use Rattle.rule_laws.proofs.Games.{games_sound}
use Rattle.game_text.specs.Turns.{behind_word}
use Rattle.game_text.specs.Reading.{game_of}
use Rattle.game_text.specs.declared.parsed.Parsed.{Parsed}
use Rattle.game_text.proofs.GameLaws.{strings}
use Rattle.game_text.proofs.LineLaws.{game_again}
use Rattle.move_text.specs.Readers.{number_at}
use Rattle.move_text.proofs.NumberLaws.{number_again}
use Rattle.search_laws.specs.Laws.{IsSmall}
use Rattle.strategy_check.specs.Trace.{Holds}
use Rattle.strategy_check.proofs.LeastLaws.{least-holds}
use Rattle.certificate_text.specs.Text.{and_then, head_of, index_in, head_text, written_line, or_bad, or_bad_game, then_at, version_at, depth_at, move_at, value_at, int_at, signed, not_empty}
use Rattle.certificate_text.proofs.TextLaws.{some-behind, head-begins, after_version, after_game, after_depth, after_text, head_is}
use Rattle.certificate_indices.specs.Writing.{index_lines}
use Rattle.strategy_make.specs.Making.{least_at, least_indices, certificate}
use Rattle.strategy_make.specs.Laws.{LeastIndicesHold, MayClaim, HeadsAreRead, IndicesAreRead}
use Rattle.strategy_make.proofs.PlainLaws.{IsPlain, joined, wider-plain, decimal-plain, signed-plain, denotes-plain, string-plain}
use Rattle.strategy_make.proofs.LineLaws.{lines-begin}
use Rattle.strategy_make.proofs.LowLaws.{indices-read, indices-low}

pub least-hold : LeastIndicesHold
least-hold p d m inner is =
    let h = least-holds p d m inner is in
    subst (Holds p d m (value p d)) (sym (ap (least_at p d m (value p d)) h.1)) h.2

-- ---- the fields of the lines

pub number-is : (n low high : ℕ) → high < 2 ^ 64 → low ≤ n → n ≤ high → number_at (decimal n) low high ≡ Some n
number-is n low high fits from to = number_again (decimal n) low high n fits (record { digits = refl; low = from; high = to })

version-is : (newest n : ℕ) → 1 ≤ n → n ≤ newest → newest ≤ 2 → version_at newest (codes "hive-certificate " ++ decimal n) ≡ Some n
version-is newest n some known few =
    let fits : 2 < 2 ^ 64 = lit< tt in
    ap (λ o. then_at o (λ t. number_at t 1 newest)) (some-behind (codes "hive-certificate ") _ (decimal n) refl) ∙ number-is n 1 newest (omega (arith, few, fits)) some known

depth-is : (d : ℕ) → 1 ≤ d → d ≤ 64 → depth_at (codes "depth " ++ decimal d) ≡ Some d
depth-is d some deep =
    let fits : 64 < 2 ^ 64 = lit< tt in
    ap (λ o. then_at o (λ t. number_at t 1 64)) (some-behind (codes "depth ") _ (decimal d) refl) ∙ number-is d 1 64 fits some deep

-- no number begins with a byte that is not a digit
pub no-mark : (mark : ℕ) → ((n : ℕ) → n < 10 → 48 + n ≢ mark) → (n : ℕ) → n < 2 ^ 64 → behind_word (mark ∷ []) (decimal n) ≡ None
no-mark mark other n h = decimal_by_steps (λ _ ds. behind_word (mark ∷ []) ds ≡ None) (λ n low. digit n low) (λ n ds low front. more ds (n % 10) (omega arith) front) n h
  where
    digit : (n : ℕ) → n < 10 → behind_word (mark ∷ []) ((48 + n) ∷ []) ≡ None
    digit n low = ap (λ t. if t then Some [] else None) (ne_eqb (48 + n) mark (other n low))

    more : (ds : List ℕ) (n : ℕ) → n < 10 → behind_word (mark ∷ []) ds ≡ None → behind_word (mark ∷ []) (ds ++ (48 + n) ∷ []) ≡ None
    more [] n low e = digit n low
    more (b ∷ ds) n low e = go (nat_eq b mark) e
      where
        go : (t : Bool) → (if t then Some ds else None) ≡ None → (if t then Some (ds ++ (48 + n) ∷ []) else None) ≡ None
        go true e = absurd (cc)
        go false e = refl

int-is : (v : ℤ) → IsSmall 1000064 v → int_at (signed_decimal v) ≡ Some v
int-is (pos n) h =
    let fits : 1000064 < 2 ^ 64 = lit< tt in
    let high : n ≤ 1000064 = omega (arith, ints, h.high) in
    ap (λ o. signed o (decimal n)) (no-mark 45 (λ k low e. omega (arith, e)) n (omega (arith, high, fits))) ∙ ap (option_map (λ k. pos k)) (number-is n 0 1000064 fits (omega arith) high)
int-is (negsuc n) h =
    let fits : 1000064 < 2 ^ 64 = lit< tt in
    let high : suc n ≤ 1000064 = omega (arith, ints, h.low) in
    ap (λ o. signed o (45 ∷ decimal (suc n))) (some-behind (codes "-") _ (decimal (suc n)) refl) ∙ ap (option_map (λ k. neg_ℤ (pos k))) (number-is (suc n) 1 1000064 fits (omega arith) high)

value-is : (v : ℤ) → IsSmall 1000064 v → value_at (codes "value " ++ signed_decimal v) ≡ Some v
value-is v h = ap (λ o. then_at o int_at) (some-behind (codes "value ") _ (signed_decimal v) refl) ∙ int-is v h

value-plain : (v : ℤ) → IsSmall 1000064 v → IsPlain 8 (signed_decimal v)
value-plain (pos n) h = wider-plain 7 8 (decimal n) (omega arith) (decimal-plain n (omega (arith, ints, h.high)))
value-plain (negsuc n) h = signed-plain (suc n) (omega (arith, ints, h.low))

some-text : (x : List ℕ) → x ≢ [] → not_empty x ≡ Some x
some-text [] h = absurd (h refl)
some-text (b ∷ x) h = refl

move-is : (x : List ℕ) → x ≢ [] → move_at (codes "move " ++ x) ≡ Some x
move-is x some = ap (λ o. then_at o not_empty) (some-behind (codes "move ") _ x refl) ∙ some-text x some

-- ---- the head

head-is : (newest : ℕ) (a b c e f x : List ℕ) (rest : List Line) (v d : ℕ) (g : Parsed) (w : ℤ) → version_at newest a ≡ Some v → game_of b ≡ Ok g → depth_at c ≡ Some d → move_at e ≡ Some x → value_at f ≡ Some w →
    head_of newest (Text a ∷ (Text b ∷ (Text c ∷ (Text e ∷ (Text f ∷ rest))))) ≡ Ok (head_is v g d x w)
head-is newest a b c e f x rest v d g w one two three four five =
    let ls : List Line = Text a ∷ (Text b ∷ (Text c ∷ (Text e ∷ (Text f ∷ rest)))) in
    head-begins newest ls
    ∙ ap (λ o. and_then (or_bad 1 o) (λ v. after_version ls v)) one
    ∙ ap (λ o. and_then (or_bad_game o) (λ g. after_game ls v g)) two
    ∙ ap (λ o. and_then (or_bad 3 o) (λ d. after_depth ls v g d)) three
    ∙ ap (λ o. and_then (or_bad 4 o) (λ x. after_text ls v g d x)) four
    ∙ ap (λ o. and_then (or_bad 5 o) (λ w. Ok (head_is v g d x w))) five

five-parts : (a b c e f rest : List ℕ) → ((((a ++ b) ++ c) ++ e) ++ f) ++ rest ≡ a ++ (b ++ (c ++ (e ++ (f ++ rest))))
five-parts a b c e f rest =
    append_assoc (((a ++ b) ++ c) ++ e) f rest ∙ append_assoc ((a ++ b) ++ c) e (f ++ rest) ∙ append_assoc (a ++ b) c (e ++ (f ++ rest)) ∙ append_assoc a b (c ++ (e ++ (f ++ rest)))

five-lines : (a b c e f rest : List ℕ) → IsPlain 65536 a → IsPlain 65536 b → IsPlain 65536 c → IsPlain 65536 e → IsPlain 65536 f →
    lines (((((written_line a ++ written_line b) ++ written_line c) ++ written_line e) ++ written_line f) ++ rest) ≡ Text a ∷ (Text b ∷ (Text c ∷ (Text e ∷ (Text f ∷ lines rest))))
five-lines a b c e f rest ha hb hc he hf =
    ap lines (five-parts (written_line a) (written_line b) (written_line c) (written_line e) (written_line f) rest)
    ∙ lines-begin a _ ha
    ∙ ap (λ s. Text a ∷ s) (lines-begin b _ hb)
    ∙ ap (λ s. Text a ∷ (Text b ∷ s)) (lines-begin c _ hc)
    ∙ ap (λ s. Text a ∷ (Text b ∷ (Text c ∷ s))) (lines-begin e _ he)
    ∙ ap (λ s. Text a ∷ (Text b ∷ (Text c ∷ (Text e ∷ s)))) (lines-begin f rest hf)

word : (n : ℕ) (w field : List ℕ) → IsPlain 17 w → IsPlain n field → n ≤ 100 → IsPlain 65536 (w ++ field)
word n w field h k few = joined 17 n 65536 w field h k (omega (arith, few))

denotes-some : (t : GameType) (b : Stacks) (x : List ℕ) (m : Move) → Denotes t b x m → x ≢ []
denotes-some t b x m (inl (e, goes)) = λ none. cc
denotes-some t b x m (inr (inl d)) = let is = d.text_is in λ none. cc
denotes-some t b x m (inr (inr d)) = let is = d.text_is in λ none. cc

-- the text of the claimed move, which denotes it
abbrev pub move-text : GameType → List Move → Move → List ℕ
move-text t ms m = text (replay (opening t) ms).board m

pub legal-text : (t : GameType) (ms : List Move) (m : Move) → IsGame t ms → length ms ≤ 5000 → IsOn (moves (replay (opening t) ms)) m →
    Denotes (replay (opening t) ms).game_type (replay (opening t) ms).board (move-text t ms m) m
legal-text t ms m game few legal =
    let low : length ms ≤ 9000 = omega (arith, few) in
    let sound = games_sound t ms game low in
    legal_denotes (replay (opening t) ms) m sound.0 (moves_legal (replay (opening t) ms) sound.0.board m legal)

abbrev pub HeadLines : ℕ → GameType → List Move → ℕ → Move → ℤ → List Line → List Line
HeadLines n t ms d m v rest =
    Text (codes "hive-certificate " ++ decimal n) ∷ (Text (string t ms) ∷ (Text (codes "depth " ++ decimal d) ∷ (Text (codes "move " ++ move-text t ms m) ∷ (Text (codes "value " ++ signed_decimal v) ∷ rest))))

-- the lines of the head of a version, and the lines after it
pub head-lines : (n : ℕ) (t : GameType) (ms : List Move) (d : ℕ) (m : Move) (v : ℤ) (rest : List ℕ) → n ≤ 2 → MayClaim t ms d m v → lines (head_text n t ms d m v ++ rest) ≡ HeadLines n t ms d m v (lines rest)
unfolding head_text
head-lines n t ms d m v rest known may =
    let few = may.few in
    let deep = may.deep in
    let p : Position = replay (opening t) ms in
    five-lines (codes "hive-certificate " ++ decimal n) (string t ms) (codes "depth " ++ decimal d) (codes "move " ++ move-text t ms m) (codes "value " ++ signed_decimal v) rest
    (word 7 (codes "hive-certificate ") (decimal n) (record { plain = refl; short = omega arith }) (decimal-plain n (omega (arith, known))) (omega arith))
    (string-plain t ms may.game few)
    (word 7 (codes "depth ") (decimal d) (record { plain = refl; short = omega arith }) (decimal-plain d (omega (arith, deep))) (omega arith))
    (word 8 (codes "move ") (move-text t ms m) (record { plain = refl; short = omega arith }) (denotes-plain p.game_type p.board (move-text t ms m) m (legal-text t ms m may.game few may.legal)) (omega arith))
    (word 8 (codes "value ") (signed_decimal v) (record { plain = refl; short = omega arith }) (value-plain v may.small) (omega arith))

-- so the head of a version that is known is read
pub head-read : (newest n : ℕ) (t : GameType) (ms : List Move) (d : ℕ) (m : Move) (v : ℤ) (rest : List ℕ) → 1 ≤ n → n ≤ newest → newest ≤ 2 → MayClaim t ms d m v →
    head_of newest (lines (head_text n t ms d m v ++ rest)) ≡ Ok (head_is n (record { game_type = t; moves = ms }) d (move-text t ms m) v)
head-read newest n t ms d m v rest some known few may =
    let p : Position = replay (opening t) ms in
    ap (head_of newest) (head-lines n t ms d m v rest (omega (arith, known, few)) may)
    ∙ head-is newest (codes "hive-certificate " ++ decimal n) (string t ms) (codes "depth " ++ decimal d) (codes "move " ++ move-text t ms m) (codes "value " ++ signed_decimal v) (move-text t ms m)
    (lines rest) n d (record { game_type = t; moves = ms }) v
    (version-is newest n some known few) (game_again (string t ms) t ms (strings t ms may.game may.few)) (depth-is d may.some may.deep)
    (move-is (move-text t ms m) (denotes-some p.game_type p.board (move-text t ms m) m (legal-text t ms m may.game may.few may.legal))) (value-is v may.small)

certificate-is : (t : GameType) (ms : List Move) (d : ℕ) (m : Move) (v : ℤ) → certificate t ms d m v ≡ head_text 1 t ms d m v ++ index_lines (least_indices (replay (opening t) ms) d m v)
unfolding certificate
certificate-is t ms d m v = refl

pub heads : HeadsAreRead
heads t ms d m v may =
    ap (λ x. head_of 1 (lines x)) (certificate-is t ms d m v)
    ∙ head-read 1 1 t ms d m v (index_lines (least_indices (replay (opening t) ms) d m v)) (omega arith) (omega arith) (omega arith) may

pub indices : IndicesAreRead
indices t ms d m v may =
    let p : Position = replay (opening t) ms in
    let few = may.few in
    let deep = may.deep in
    let low : length ms ≤ 9000 = omega (arith, few) in
    let room : length ms + 1 + (d - 1) ≤ 9000 = omega (arith, few, deep) in
    let sound = games_sound t ms may.game low in
    ap (λ x. map index_in (drop 5 (lines x))) (certificate-is t ms d m v)
    ∙ ap (λ ls. map index_in (drop 5 ls)) (head-lines 1 t ms d m v (index_lines (least_indices p d m v)) (omega arith) may)
    ∙ indices-read (least_indices p d m v) (indices-low p d (length ms) m v sound.0 sound.1 room may.legal)
