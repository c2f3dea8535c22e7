-- What a head keeps, and that a later version reads the heads of an earlier one.
use Rattle.std.proofs.Common.{◌≡◌, ◌⊎◌, ℕ, zero, suc, ◌≤◌, List, [], ◌∷◌, drop, length, refl, sym, ap, ◌∙◌, subst, arith, Option, Some, None, inl, inr}
use Rattle.std.specs.Prelude.{codes, Result, Ok, Err}
use Rattle.hive_model.specs.Positions.{opening}
use Rattle.hive_model.specs.Games.{IsGame, replay}
use Rattle.io_edge.specs.Lines.{Line, Text, TooLong}
use Rattle.rule_laws.proofs.Games.{games_sound}
use Rattle.strategy_lemmas.specs.Cited.{IsReached}
use Rattle.certificate_verdicts.proofs.AskedLaws.{line-game}
use Rattle.move_text.specs.Readers.{number_at}
use Rattle.move_text.proofs.NumberLaws.{number_found, number_again}
use Rattle.game_text.specs.declared.faults.GameFault.{GameFault}
use Rattle.game_text.specs.declared.parsed.Parsed.{Parsed}
use Rattle.game_text.specs.Reading.{game_of}
use Rattle.game_text.specs.Turns.{behind_word}
use Rattle.game_text.proofs.LineLaws.{game_found}
use Rattle.certificate_text.specs.declared.head.Head.{Head}
use Rattle.certificate_text.specs.Text.{HeadRead, and_then, depth_at, field_in, game_in, head_of, move_at, or_bad, or_bad_game, then_at, value_at, version_at}
use Rattle.certificate_text.proofs.TextLaws.{after_depth, after_game, after_text, after_version, head-begins, head_is}

-- a line of a head has its field, and the head is made of it
record HasField {A : Type 0} (at : List ℕ → Option A) (next : A → HeadRead) (head : Head) : Type 0 where
  field : A
  line : List ℕ
  found : at line ≡ Some field
  goes_on : next field ≡ Ok head

has-field : {A : Type 0} (n : ℕ) (at : List ℕ → Option A) (lines : List Line) (next : A → HeadRead) (head : Head) → and_then (field_in n at lines) next ≡ Ok head → HasField at next head
has-field n at [] next head e = cc
has-field n at (TooLong ∷ rest) next head e = cc
has-field {A} n at (Text line ∷ rest) next head e = go (at line) refl e
  where
    go : (o : Option A) → at line ≡ o → and_then (or_bad n o) next ≡ Ok head → HasField at next head
    go None is h = cc
    go (Some a) is h = record { field = a; line = line; found = is; goes_on = h }

-- the same for the line of the game
record HasGame (next : Parsed → HeadRead) (head : Head) : Type 0 where
  game : Parsed
  line : List ℕ
  found : game_of line ≡ Ok game
  goes_on : next game ≡ Ok head

has-game : (lines : List Line) (next : Parsed → HeadRead) (head : Head) → and_then (game_in lines) next ≡ Ok head → HasGame next head
has-game [] next head e = cc
has-game (TooLong ∷ rest) next head e = cc
has-game (Text line ∷ rest) next head e = go (game_of line) refl e
  where
    go : (r : Result Parsed GameFault) → game_of line ≡ r → and_then (or_bad_game r) next ≡ Ok head → HasGame next head
    go (Err fault) is h = cc
    go (Ok g) is h = record { game = g; line = line; found = is; goes_on = h }

depth-is : (line : List ℕ) (d : ℕ) → depth_at line ≡ Some d → (1 ≤ d) × (d ≤ 64)
depth-is line d e = go (behind_word (codes "depth ") line) e
  where
    go : (o : Option (List ℕ)) → then_at o (λ t. number_at t 1 64) ≡ Some d → (1 ≤ d) × (d ≤ 64)
    go None h = cc
    go (Some t) h = ((number_found t 1 64 d h).low, (number_found t 1 64 d h).high)

-- what every head keeps
pub record Keeps (head : Head) : Type 0 where
  pub game : IsGame head.game_type head.moves
  pub few : length head.moves ≤ 5000
  pub some : 1 ≤ head.depth
  pub deep : head.depth ≤ 64

pub head-keeps : (newest : ℕ) (lines : List Line) (head : Head) → head_of newest lines ≡ Ok head → Keeps head
head-keeps newest lines head e =
    let one = has-field 1 (version_at newest) lines (λ v. after_version lines v) head (sym (head-begins newest lines) ∙ e) in
    let two = has-game (drop 1 lines) (λ g. after_game lines one.field g) head one.goes_on in
    let three = has-field 3 depth_at (drop 2 lines) (λ d. after_depth lines one.field two.game d) head two.goes_on in
    let four = has-field 4 move_at (drop 3 lines) (λ t. after_text lines one.field two.game three.field t) head three.goes_on in
    let five = has-field 5 value_at (drop 4 lines) (λ x. Ok (head_is one.field two.game three.field four.field x)) head four.goes_on in
    let whole = five.goes_on in
    let same : head_is one.field two.game three.field four.field five.field ≡ head = cc in
    let game = line-game two.line two.game.game_type two.game.moves (game_found two.line two.game two.found) in
    let depth = depth-is three.line three.field three.found in
    subst Keeps same (record { game = game.0; few = game.1; some = depth.0; deep = depth.1 })

-- a position at the end of a game is reached
pub end-reached : (head : Head) → Keeps head → IsReached (replay (opening head.game_type) head.moves) head.depth
end-reached head keeps =
    let few = keeps.few in
    let deep = keeps.deep in
    let sound = games_sound head.game_type head.moves keeps.game (omega (arith, few)) in
    record { sound = sound.0; plies = length head.moves; within = sound.1; few = omega (arith, few, deep) }

-- ---- a later version reads the heads of an earlier one

version-later : (line : List ℕ) (v : ℕ) → version_at 1 line ≡ Some v → version_at 2 line ≡ Some v
version-later line v e = go (behind_word (codes "hive-certificate ") line) e
  where
    go : (o : Option (List ℕ)) → then_at o (λ t. number_at t 1 1) ≡ Some v → then_at o (λ t. number_at t 1 2) ≡ Some v
    go None h = cc
    go (Some t) h =
        let found = number_found t 1 1 v h in
        let high = found.high in
        number_again t 1 2 v (omega arith) (record { digits = found.digits; low = found.low; high = omega (arith, high) })

pub head-later : (lines : List Line) (head : Head) → head_of 1 lines ≡ Ok head → head_of 2 lines ≡ Ok head
head-later lines head e = head-begins 2 lines ∙ go lines (after_version lines) (sym (head-begins 1 lines) ∙ e)
  where
    go : (ls : List Line) (next : ℕ → HeadRead) → and_then (field_in 1 (version_at 1) ls) next ≡ Ok head → and_then (field_in 1 (version_at 2) ls) next ≡ Ok head
    go [] next h = cc
    go (TooLong ∷ rest) next h = cc
    go (Text line ∷ rest) next h = by (version_at 1 line) refl h
      where
        by : (o : Option ℕ) → version_at 1 line ≡ o → and_then (or_bad 1 o) next ≡ Ok head → and_then (or_bad 1 (version_at 2 line)) next ≡ Ok head
        by None is k = cc
        by (Some v) is k = ap (λ (o : Option ℕ). and_then (or_bad 1 o) next) (version-later line v is) ∙ k

-- ---- the first version reads its own heads

version-first : (line : List ℕ) (v : ℕ) → version_at 2 line ≡ Some v → v ≡ 1 → version_at 1 line ≡ Some v
version-first line v e one = go (behind_word (codes "hive-certificate ") line) e
  where
    go : (o : Option (List ℕ)) → then_at o (λ t. number_at t 1 2) ≡ Some v → then_at o (λ t. number_at t 1 1) ≡ Some v
    go None h = cc
    go (Some t) h =
        let found = number_found t 1 2 v h in
        number_again t 1 1 v (omega arith) (record { digits = found.digits; low = found.low; high = omega (arith, one) })

-- the version of a head is that of its first line
head-version : (lines : List Line) (v : ℕ) (head : Head) → after_version lines v ≡ Ok head → v ≡ head.version
head-version lines v head e =
    let two = has-game (drop 1 lines) (λ g. after_game lines v g) head e in
    let three = has-field 3 depth_at (drop 2 lines) (λ d. after_depth lines v two.game d) head two.goes_on in
    let four = has-field 4 move_at (drop 3 lines) (λ t. after_text lines v two.game three.field t) head three.goes_on in
    let five = has-field 5 value_at (drop 4 lines) (λ x. Ok (head_is v two.game three.field four.field x)) head four.goes_on in
    let whole = five.goes_on in
    let same : head_is v two.game three.field four.field five.field ≡ head = cc in
    ap (λ (h : Head). h.version) same

pub head-first : (lines : List Line) (head : Head) → head_of 2 lines ≡ Ok head → head.version ≡ 1 → head_of 1 lines ≡ Ok head
head-first lines head e first = head-begins 1 lines ∙ go lines (after_version lines) (λ v k. head-version lines v head k ∙ first) (sym (head-begins 2 lines) ∙ e)
  where
    go : (ls : List Line) (next : ℕ → HeadRead) → ((v : ℕ) → next v ≡ Ok head → v ≡ 1) → and_then (field_in 1 (version_at 2) ls) next ≡ Ok head → and_then (field_in 1 (version_at 1) ls) next ≡ Ok head
    go [] next one h = cc
    go (TooLong ∷ rest) next one h = cc
    go (Text line ∷ rest) next one h = by (version_at 2 line) refl h
      where
        by : (o : Option ℕ) → version_at 2 line ≡ o → and_then (or_bad 1 o) next ≡ Ok head → and_then (or_bad 1 (version_at 1 line)) next ≡ Ok head
        by None is k = cc
        by (Some v) is k = ap (λ (o : Option ℕ). and_then (or_bad 1 o) next) (version-first line v is (one v k)) ∙ k

-- ---- the version of a head is the first or the second

one-or-two : (v : ℕ) → 1 ≤ v → v ≤ 2 → (v ≡ 1) ⊎ (v ≡ 2)
one-or-two zero low high = absurd (omega (arith, low))
one-or-two (suc zero) low high = inl refl
one-or-two (suc (suc zero)) low high = inr refl
one-or-two (suc (suc (suc v))) low high = absurd (omega (arith, high))

either-word : (line : List ℕ) (v : ℕ) → version_at 2 line ≡ Some v → (v ≡ 1) ⊎ (v ≡ 2)
either-word line v e = go (behind_word (codes "hive-certificate ") line) e
  where
    go : (o : Option (List ℕ)) → then_at o (λ t. number_at t 1 2) ≡ Some v → (v ≡ 1) ⊎ (v ≡ 2)
    go None h = cc
    go (Some t) h = let found = number_found t 1 2 v h in one-or-two v found.low found.high

pub either-version : (lines : List Line) (head : Head) → head_of 2 lines ≡ Ok head → (head.version ≡ 1) ⊎ (head.version ≡ 2)
either-version lines head e =
    let one = has-field 1 (version_at 2) lines (λ v. after_version lines v) head (sym (head-begins 2 lines) ∙ e) in
    subst (λ n. (n ≡ 1) ⊎ (n ≡ 2)) (head-version lines one.field head one.goes_on) (either-word one.line one.field one.found)
