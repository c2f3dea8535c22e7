-- The string of a game is a line that is this game and no other.
use Rattle.std.proofs.Common.{◌≡◌, false, ℕ, ◌≤◌, ◌<◌, ◌^◌, List, [], ◌∷◌, length, Result, Ok, refl, sym, ◌∙◌, ap, subst, arith, lit<, ◌+◌, inl, inr}
use Rattle.std.specs.Prelude.{Some}
use Rattle.hive_model.specs.declared.pieces.GameType.{GameType}
use Rattle.hive_model.specs.declared.places.Move.{Move}
use Rattle.hive_model.specs.Boards.{Stacks}
use Rattle.hive_model.specs.Games.{after, replay}
use Rattle.hive_model.specs.Legal.{state}
use Rattle.hive_model.specs.Positions.{Position, opening}
use Rattle.move_text.specs.declared.faults.MoveFault.{MoveFault}
use Rattle.hive_model.specs.declared.forms.Form.TheVariants.{Alone, Beside}
use Rattle.hive_model.specs.Denotes.{Denotes, text}
use Rattle.hive_model.specs.Fields.{type_bytes, state_bytes}
use Rattle.move_text.proofs.FieldLaws.{type_only}
use Rattle.move_text.proofs.MoveLaws.{of_denotes}
use Rattle.hive_model.specs.Strings.{parts, turn_bytes, texts, string, string_under, DenoteMoves, IsFullWith, IsGameLine, IsGameLineUnder}
use Rattle.hive_model.specs.declared.places.State.{State}
use Rattle.hive_model.specs.Repetition.{outcome_under}
use Rattle.hive_model.proofs.StandLaws.{all_stand}
use Rattle.hive_model.specs.Boards.{StandsWithin}
use Rattle.hive_model.specs.Games.{AreLegal}
use Rattle.hive_model.specs.Positions.{IsSound}
use Rattle.hive_model.proofs.MoveLaws.{moves_legal}
use Rattle.move_text.proofs.LegalSpell.{legal_denotes}
use Rattle.rule_laws.proofs.Games.{listed_keep, games_count}
use Rattle.rule_laws.proofs.Openings.{openings}
use Rattle.game_text.specs.Laws.{StringsAreGames, StringsAreGamesUnder, IsOneGame, IsOneGameUnder}
use Rattle.game_text.proofs.PartLaws.{IsPart, AreParts, parts-joined, type_part, state_part, turn_part, form_part}

-- a text that denotes a move has no semicolon
denotes_part : (t : GameType) (b : Stacks) (x : List ℕ) (m : Move) → Denotes t b x m → IsPart x
denotes_part t b x m (inl (e, goes)) = subst IsPart (sym e) refl
denotes_part t b x m (inr (inl d)) = subst IsPart (sym d.text_is) (form_part (Alone d.piece) d.is_piece)
denotes_part t b x m (inr (inr d)) = subst IsPart (sym d.text_is) (form_part (Beside d.piece d.mark d.reference) (d.is_piece, d.is_reference))

-- in each position of the game the written text of its move denotes that move
abbrev pub Spell : Position → List Move → Type 0
Spell p [] = Unit {0}
Spell p (m ∷ ms) = Denotes p.game_type p.board (text p.board m) m × Spell (after p m) ms

spells : (p : Position) (ms : List Move) (n : ℕ) → IsSound p → StandsWithin n p.board → n + length ms ≤ 9000 → AreLegal p ms → Spell p ms
spells p [] n sound within low legal = tt
spells p (m ∷ ms) n sound within low legal =
    let less : n < 9000 = omega (arith, low) in
    let next = listed_keep p n m sound within less legal.0 in
    let rest : n + 1 + length ms ≤ 9000 = omega (arith, low) in
    (legal_denotes p m sound (moves_legal p sound.board m legal.0), spells (after p m) ms (n + 1) next.0 next.1 rest legal.1)

texts_parts : (p : Position) (ms : List Move) → Spell p ms → AreParts (texts p ms)
texts_parts p [] h = tt
texts_parts p (m ∷ ms) h = (denotes_part p.game_type p.board (text p.board m) m h.0, texts_parts (after p m) ms h.1)

texts_denote : (p : Position) (ms : List Move) → Spell p ms → DenoteMoves p (texts p ms) ms
texts_denote p [] h = tt
texts_denote p (m ∷ ms) h = (h.0, texts_denote (after p m) ms h.1)

pub strings_under : StringsAreGamesUnder
unfolding string_under
strings_under r t ms legal stands few =
    let start = openings t in
    let low : 0 + length ms ≤ 9000 = omega (arith, few) in
    let spell = spells (opening t) ms 0 start.0 start.1 low legal in
    let turn = (games_count t ms).turn in
    let large : 5000 < 2 ^ 64 = lit< tt in
    let small : (replay (opening t) ms).turn < 2 ^ 64 = omega (arith, turn, few, large) in
    inr (
      record {
        rest = texts (opening t) ms;
        parts_are = parts-joined (type_bytes t) (state_bytes (outcome_under r t ms) ∷ (turn_bytes (replay (opening t) ms).side (replay (opening t) ms).turn ∷ texts (opening t) ms))
            (type_part t) (state_part (outcome_under r t ms), (turn_part (replay (opening t) ms).side (replay (opening t) ms).turn small, texts_parts (opening t) ms spell));
        denote = texts_denote (opening t) ms spell;
        legal = legal;
        few = few;
      },
      stands,
    )

pub string_off : (t : GameType) (ms : List Move) → string_under false t ms ≡ string t ms
unfolding string string_under
string_off t ms = refl

pub strings : StringsAreGames
strings t ms legal few = subst (λ (z : List ℕ). IsGameLine z t ms) (string_off t ms) (plain (strings_under false t ms legal (all_stand t ms legal) few))
  where
    plain : IsGameLineUnder false (string_under false t ms) t ms → IsGameLine (string_under false t ms) t ms
    plain (inl h) = inl h
    plain (inr h) = inr h.0

-- A text denotes one move

one_move : (t : GameType) (b : Stacks) (x : List ℕ) (m n : Move) → Denotes t b x m → Denotes t b x n → m ≡ n
one_move t b x m n h k = let e = of_denotes t b x m h in let f = of_denotes t b x n k in let same : ◌≡◌ {A = Result Move MoveFault} (Ok m) (Ok n) = sym e ∙ f in cc

same_moves : (p : Position) (xs : List (List ℕ)) (ms ns : List Move) → DenoteMoves p xs ms → DenoteMoves p xs ns → ms ≡ ns
same_moves p [] [] [] h k = refl
same_moves p [] [] (n ∷ ns) h k = absurd k
same_moves p [] (m ∷ ms) ns h k = absurd h
same_moves p (x ∷ xs) [] ns h k = absurd h
same_moves p (x ∷ xs) (m ∷ ms) [] h k = absurd k
same_moves p (x ∷ xs) (m ∷ ms) (n ∷ ns) h k =
    let one = one_move p.game_type p.board x m n h.0 k.0 in
    let rest = same_moves (after p m) xs ms ns h.1 (subst (λ z. DenoteMoves (after p z) xs ns) (sym one) k.1) in
    λ i. one i ∷ rest i

same_type : (t u : GameType) → type_bytes t ≡ type_bytes u → t ≡ u
same_type t u e = let f = type_only (type_bytes t) t refl in let g = type_only (type_bytes t) u e in let same : Some t ≡ Some u = sym f ∙ g in cc

alone_not_full : (line : List ℕ) (t u : GameType) (s : State) (ns : List Move) → line ≡ type_bytes t → IsFullWith line s u ns → ⊥
alone_not_full line t u s ns e f =
    let one : parts line ≡ type_bytes t ∷ [] = ap parts e ∙ parts-joined (type_bytes t) [] (type_part t) tt in
    let two = sym one ∙ f.parts_are in
    cc

both_full : (line : List ℕ) (t u : GameType) (a b : State) (ms ns : List Move) → IsFullWith line a t ms → IsFullWith line b u ns → (t ≡ u) × (ms ≡ ns)
both_full line t u a b ms ns h k =
    let both = sym h.parts_are ∙ k.parts_are in
    let heads : type_bytes t ≡ type_bytes u = cc in
    let tails : h.rest ≡ k.rest = cc in
    let kind = same_type t u heads in
    (kind, same_moves (opening t) h.rest ms ns h.denote (subst (λ z. DenoteMoves (opening z) h.rest ns) (sym kind) (subst (λ xs. DenoteMoves (opening u) xs ns) (sym tails) k.denote)))

pub one : IsOneGame
one line t u ms ns (inl h) (inl k) = (same_type t u (sym h.0 ∙ k.0), h.1 ∙ sym k.1)
one line t u ms ns (inl h) (inr k) = absurd (alone_not_full line t u (state (replay (opening u) ns)) ns h.0 k)
one line t u ms ns (inr h) (inl k) = absurd (alone_not_full line u t (state (replay (opening t) ms)) ms k.0 h)
one line t u ms ns (inr h) (inr k) = both_full line t u (state (replay (opening t) ms)) (state (replay (opening u) ns)) ms ns h k

pub one_under : IsOneGameUnder
one_under r line t u ms ns (inl h) (inl k) = (same_type t u (sym h.0 ∙ k.0), h.1 ∙ sym k.1)
one_under r line t u ms ns (inl h) (inr k) = absurd (alone_not_full line t u (outcome_under r u ns) ns h.0 k.0)
one_under r line t u ms ns (inr h) (inl k) = absurd (alone_not_full line u t (outcome_under r t ms) ms k.0 h.0)
one_under r line t u ms ns (inr h) (inr k) = both_full line t u (outcome_under r t ms) (outcome_under r u ns) ms ns h.0 k.0
