-- The texts of a certificate have no byte below a space, and are short.
use Rattle.std.proofs.Common.{◌≡◌, ℕ, suc, ◌+◌, ◌*◌, ◌%◌, ◌^◌, ◌≤◌, ◌<◌, Bool, true, false, List, [], ◌∷◌, ◌++◌, length, length-append, refl, sym, ◌∙◌, ap, subst, arith, inl, inr, lit<}
use Rattle.std.specs.Prelude.{nat_le, ◌&&◌, codes, decimal}
use Rattle.std.specs.List.{list_all}
use Rattle.std.proofs.lemmas.Bool.{leb-true, le-leb}
use Rattle.std.proofs.lemmas.Fmt.{decimal_by_steps, length-decimal-le}
use Rattle.hive_model.specs.declared.pieces.Colour.{Colour}
use Rattle.hive_model.specs.declared.pieces.Colour.TheVariants.{White, Black}
use Rattle.hive_model.specs.declared.pieces.GameType.{GameType}
use Rattle.hive_model.specs.declared.places.Move.{Move}
use Rattle.hive_model.specs.declared.places.State.{State}
use Rattle.hive_model.specs.declared.places.State.TheVariants.{NotStarted, InProgress, Draw, WhiteWins, BlackWins}
use Rattle.hive_model.specs.Boards.{Stacks, StandsWithin}
use Rattle.hive_model.specs.Positions.{Position, IsSound, opening}
use Rattle.hive_model.specs.Legal.{state}
use Rattle.hive_model.specs.Games.{after, replay, AreLegal, IsGame}
use Rattle.hive_model.specs.Pieces.{all_pieces}
use Rattle.hive_model.specs.Denotes.{Denotes, text}
use Rattle.hive_model.specs.declared.forms.Stroke.{Stroke}
use Rattle.hive_model.specs.declared.forms.Stroke.TheVariants.{Dash, Slash, Backslash}
use Rattle.hive_model.specs.declared.forms.Mark.{Mark}
use Rattle.hive_model.specs.declared.forms.Mark.TheVariants.{On, Before, After}
use Rattle.hive_model.specs.declared.forms.Form.{Form}
use Rattle.hive_model.specs.declared.forms.Form.TheVariants.{Passes, Alone, Beside}
use Rattle.hive_model.specs.Texts.{piece_text, stroke_code, destination, form_text, IsForm}
use Rattle.hive_model.specs.Fields.{added, type_bytes, state_bytes}
use Rattle.hive_model.specs.Strings.{joined_on, turn_bytes, texts, string}
use Rattle.hive_model.proofs.RuleLaws.{all_at}
use Rattle.hive_model.proofs.PieceLaws.{on_pieces}
use Rattle.hive_model.proofs.MoveLaws.{moves_legal}
use Rattle.move_text.proofs.LegalSpell.{legal_denotes}
use Rattle.rule_laws.proofs.Games.{listed_keep, games_count}
use Rattle.rule_laws.proofs.Openings.{openings}

-- no byte is below a space
abbrev pub is_plain : List ℕ → Bool
is_plain [] = true
is_plain (b ∷ bs) = nat_le 32 b && is_plain bs

-- and there are at most this number of bytes
pub record IsPlain (most : ℕ) (bs : List ℕ) : Type 0 where
  pub plain : is_plain bs ≡ true
  pub short : length bs ≤ most

pub plain-cons : (b : ℕ) (bs : List ℕ) → is_plain (b ∷ bs) ≡ true → (32 ≤ b) × (is_plain bs ≡ true)
plain-cons b bs h = go (nat_le 32 b) refl h
  where
    go : (t : Bool) → nat_le 32 b ≡ t → (t && is_plain bs) ≡ true → (32 ≤ b) × (is_plain bs ≡ true)
    go true e k = (leb-true 32 b e, k)
    go false e k = absurd (cc)

plain-front : (b : ℕ) (bs : List ℕ) → 32 ≤ b → is_plain bs ≡ true → is_plain (b ∷ bs) ≡ true
plain-front b bs low h = ap (λ t. t && is_plain bs) (le-leb 32 b low) ∙ h

plain-append : (xs ys : List ℕ) → is_plain xs ≡ true → is_plain ys ≡ true → is_plain (xs ++ ys) ≡ true
plain-append [] ys h k = k
plain-append (x ∷ xs) ys h k = let s = plain-cons x xs h in plain-front x (xs ++ ys) s.0 (plain-append xs ys s.1 k)

pub joined : (m n k : ℕ) (xs ys : List ℕ) → IsPlain m xs → IsPlain n ys → m + n ≤ k → IsPlain k (xs ++ ys)
joined m n k xs ys h j fits = record { plain = plain-append xs ys h.plain j.plain; short = omega (arith, length-append xs ys, h.short, j.short, fits) }

pub wider-plain : (m n : ℕ) (xs : List ℕ) → m ≤ n → IsPlain m xs → IsPlain n xs
wider-plain m n xs more h = record { plain = h.plain; short = omega (arith, h.short, more) }

-- ---- the fields

type-plain : (t : GameType) → IsPlain 8 (type_bytes t)
type-plain t = go t.mosquito t.ladybug t.pillbug
  where
    go : (m l p : Bool) → IsPlain 8 (codes "Base" ++ added m l p)
    go false false false = record { plain = refl; short = omega arith }
    go true false false = record { plain = refl; short = omega arith }
    go false true false = record { plain = refl; short = omega arith }
    go false false true = record { plain = refl; short = omega arith }
    go true true false = record { plain = refl; short = omega arith }
    go true false true = record { plain = refl; short = omega arith }
    go false true true = record { plain = refl; short = omega arith }
    go true true true = record { plain = refl; short = omega arith }

state-plain : (s : State) → IsPlain 10 (state_bytes s)
state-plain NotStarted = record { plain = refl; short = omega arith }
state-plain InProgress = record { plain = refl; short = omega arith }
state-plain Draw = record { plain = refl; short = omega arith }
state-plain WhiteWins = record { plain = refl; short = omega arith }
state-plain BlackWins = record { plain = refl; short = omega arith }

digits-plain : (n : ℕ) → n < 2 ^ 64 → is_plain (decimal n) ≡ true
digits-plain n h = decimal_by_steps (λ _ ds. is_plain ds ≡ true) (λ n low. plain-front (48 + n) [] (omega arith) refl)
    (λ n ds low front. plain-append ds ((48 + n % 10) ∷ []) front (plain-front (48 + n % 10) [] (omega arith) refl)) n h

pub decimal-plain : (n : ℕ) → n < 10000000 → IsPlain 7 (decimal n)
decimal-plain n h =
    let small : 10000000 < 2 ^ 64 = lit< tt in
    let fits : n < 2 ^ 64 = omega (arith, h, small) in
    record { plain = digits-plain n fits; short = length-decimal-le 7 n (omega arith) h fits }

pub signed-plain : (n : ℕ) → n < 10000000 → IsPlain 8 (45 ∷ decimal n)
signed-plain n h = joined 1 7 8 (45 ∷ []) (decimal n) (record { plain = refl; short = omega arith }) (decimal-plain n h) (omega arith)

turn-plain : (c : Colour) (n : ℕ) → n < 10000000 → IsPlain 14 (turn_bytes c n)
turn-plain White n h = joined 6 8 14 (codes "White[") (decimal n ++ 93 ∷ []) (record { plain = refl; short = omega arith })
    (joined 7 1 8 (decimal n) (93 ∷ []) (decimal-plain n h) (record { plain = refl; short = omega arith }) (omega arith)) (omega arith)
turn-plain Black n h = joined 6 8 14 (codes "Black[") (decimal n ++ 93 ∷ []) (record { plain = refl; short = omega arith })
    (joined 7 1 8 (decimal n) (93 ∷ []) (decimal-plain n h) (record { plain = refl; short = omega arith }) (omega arith)) (omega arith)

-- ---- moves

all-named : list_all (λ x. is_plain (piece_text x) && nat_le (length (piece_text x)) 3) all_pieces ≡ true
all-named = refl

piece-plain : (x : ℕ) → x < 28 → IsPlain 3 (piece_text x)
piece-plain x h = go (is_plain (piece_text x)) (nat_le (length (piece_text x)) 3) refl refl (all_at (λ x. is_plain (piece_text x) && nat_le (length (piece_text x)) 3) all_pieces x all-named (on_pieces x h))
  where
    go : (t u : Bool) → is_plain (piece_text x) ≡ t → nat_le (length (piece_text x)) 3 ≡ u → (t && u) ≡ true → IsPlain 3 (piece_text x)
    go true true e f k = record { plain = e; short = leb-true _ _ f }
    go true false e f k = absurd (cc)
    go false u e f k = absurd (cc)

stroke-plain : (s : Stroke) → IsPlain 1 (stroke_code s ∷ [])
stroke-plain Dash = record { plain = refl; short = omega arith }
stroke-plain Slash = record { plain = refl; short = omega arith }
stroke-plain Backslash = record { plain = refl; short = omega arith }

destination-plain : (m : Mark) (name : List ℕ) → IsPlain 3 name → IsPlain 4 (destination m name)
destination-plain On name h = wider-plain 3 4 name (omega arith) h
destination-plain (Before s) name h = joined 1 3 4 (stroke_code s ∷ []) name (stroke-plain s) h (omega arith)
destination-plain (After s) name h = joined 3 1 4 name (stroke_code s ∷ []) h (stroke-plain s) (omega arith)

form-plain : (f : Form) → IsForm f → IsPlain 8 (form_text f)
form-plain Passes is = record { plain = refl; short = omega arith }
form-plain (Alone x) is = wider-plain 3 8 (piece_text x) (omega arith) (piece-plain x is)
form-plain (Beside x mark y) is = joined 3 5 8 (piece_text x) (32 ∷ destination mark (piece_text y)) (piece-plain x is.0)
    (joined 1 4 5 (32 ∷ []) (destination mark (piece_text y)) (record { plain = refl; short = omega arith }) (destination-plain mark (piece_text y) (piece-plain y is.1)) (omega arith)) (omega arith)

pub denotes-plain : (t : GameType) (b : Stacks) (x : List ℕ) (m : Move) → Denotes t b x m → IsPlain 8 x
denotes-plain t b x m (inl (e, goes)) = subst (IsPlain 8) (sym e) (record { plain = refl; short = omega arith })
denotes-plain t b x m (inr (inl d)) = subst (IsPlain 8) (sym d.text_is) (form-plain (Alone d.piece) d.is_piece)
denotes-plain t b x m (inr (inr d)) = subst (IsPlain 8) (sym d.text_is) (form-plain (Beside d.piece d.mark d.reference) (d.is_piece, d.is_reference))

-- ---- the string of a game

texts-plain : (p : Position) (ms : List Move) (n most : ℕ) (front : List ℕ) → IsSound p → StandsWithin n p.board → n + length ms ≤ 9000 → AreLegal p ms → IsPlain most front →
    IsPlain (most + 9 * length ms) (joined_on front (texts p ms))
texts-plain p [] n most front sound within low legal h = wider-plain most (most + 0) front (omega arith) h
texts-plain p (m ∷ ms) n most front sound within low legal h =
    let less : n < 9000 = omega (arith, low) in
    let next = listed_keep p n m sound within less legal.0 in
    let rest : n + 1 + length ms ≤ 9000 = omega (arith, low) in
    let here = denotes-plain p.game_type p.board (text p.board m) m (legal_denotes p m sound (moves_legal p sound.board m legal.0)) in
    let later = texts-plain (after p m) ms (n + 1) 8 (text p.board m) next.0 next.1 rest legal.1 here in
    joined most (1 + (8 + 9 * length ms)) (most + 9 * suc (length ms)) front (59 ∷ joined_on (text p.board m) (texts (after p m) ms)) h
    (joined 1 (8 + 9 * length ms) (1 + (8 + 9 * length ms)) (59 ∷ []) (joined_on (text p.board m) (texts (after p m) ms)) (record { plain = refl; short = omega arith }) later (omega arith)) (omega arith)

pub string-plain : (t : GameType) (ms : List Move) → IsGame t ms → length ms ≤ 5000 → IsPlain 65536 (string t ms)
unfolding string
string-plain t ms legal few =
    let start = openings t in
    let low : 0 + length ms ≤ 9000 = omega (arith, few) in
    let end : Position = replay (opening t) ms in
    let turn = (games_count t ms).turn in
    let small : end.turn < 10000000 = omega (arith, turn, few) in
    let n = length ms in
    let last = texts-plain (opening t) ms 0 14 (turn_bytes end.side end.turn) start.0 start.1 low legal (turn-plain end.side end.turn small) in
    let semi : IsPlain 1 (59 ∷ []) = record { plain = refl; short = omega arith } in
    let third = joined 1 (14 + 9 * n) (15 + 9 * n) (59 ∷ []) (joined_on (turn_bytes end.side end.turn) (texts (opening t) ms)) semi last (omega arith) in
    let second = joined 10 (15 + 9 * n) (25 + 9 * n) (state_bytes (state end)) (59 ∷ joined_on (turn_bytes end.side end.turn) (texts (opening t) ms)) (state-plain (state end)) third (omega arith) in
    let first = joined 1 (25 + 9 * n) (26 + 9 * n) (59 ∷ []) (state_bytes (state end) ++ 59 ∷ joined_on (turn_bytes end.side end.turn) (texts (opening t) ms)) semi second (omega arith) in
    joined 8 (26 + 9 * n) 65536 (type_bytes t) (59 ∷ (state_bytes (state end) ++ 59 ∷ joined_on (turn_bytes end.side end.turn) (texts (opening t) ms))) (type-plain t) first (omega (arith, few))
