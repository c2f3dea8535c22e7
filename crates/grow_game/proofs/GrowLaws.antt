-- What the moves of a seed are, over plain values.
use Rattle.std.proofs.Common.{◌≡◌, ℕ, zero, suc, ◌+◌, ◌-◌, ◌%◌, ◌<◌, ◌≤◌, Bool, true, false, cond, List, [], ◌∷◌, ◌++◌, length, refl, sym, ◌∙◌, ap, arith, Option, None, Some}
use Rattle.std.proofs.lemmas.Option.{slice_get-get_or}
use Rattle.hive_model.specs.declared.places.Move.{Move}
use Rattle.hive_model.specs.declared.places.Move.TheVariants.{Pass}
use Rattle.hive_model.specs.Lists.{IsOn}
use Rattle.hive_model.specs.Positions.{Position, opening}
use Rattle.hive_model.specs.Legal.{is_over, moves}
use Rattle.hive_model.specs.Games.{after, replay, AreLegal}
use Rattle.search_laws.proofs.LoopLaws.{on-at}
use Rattle.search_laws.proofs.MinimaxLaws.{moves-not_over}
use Rattle.grow_game.specs.Growing.{full_type, seeded, word, next_state, drawn, followed, grown, choices}
use Rattle.grow_game.specs.Laws.{MakesGame}

-- the next moves, by whether the game is over and by the move that is drawn
abbrev pub next : ℕ → ℕ → Position → Bool → Option Move → List Move
next s n p over m = cond over [] (followed m (λ k. grown (next_state s) n (after p k)))

pub grown-none : (s : ℕ) (p : Position) → grown s 0 p ≡ []
unfolding grown
grown-none s p = refl

pub grown-over : (s n : ℕ) (p : Position) → is_over p ≡ true → grown s n p ≡ []
unfolding grown
grown-over s zero p over = refl
grown-over s (suc n) p over = rw over refl

pub grown-drawn : (s n : ℕ) (p : Position) (m : Move) → 0 < n → is_over p ≡ false → drawn (word s) (moves p) ≡ Some m →
    grown s n p ≡ m ∷ grown (next_state s) (n - 1) (after p m)
unfolding grown
grown-drawn s zero p m some goes_on draws = absurd (omega (arith, some))
grown-drawn s (suc n) p m some goes_on draws =
    let less : suc n - 1 ≡ n = omega arith in
    ap (λ b. next s n p b (drawn (word s) (moves p))) goes_on ∙ ap (next s n p false) draws ∙ ap (λ k. m ∷ grown (next_state s) k (after p m)) (sym less)

-- a word draws a move from every list that is not empty, and that move is on the list
draws : (w : ℕ) (ms : List Move) → 0 < length ms → drawn w ms ≡ None → ⊥
draws w ms some none =
    let less : w % length ms < length ms = omega (arith, some) in
    let here = slice_get-get_or ms (w % length ms) Pass less in
    cc

pub drawn-on : (w : ℕ) (ms : List Move) (m : Move) → drawn w ms ≡ Some m → IsOn ms m
drawn-on w ms m e = on-at ms (w % length ms) m e

legal_by : (s n : ℕ) (p : Position) (over : Bool) (m : Option Move) → drawn (word s) (moves p) ≡ m → ((q : Position) → AreLegal q (grown (next_state s) n q)) →
    AreLegal p (next s n p over m)
legal_by s n p true m e rest = tt
legal_by s n p false None e rest = tt
legal_by s n p false (Some m) e rest = (drawn-on (word s) (moves p) m e, rest (after p m))

pub grown-legal : (s n : ℕ) (p : Position) → AreLegal p (grown s n p)
unfolding grown
grown-legal s zero p = tt
grown-legal s (suc n) p = legal_by s n p (is_over p) (drawn (word s) (moves p)) refl (λ q. grown-legal (next_state s) n q)

few_by : (s n : ℕ) (p : Position) (over : Bool) (m : Option Move) → ((q : Position) → length (grown (next_state s) n q) ≤ n) → length (next s n p over m) ≤ suc n
few_by s n p true m rest = omega arith
few_by s n p false None rest = omega arith
few_by s n p false (Some m) rest = omega (arith, rest (after p m))

pub grown-few : (s n : ℕ) (p : Position) → length (grown s n p) ≤ n
unfolding grown
grown-few s zero p = omega arith
grown-few s (suc n) p = few_by s n p (is_over p) (drawn (word s) (moves p)) (λ q. grown-few (next_state s) n q)

over_by : (s n : ℕ) (p : Position) (over : Bool) (m : Option Move) → is_over p ≡ over → drawn (word s) (moves p) ≡ m →
    ((q : Position) → length (grown (next_state s) n q) < n → is_over (replay q (grown (next_state s) n q)) ≡ true) →
    length (next s n p over m) < suc n → is_over (replay p (next s n p over m)) ≡ true
over_by s n p true m over e rest less = over
over_by s n p false None over e rest less = absurd (draws (word s) (moves p) (moves-not_over p over) e)
over_by s n p false (Some m) over e rest less = rest (after p m) (omega (arith, less))

pub grown-ends : (s n : ℕ) (p : Position) → length (grown s n p) < n → is_over (replay p (grown s n p)) ≡ true
unfolding grown
grown-ends s zero p less = absurd (omega (arith, less))
grown-ends s (suc n) p less = over_by s n p (is_over p) (drawn (word s) (moves p)) refl refl (λ q. grown-ends (next_state s) n q) less

pub makes-game : (seed plies : ℕ) → MakesGame seed plies
makes-game seed plies = record {
  game = grown-legal (seeded seed) plies (opening full_type);
  few = grown-few (seeded seed) plies (opening full_type);
  over = grown-ends (seeded seed) plies (opening full_type);
}

pub choices-none : (p : Position) → choices p [] ≡ 0
unfolding choices
choices-none p = refl

pub choices-append : (p : Position) (ms : List Move) (m : Move) → choices p (ms ++ m ∷ []) ≡ choices p ms + length (moves (replay p ms))
unfolding choices
choices-append p [] m = omega arith
choices-append p (k ∷ ms) m = let rest = choices-append (after p k) ms m in omega (arith, rest)
