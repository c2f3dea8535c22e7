-- One turn of a loop that counts what follows each move, over plain values.
use Rattle.std.proofs.Common.{◌≡◌, ℕ, zero, suc, ◌+◌, ◌-◌, ◌*◌, ◌^◌, ◌≤◌, ◌<◌, List, [], ◌∷◌, length, drop, refl, sym, ◌∙◌, ap, subst, arith, Some}
use Rattle.std.specs.List.{sum_by, slice_get}
use Rattle.std.proofs.lemmas.List.Sums.{sum_by-cons}
use Rattle.hive_model.specs.declared.places.Move.{Move}
use Rattle.hive_model.specs.Positions.{Position}
use Rattle.hive_model.specs.Legal.{moves}
use Rattle.hive_model.specs.Games.{after}
use Rattle.hive_model.specs.Minimax.{lines}
use Rattle.hive_model.specs.Histories.{History, position, with_move}
use Rattle.search_laws.proofs.LoopLaws.{drop-at}
use Rattle.search_laws.proofs.NodesLaws.{lines-one, lines-next}
use Rattle.plain_search.proofs.PlySteps.{behind}
use Rattle.plain_search.proofs.FewMoves.{after-few, lines-fit}

-- the lists of n moves after a move
abbrev pub lines_after : Position → ℕ → Move → ℕ
lines_after p n m = lines (after p m) n

-- the count so far and that of the moves from index i on add up to the whole
abbrev pub CountsTo : Position → ℕ → ℕ → ℕ → Type 0
CountsTo p d i total = total + sum_by (lines_after p (d - 1)) (drop i (moves p)) ≡ lines p d

pub count-begin : (p : Position) (d : ℕ) → 0 < d → CountsTo p d 0 0
count-begin p zero deep = absurd (omega arith)
count-begin p (suc d) deep =
    let e : suc d - 1 ≡ d = omega arith in
    rw e (omega (arith, lines-next p d))

pub count-step : (p : Position) (d i total : ℕ) (m : Move) (n : ℕ) → slice_get (moves p) i ≡ Some m → n ≡ lines (after p m) (d - 1) → CountsTo p d i total →
    CountsTo p d (i + 1) (total + n)
count-step p d i total m n here behind so =
    let parts : sum_by (lines_after p (d - 1)) (drop i (moves p)) ≡ lines (after p m) (d - 1) + sum_by (lines_after p (d - 1)) (drop (i + 1) (moves p)) =
    ap (sum_by (lines_after p (d - 1))) (drop-at (moves p) i m here) ∙ sum_by-cons (lines_after p (d - 1)) m (drop (i + 1) (moves p)) in
    omega (arith, parts, behind, so)

-- what is counted never passes the whole
pub count-fits : (p : Position) (d i total : ℕ) (m : Move) (n : ℕ) → slice_get (moves p) i ≡ Some m → n ≡ lines (after p m) (d - 1) → CountsTo p d i total →
    d ≤ 8 → length p.board + 2 * d ≤ 44 → total + n < 2 ^ 128
count-fits p d i total m n here behind so low few =
    let more = count-step p d i total m n here behind so in
    omega (arith, more, lines-fit d p low few)

ones : (p : Position) (ms : List Move) → sum_by (lines_after p 0) ms ≡ length ms
ones p [] = refl
ones p (m ∷ ms) = omega (arith, sum_by-cons (lines_after p 0) m ms, lines-one (after p m), ones p ms)

-- the lists of one move are the moves
pub count-one : (p : Position) (d n : ℕ) → d ≡ 1 → n ≡ length (moves p) → n ≡ lines p d
count-one p d n one is = is ∙ sym (ones p (moves p)) ∙ sym (lines-next p 0) ∙ ap (lines p) (sym one)

pub count-none : (p : Position) (d : ℕ) → d ≡ 0 → 1 ≡ lines p d
count-none p d none = sym (lines-one p) ∙ ap (lines p) (sym none)

-- Behind a move

pub behind-few : (start played : History) (m : Move) (n : ℕ) → played ≡ with_move start m → length (position start).board + 2 * n + 2 ≤ 44 →
    length (position played).board + 2 * n ≤ 44
behind-few start played m n moved few =
    let same : length (position played).board ≡ length (after (position start) m).board = ap (λ (p : Position). length p.board) (behind start played m moved) in
    omega (arith, same, after-few (position start) m, few)

pub behind-count : (start played : History) (m : Move) (n r : ℕ) → played ≡ with_move start m → r ≡ lines (position played) n → r ≡ lines (after (position start) m) n
behind-count start played m n r moved is = is ∙ ap (λ (p : Position). lines p n) (behind start played m moved)

-- from the game now to the game at the start

pub count-now : (start now : History) (m : Move) (n r : ℕ) → now ≡ start → r ≡ lines (after (position now) m) n → r ≡ lines (after (position start) m) n
count-now start now m n r same is = subst (λ (g : History). r ≡ lines (after (position g) m) n) same is

pub few-now : (start now : History) (n : ℕ) → now ≡ start → length (position start).board + 2 * n ≤ 44 → 0 < n →
    length (position now).board + 2 * (n - 1) + 2 ≤ 44
few-now start now n same few deep =
    let e : length (position now).board ≡ length (position start).board = ap (λ (g : History). length (position g).board) same in
    omega (arith, e, few, deep)
