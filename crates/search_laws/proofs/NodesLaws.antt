-- The nodes after a position are its moves and the nodes after them.
use Rattle.std.proofs.Common.{◌≡◌, ℕ, zero, suc, ◌+◌, List, [], ◌∷◌, refl, arith}
use Rattle.std.specs.List.{sum_by}
use Rattle.std.proofs.lemmas.List.Sums.{sum_by-cons}
use Rattle.hive_model.specs.declared.places.Move.{Move}
use Rattle.hive_model.specs.Positions.{Position}
use Rattle.hive_model.specs.Legal.{moves}
use Rattle.hive_model.specs.Games.{after}
use Rattle.hive_model.specs.Minimax.{lines, nodes}

sum_by-add : (f g : Move → ℕ) (ms : List Move) → sum_by (λ m. f m + g m) ms ≡ sum_by f ms + sum_by g ms
sum_by-add f g [] = refl
sum_by-add f g (m ∷ ms) =
    omega (arith, sum_by-cons (λ n. f n + g n) m ms, sum_by-cons f m ms, sum_by-cons g m ms, sum_by-add f g ms)

sum_by-same : (f g : Move → ℕ) (ms : List Move) → ((m : Move) → f m ≡ g m) → sum_by f ms ≡ sum_by g ms
sum_by-same f g [] h = refl
sum_by-same f g (m ∷ ms) h = omega (arith, sum_by-cons f m ms, sum_by-cons g m ms, h m, sum_by-same f g ms h)

nodes-next : (p : Position) (n : ℕ) → nodes p (suc n) ≡ nodes p n + lines p (suc n)
unfolding nodes
nodes-next p n = refl

nodes-none : (p : Position) → nodes p 0 ≡ 0
unfolding nodes
nodes-none p = refl

pub lines-one : (p : Position) → lines p 0 ≡ 1
unfolding lines
lines-one p = refl

pub lines-next : (p : Position) (n : ℕ) → lines p (suc n) ≡ sum_by (λ m. lines (after p m) n) (moves p)
unfolding lines
lines-next p n = refl

pub nodes-step : (p : Position) (n : ℕ) → nodes p (suc n) ≡ sum_by (λ m. 1 + nodes (after p m) n) (moves p)
nodes-step p zero =
    let same = sum_by-same (λ m. lines (after p m) 0) (λ m. 1 + nodes (after p m) 0) (moves p) (λ m. omega (arith, lines-one (after p m), nodes-none (after p m))) in
    omega (arith, nodes-next p 0, nodes-none p, lines-next p 0, same)
nodes-step p (suc n) =
    let both = sum_by-add (λ m. 1 + nodes (after p m) n) (λ m. lines (after p m) (suc n)) (moves p) in
    let same = sum_by-same (λ m. 1 + nodes (after p m) n + lines (after p m) (suc n)) (λ m. 1 + nodes (after p m) (suc n)) (moves p)
    (λ m. omega (arith, nodes-next (after p m) n)) in
    omega (arith, nodes-next p (suc n), nodes-step p n, lines-next p (suc n), both, same)
