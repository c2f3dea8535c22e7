-- The indices of a certificate are written, and read again.
use Rattle.std.proofs.Common.{◌≡◌, ℕ, suc, zero, ◌+◌, ◌-◌, ◌^◌, ◌≤◌, ◌<◌, Bool, true, false, cond, List, [], ◌∷◌, length, take, drop, map, refl, ◌∙◌, ap, arith, lit<, inl, inr, Some, None}
use Rattle.std.specs.Prelude.{decimal, ℤ, pos, neg_ℤ, ◌-ℤ◌}
use Rattle.std.specs.List.{flat_map}
use Rattle.hive_model.specs.declared.places.Move.{Move}
use Rattle.hive_model.specs.Lists.{IsOn}
use Rattle.hive_model.specs.Boards.{StandsWithin}
use Rattle.hive_model.specs.Positions.{Position, IsSound}
use Rattle.hive_model.specs.Legal.{moves, is_over}
use Rattle.hive_model.specs.Games.{after}
use Rattle.hive_model.specs.Minimax.{value}
use Rattle.io_edge.specs.Lines.{lines, line_of}
use Rattle.rule_laws.proofs.Games.{listed_keep}
use Rattle.line_feed.proofs.PartLemmas.{line_parts-nil}
use Rattle.move_text.specs.Readers.{number_at}
use Rattle.move_text.proofs.NumberLaws.{number_again}
use Rattle.certificate_walks.specs.declared.limit.Limit.{Limit}
use Rattle.certificate_walks.specs.declared.limit.Limit.TheVariants.{AtMost, AtLeast}
use Rattle.certificate_walks.specs.Limits.{Each, is_kept}
use Rattle.certificate_walks.specs.Walks.{place_of}
use Rattle.certificate_walks.proofs.PlaceLaws.{Each-append, on-before, on-behind}
use Rattle.strategy_check.specs.Least.{least, least_from, least_inner, least_moves}
use Rattle.certificate_text.specs.Text.{index_in}
use Rattle.certificate_indices.specs.Writing.{index_lines}
use Rattle.strategy_make.specs.Making.{least_at, least_indices}
use Rattle.strategy_make.proofs.PlainLaws.{decimal-plain, wider-plain}
use Rattle.strategy_make.proofs.LineLaws.{lines-begin}
use Rattle.strategy_make.proofs.FewLaws.{moves-few}

-- each is the place of a move in a list of moves
abbrev pub AreLow : List ℕ → Type 0
AreLow indices = Each (λ i. i ≤ 5487) indices

flat-low : (f : Move → List ℕ) (ms : List Move) → ((m : Move) → IsOn ms m → AreLow (f m)) → AreLow (flat_map f ms)
flat-low f [] low = tt
flat-low f (m ∷ ms) low = Each-append (λ i. i ≤ 5487) (f m) (flat_map f ms) (low m (inl refl)) (flat-low f ms (λ n on. low n (inr on)))

from-low : (passes : Move → Bool) (below : Move → List ℕ) (j : ℕ) (ms : List Move) → j + length ms ≤ 5488 → ((m : Move) → IsOn ms m → AreLow (below m)) → AreLow (least_from passes below j ms)
from-low passes below j [] few low = tt
from-low passes below j (m ∷ ms) few low =
    let here : j ≤ 5487 = omega (arith, few) in
    let more : j + 1 + length ms ≤ 5488 = omega (arith, few) in
    let later = from-low passes below (j + 1) ms more (λ n on. low n (inr on)) in
    elim (passes m) as (λ b. AreLow (cond b (j ∷ below m) (least_from passes below (j + 1) ms))) [
      | true ↦ (here, low m (inl refl))
      | false ↦ later
    ]

inner-low : (p : Position) (e : ℕ) (below : Move → Limit → List ℕ) (c : Limit) → length (moves p) ≤ 5488 → ((m : Move) (k : Limit) → IsOn (moves p) m → AreLow (below m k)) → AreLow (least_inner p e below c)
inner-low p e below (AtMost x) few low = flat-low (λ m. below m (AtLeast (neg_ℤ x))) (moves p) (λ m on. low m (AtLeast (neg_ℤ x)) on)
inner-low p e below (AtLeast x) few low =
    let all : 0 + length (moves p) ≤ 5488 = omega (arith, few) in
    from-low (λ m. is_kept (AtMost (neg_ℤ x)) (value (after p m) e)) (λ m. below m (AtMost (neg_ℤ x))) 0 (moves p) all (λ m on. low m (AtMost (neg_ℤ x)) on)

pub least-low : (e : ℕ) (p : Position) (n : ℕ) (c : Limit) → IsSound p → StandsWithin n p.board → n + e ≤ 9000 → AreLow (least p e c)
unfolding least
least-low zero p n c sound within few = tt
least-low (suc e) p n c sound within few =
    let near : n < 9000 = omega (arith, few) in
    let more : n + 1 + e ≤ 9000 = omega (arith, few) in
    let deeper = λ (m : Move) (k : Limit) (on : IsOn (moves p) m). let next = listed_keep p n m sound within near on in least-low e (after p m) (n + 1) k next.0 next.1 more in
    elim (is_over p) as (λ over. AreLow (cond over [] (least_inner p e (λ m. least (after p m) e) c))) [
      | true ↦ tt
      | false ↦ inner-low p e (λ m. least (after p m) e) c (moves-few p sound.board) deeper
    ]

root-low : (p : Position) (e n k : ℕ) (m : Move) (v : ℤ) → IsSound p → StandsWithin n p.board → n + 1 + e ≤ 9000 → IsOn (moves p) m → AreLow (least_moves p e k m v)
root-low p e n k m v sound within few legal =
    let near : n < 9000 = omega (arith, few) in
    let each = λ (c : Limit) (o : Move) (on : IsOn (moves p) o). let next = listed_keep p n o sound within near on in least-low e (after p o) (n + 1) c next.0 next.1 few in
    Each-append (λ i. i ≤ 5487) _ _ (flat-low (λ o. least (after p o) e (AtLeast (pos 1 -ℤ v))) (take k (moves p)) (λ o on. each (AtLeast (pos 1 -ℤ v)) o (on-before k (moves p) o on)))
    (Each-append (λ i. i ≤ 5487) _ _ (each (AtMost (neg_ℤ v)) m legal)
    (Each-append (λ i. i ≤ 5487) _ _ (each (AtLeast (neg_ℤ v)) m legal)
    (flat-low (λ o. least (after p o) e (AtLeast (neg_ℤ v))) (drop (k + 1) (moves p)) (λ o on. each (AtLeast (neg_ℤ v)) o (on-behind (k + 1) (moves p) o on)))))

pub indices-low : (p : Position) (d n : ℕ) (m : Move) (v : ℤ) → IsSound p → StandsWithin n p.board → n + 1 + (d - 1) ≤ 9000 → IsOn (moves p) m → AreLow (least_indices p d m v)
indices-low p d n m v sound within few legal =
    elim (place_of m (moves p)) as (λ o. AreLow (least_at p d m v o)) [
      | None ↦ tt
      | Some k ↦ root-low p (d - 1) n k m v sound within few legal
    ]

no-lines : lines [] ≡ []
unfolding lines
no-lines = ap (map line_of) line_parts-nil

index-is : (i : ℕ) → i ≤ 5487 → number_at (decimal i) 0 5487 ≡ Some i
index-is i low = let fits : 5487 < 2 ^ 64 = lit< tt in number_again (decimal i) 0 5487 i fits (record { digits = refl; low = omega arith; high = low })

-- each of the lines of indices is its index
pub indices-read : (indices : List ℕ) → AreLow indices → map index_in (lines (index_lines indices)) ≡ map (λ i. Some i) indices
indices-read [] low = ap (map index_in) no-lines
indices-read (i ∷ indices) low =
    ap (map index_in) (lines-begin (decimal i) (index_lines indices) (wider-plain 7 65536 (decimal i) (omega arith) (decimal-plain i (omega (arith, low.0)))))
    ∙ ap (λ o. o ∷ map index_in (lines (index_lines indices))) (index-is i low.0)
    ∙ ap (λ os. Some i ∷ os) (indices-read indices low.1)
