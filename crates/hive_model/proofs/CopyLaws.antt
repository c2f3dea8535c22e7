-- The tests of a mosquito's moves, and of the moves of any bug, hold exactly if their relations do.
use Rattle.std.proofs.Common.{◌≡◌, ℕ, suc, zero, ◌<◌, Bool, true, false, not, inl, inr, refl, sym, ◌∙◌, ap, arith, if◌then◌else◌}
use Rattle.std.specs.Prelude.{Option, Some, None, nat_lt}
use Rattle.std.specs.List.{list_any}
use Rattle.std.proofs.lemmas.Bool.{lt-ltb, and_parts, and_from, not-true, not_from_false, false_from_ne_true}
use Rattle.hive_model.specs.declared.pieces.Kind.{Kind}
use Rattle.hive_model.specs.declared.pieces.Kind.TheVariants.{Queen, Spider, Beetle, Grasshopper, Ant, Mosquito, Ladybug, Pillbug}
use Rattle.hive_model.specs.declared.places.Place.{Place}
use Rattle.hive_model.specs.declared.places.Dir.{Dir}
use Rattle.hive_model.specs.Pieces.{kind_of, is_kind}
use Rattle.hive_model.specs.Places.{step, dirs}
use Rattle.hive_model.specs.Boards.{Stacks, height_at, is_occupied, top_at}
use Rattle.hive_model.specs.Reach.{CopiesOne, Copies, MovesAs, reaches, copies_one, copies, moves_as}
use Rattle.hive_model.proofs.PieceLaws.{same_kind, from_same_kind}
use Rattle.hive_model.proofs.RuleLaws.{any_has, has_any, dir_on}
use Rattle.hive_model.proofs.ReachLaws.{reach_from, from_reach}

-- a place is occupied, or its height is 0
pub not_occupied : (b : Stacks) (p : Place) → is_occupied b p ≡ false → height_at b p ≡ 0
not_occupied b p e = empty (height_at b p) e
  where
    empty : (n : ℕ) → nat_lt 0 n ≡ false → n ≡ 0
    empty zero k = refl
    empty (suc n) k = let some : 0 < suc n = omega arith in let wrong : true ≡ false = sym (lt-ltb 0 (suc n) some) ∙ k in absurd (cc)

pub empty_place : (b : Stacks) (p : Place) → height_at b p ≡ 0 → is_occupied b p ≡ false
empty_place b p e = ap (nat_lt 0) e

one_copied : (b : Stacks) (p q : Place) (d : Dir) (o : Option ℕ) → top_at b (step p d) ≡ o → copies_one b p q o ≡ true → CopiesOne b p q
one_copied b p q d None e k = let wrong : false ≡ true = k in absurd (cc)
one_copied b p q d (Some y) e k =
    let both = and_parts (not (is_kind (kind_of y) Mosquito)) (reaches (kind_of y) b p q) k in
    record {
      dir = d;
      other = y;
      stands = e;
      copied = λ same. let wrong : true ≡ false = sym (from_same_kind (kind_of y) Mosquito same) ∙ not-true _ both.0 in cc;
      reach = reach_from (kind_of y) b p q both.1;
    }

-- a mosquito moves as the test says
pub copies_from : (b : Stacks) (p q : Place) → copies b p q ≡ true → Copies b p q
copies_from b p q e = go (is_occupied b p) refl e
  where
    go : (t : Bool) → is_occupied b p ≡ t → (if t then reaches Beetle b p q else list_any (λ d. copies_one b p q (top_at b (step p d))) dirs) ≡ true → Copies b p q
    go true high k = inl (high, reach_from Beetle b p q k)
    go false low k =
        let r = any_has (λ d. copies_one b p q (top_at b (step p d))) dirs k in
        inr (not_occupied b p low, one_copied b p q r.0 (top_at b (step p r.0)) refl r.2)

pub from_copies : (b : Stacks) (p q : Place) → Copies b p q → copies b p q ≡ true
from_copies b p q h = elim h [
  | inl (high, reach) ↦ ap (λ (t : Bool). if t then reaches Beetle b p q else list_any (λ d. copies_one b p q (top_at b (step p d))) dirs) high ∙ from_reach Beetle b p q reach
  | inr (low, one) ↦
      ap (λ (t : Bool). if t then reaches Beetle b p q else list_any (λ d. copies_one b p q (top_at b (step p d))) dirs) (empty_place b p low)
      ∙ has_any (λ d. copies_one b p q (top_at b (step p d))) dirs one.dir (dir_on one.dir)
      (ap (copies_one b p q) one.stands
      ∙ and_from _ _ (not_from_false _ (false_from_ne_true _ (λ e. one.copied (same_kind _ _ e)))) (from_reach (kind_of one.other) b p q one.reach))
]

-- a piece of this kind moves exactly as the test says
moves_both : (k : Kind) (b : Stacks) (p q : Place) → (moves_as k b p q ≡ true → MovesAs k b p q) × (MovesAs k b p q → moves_as k b p q ≡ true)
moves_both Mosquito b p q = (copies_from b p q, from_copies b p q)
moves_both Queen b p q = (reach_from Queen b p q, from_reach Queen b p q)
moves_both Spider b p q = (reach_from Spider b p q, from_reach Spider b p q)
moves_both Beetle b p q = (reach_from Beetle b p q, from_reach Beetle b p q)
moves_both Grasshopper b p q = (reach_from Grasshopper b p q, from_reach Grasshopper b p q)
moves_both Ant b p q = (reach_from Ant b p q, from_reach Ant b p q)
moves_both Ladybug b p q = (reach_from Ladybug b p q, from_reach Ladybug b p q)
moves_both Pillbug b p q = (reach_from Pillbug b p q, from_reach Pillbug b p q)

pub moves_as_from : (k : Kind) (b : Stacks) (p q : Place) → moves_as k b p q ≡ true → MovesAs k b p q
moves_as_from k b p q = (moves_both k b p q).0

pub from_moves_as : (k : Kind) (b : Stacks) (p q : Place) → MovesAs k b p q → moves_as k b p q ≡ true
from_moves_as k b p q = (moves_both k b p q).1
