-- Numbers with a bit for each piece.
use Rattle.std.proofs.Common.{◌≡◌, ℕ, suc, zero, ◌+◌, ◌^◌, ◌<◌, Bool, true, false, cond, ◌&&◌, map, refl, sym, ◌∙◌, ap, ap₂, arith, min, get_or, count_by, count_ones, bit_and}
use Rattle.std.specs.Int.{bit_at}
use Rattle.std.specs.Int.Bits.{and_lt}
use Rattle.std.proofs.lemmas.Nat.Bits.{bit_at_and, same_from_bits_below}
use Rattle.std.proofs.lemmas.Simd.{bit_mask_l, mask_l-lt, ones-mask_l}
use Rattle.hive_model.specs.Lists.{count_from}
use Rattle.hive_model.specs.Pieces.{all_pieces, mask_of_pieces}

get_count : (p : ℕ → Bool) (n first i : ℕ) → i < n → get_or (map p (count_from first n)) i false ≡ p (first + i)
get_count p zero first i h = absurd (omega (arith, h))
get_count p (suc n) first zero h = let e : first ≡ first + 0 = omega arith in ap p e
get_count p (suc n) first (suc i) h =
    let low : i < n = omega (arith, h) in
    let e : first + 1 + i ≡ first + suc i = omega arith in
    get_count p n (first + 1) i low ∙ ap p e

-- the bit of a piece
pub mask_at : (p : ℕ → Bool) (x : ℕ) → x < 28 → bit_at (mask_of_pieces p) x ≡ cond (p x) 1 0
unfolding mask_of_pieces
mask_at p x low =
    let e : 0 + x ≡ x = omega arith in
    bit_mask_l (map p all_pieces) x ∙ ap (λ (t : Bool). cond t 1 0) (get_count p 28 0 x low ∙ ap p e)

pub mask_below : (p : ℕ → Bool) → mask_of_pieces p < 2 ^ 28
unfolding mask_of_pieces
mask_below p = mask_l-lt (map p all_pieces)

-- a number is determined by its bits
pub mask_from : (n : ℕ) (p : ℕ → Bool) → n < 2 ^ 28 → ((x : ℕ) → x < 28 → bit_at n x ≡ cond (p x) 1 0) → n ≡ mask_of_pieces p
mask_from n p low bits = same_from_bits_below 28 n (mask_of_pieces p) low (mask_below p) (λ x h. bits x h ∙ sym (mask_at p x h))

both_bits : (s t : Bool) → min (cond s 1 0) (cond t 1 0) ≡ cond (s && t) 1 0
both_bits true true = refl
both_bits true false = refl
both_bits false true = refl
both_bits false false = refl

-- what two numbers have both
pub mask_both : (p q : ℕ → Bool) → bit_and (mask_of_pieces p) (mask_of_pieces q) ≡ mask_of_pieces (λ x. p x && q x)
mask_both p q =
    mask_from (bit_and (mask_of_pieces p) (mask_of_pieces q)) (λ x. p x && q x) (and_lt 28 (mask_of_pieces p) (mask_of_pieces q) (mask_below p) (mask_below q))
    (λ x h. bit_at_and (mask_of_pieces p) (mask_of_pieces q) x ∙ ap₂ min (mask_at p x h) (mask_at q x h) ∙ both_bits (p x) (q x))

-- it has as many bits as pieces pass
pub mask_ones : (p : ℕ → Bool) → count_ones (mask_of_pieces p) ≡ count_by p all_pieces
unfolding mask_of_pieces
mask_ones p = ones-mask_l p all_pieces
