-- The games of a cup are of two different engines each.
use Rattle.std.proofs.Common.{◌≡◌, ℕ, zero, suc, ◌<◌, true, false, cond, List, [], ◌∷◌, length, map, get_or, refl, arith}
use Rattle.std.specs.Prelude.{not, nat_eq}
use Rattle.std.specs.List.{filter, flat_map}
use Rattle.std.proofs.lemmas.Bool.Decides.{nat_tests}
use Rattle.tournament_core.specs.Schedules.{numbers}
use Rattle.tournament_core.specs.Ends.{Each}
use Rattle.tournament_core.proofs.Eachs.{IsFrom, each-append, each-number}
use Rattle.cup.specs.declared.pairing.Pairing.{Pairing}
use Rattle.cup.specs.Cup.{pairings, row}
use Rattle.cup_command.specs.Links.{IsPaired}

in-row : (n i : ℕ) → IsFrom 1 n i → (xs : List ℕ) → Each (IsFrom 1 n) xs → Each (IsPaired n) (map (λ j. record { white = i; black = j }) (filter (λ j. not (nat_eq j i)) xs))
in-row n i in_ [] each = tt
in-row n i in_ (j ∷ xs) each =
    elim (nat_eq j i) as (λ t. nat_eq j i ≡ t → Each (IsPaired n) (map (λ k. record { white = i; black = k }) (cond (not t) (j ∷ filter (λ k. not (nat_eq k i)) xs) (filter (λ k. not (nat_eq k i)) xs)))) [
      | true ↦ λ e. in-row n i in_ xs each.1
      | false ↦ λ e. (
        record {
          white_low = in_.low;
          white_high = omega (arith, in_.high);
          black_low = each.0.low;
          black_high = omega (arith, each.0.high);
          other = λ same. grind (arith, nat_tests);
        },
        in-row n i in_ xs each.1,
      )
    ] refl

in-rows : (n : ℕ) (ys : List ℕ) → Each (IsFrom 1 n) ys → Each (IsPaired n) (flat_map (row n) ys)
in-rows n [] each = tt
in-rows n (i ∷ ys) each = each-append (IsPaired n) (row n i) (flat_map (row n) ys) (in-row n i each.0 (numbers n) (each-number n 1)) (in-rows n ys each.1)

each-at : {A : Type 0} (P : A → Type 0) (xs : List A) (i : ℕ) (d : A) → Each P xs → i < length xs → P (get_or xs i d)
each-at P [] i d each low = absurd (omega (arith, low))
each-at P (x ∷ xs) zero d each low = each.0
each-at P (x ∷ xs) (suc i) d each low = each-at P xs i d each.1 (omega (arith, low))

-- the game at a place
pub paired-at : (n i : ℕ) (d : Pairing) → i < length (pairings n) → IsPaired n (get_or (pairings n) i d)
paired-at n i d low = each-at (IsPaired n) (pairings n) i d (in-rows n (numbers n) (each-number n 1)) low
