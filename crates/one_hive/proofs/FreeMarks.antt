-- Marks of the free pieces, and marks as numbers.
use Rattle.std.proofs.Common.{◌≡◌, ◌↔◌, ℕ, ◌+◌, ◌^◌, ◌<◌, Bool, true, false, cond, not, ◌&&◌, List, inl, inr, refl, sym, ◌∙◌, ap, subst, arith}
use Rattle.std.specs.Prelude.{Option, Some, None, IsTrue, nat_eq}
use Rattle.std.specs.Int.{bit_at}
use Rattle.std.proofs.lemmas.Bool.{cases_eq}
use Rattle.std.proofs.lemmas.Nat.Bits.{bit_at-lt}
use Rattle.hive_model.specs.declared.places.Spot.{Spot}
use Rattle.hive_model.specs.Pieces.{mask_of_pieces}
use Rattle.hive_model.specs.Boards.{Stacks, height_at, spot_of, IsBoard}
use Rattle.hive_model.specs.Hive.{IsCut, is_cut}
use Rattle.hive_model.specs.Evaluation.{is_uncut_top, is_free_piece}
use Rattle.hive_model.proofs.CutLaws.{cut_from, from_cut}
use Rattle.hive_model.proofs.PieceMasks.{mask_from}
use Rattle.one_hive.specs.Visits.{IsSet}
use Rattle.one_hive.specs.Marks.{flags}
use Rattle.one_hive.proofs.Flags.{bit_of, flag_of}

-- a number of marks that are those of the pieces which pass a test
pub marks_mask : (n : ℕ) (ms : List Bool) (p : ℕ → Bool) → flags n ≡ ms → n < 2 ^ 28 → ((x : ℕ) → x < 28 → IsSet ms x ↔ IsTrue (p x)) → n ≡ mask_of_pieces p
marks_mask n ms p is low marked = mask_from n p low (λ x h. bit x h (p x) refl)
  where
    bit : (x : ℕ) → x < 28 → (t : Bool) → p x ≡ t → bit_at n x ≡ cond t 1 0
    bit x h true e = (bit_of n x (subst (λ (xs : List Bool). IsSet xs x) (sym is) ((marked x h).1 e))).1
    bit x h false e = elim (cases_eq (bit_at n x) 1) [
      | inl one ↦ (let wrong : false ≡ true = sym e ∙ (marked x h).0 (subst (λ (xs : List Bool). IsSet xs x) is (flag_of n x h one)) in absurd (cc))
      | inr other ↦ (let less = bit_at-lt n x in omega (arith, less, other))
    ]

same_tests : {P : Type 0} (r t : Bool) → (IsTrue r ↔ P) → (IsTrue t ↔ P) → r ≡ t
same_tests true true a b = refl
same_tests true false a b = sym (b.1 (a.0 refl))
same_tests false true a b = a.1 (b.0 refl)
same_tests false false a b = refl

-- a piece on top is free exactly where its place is found to be no cut place
pub uncut_is : (b : Stacks) → IsBoard b → (x : ℕ) (s : Spot) (r : Bool) → spot_of b x ≡ Some s
    → nat_eq (s.level + 1) (height_at b s.place) ≡ true → (IsTrue r ↔ IsCut b s.place) → not r ≡ is_free_piece b None x
uncut_is b is x s r stands top cut =
    let tested : r ≡ is_cut b s.place = same_tests r (is_cut b s.place) cut (cut_from b is s.place, from_cut b is s.place) in
    ap not tested
    ∙ sym (ap (λ (o : Option Spot). is_uncut_top b o) stands ∙ ap (λ (t : Bool). t && not (is_cut b s.place)) top)

-- a piece that is not on top is not free
pub covered_is : (b : Stacks) (x : ℕ) (s : Spot) → spot_of b x ≡ Some s → nat_eq (s.level + 1) (height_at b s.place) ≡ false → false ≡ is_free_piece b None x
covered_is b x s stands below = sym (ap (λ (o : Option Spot). is_uncut_top b o) stands ∙ ap (λ (t : Bool). t && not (is_cut b s.place)) below)
