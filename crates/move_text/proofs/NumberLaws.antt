-- A number with no leading zero in a range is read exactly.
use Rattle.std.proofs.Common.{◌≡◌, ℕ, ◌^◌, ◌≤◌, ◌<◌, Bool, true, false, List, refl, sym, ◌∙◌, ap, subst, arith}
use Rattle.std.specs.Prelude.{Option, Some, None, not, ◌&&◌, nat_le, decimal, if◌then◌else◌}
use Rattle.std.specs.Str.{bytes_eq}
use Rattle.std.specs.Str.Parse.{digits_value}
use Rattle.std.proofs.lemmas.Bool.{leb-true, le-leb}
use Rattle.std.proofs.lemmas.Slice.Eq.{bytes_eq-Decides}
use Rattle.std.proofs.lemmas.Fmt.{decimal_is_IsNumeral}
use Rattle.hive_model.specs.Fields.{IsNumberText}
use Rattle.move_text.specs.Readers.{number_at}

pub number_found : (text : List ℕ) (least most n : ℕ) → number_at text least most ≡ Some n → IsNumberText text least most n
unfolding number_at
number_found text least most n h = go (bytes_eq (decimal (digits_value 10 text)) text) (nat_le least (digits_value 10 text)) (nat_le (digits_value 10 text) most) refl refl refl h
  where
    go : (s t u : Bool) → bytes_eq (decimal (digits_value 10 text)) text ≡ s → nat_le least (digits_value 10 text) ≡ t → nat_le (digits_value 10 text) most ≡ u
        → (if s && (t && u) then Some (digits_value 10 text) else None) ≡ Some n → IsNumberText text least most n
    go true true true e f g k = let same : digits_value 10 text ≡ n = cc in
        subst (IsNumberText text least most) same (record { digits = sym ((bytes_eq-Decides _ _).0 e); low = leb-true _ _ f; high = leb-true _ _ g })
    go true true false e f g k = absurd (cc)
    go true false u e f g k = absurd (cc)
    go false t u e f g k = absurd (cc)

pub number_again : (text : List ℕ) (least most n : ℕ) → most < 2 ^ 64 → IsNumberText text least most n → number_at text least most ≡ Some n
unfolding number_at
number_again text least most n fits h =
    let high = h.high in
    let small : n < 2 ^ 64 = omega (arith, high, fits) in
    let value : digits_value 10 text ≡ n = ap (digits_value 10) h.digits ∙ (decimal_is_IsNumeral n small).1 in
    let same : bytes_eq (decimal n) text ≡ true = (bytes_eq-Decides _ _).1 (sym h.digits) in
    ap (λ v. if bytes_eq (decimal v) text && (nat_le least v && nat_le v most) then Some v else None) value
    ∙ ap (λ t. if t && (nat_le least n && nat_le n most) then Some n else None) same
    ∙ ap (λ t. if t && nat_le n most then Some n else None) (le-leb least n h.low)
    ∙ ap (λ t. if t then Some n else None) (le-leb n most h.high)

-- A reader that finds exactly what the relation says computes the function that does.

pub found_at : (text letters printed : List ℕ) (least most n : ℕ) → most < 2 ^ 64 → letters ≡ text → printed ≡ decimal n → false ≡ not (bytes_eq printed letters) → least ≤ n → n ≤ most → Some n ≡ number_at text least most
found_at text letters printed least most n fits same print equal low high =
    let one : printed ≡ letters = (bytes_eq-Decides printed letters).0 (holds (bytes_eq printed letters) equal) in
    sym (number_again text least most n fits (record { digits = sym same ∙ sym one ∙ print; low = low; high = high }))
  where
    holds : (t : Bool) → false ≡ not t → t ≡ true
    holds true e = refl
    holds false e = absurd (cc)

pub none_at : (text : List ℕ) (least most : ℕ) → ((n : ℕ) → IsNumberText text least most n → None ≡ Some n) → None ≡ number_at text least most
none_at text least most only = go (number_at text least most) refl
  where
    go : (o : Option ℕ) → number_at text least most ≡ o → None ≡ o
    go None e = refl
    go (Some n) e = only n (number_found text least most n e)
