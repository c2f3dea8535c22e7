-- Written moves, joined by semicolons.
use Rattle.std.proofs.Common.{◌≡◌, ℕ, suc, ◌+◌, ◌≤◌, ◌<◌, List, [], ◌∷◌, ◌++◌, length, take, refl, sym, ◌∙◌, ap, arith, append_assoc, if◌then◌else◌}
use Rattle.std.specs.Prelude.{Some, slice_get, map, nat_eq}
use Rattle.std.proofs.lemmas.List.{length-map, length-take-le, map_push}
use Rattle.std.proofs.lemmas.Bool.{eqb-true, false_from_ne_true}
use Rattle.hive_model.specs.declared.places.Move.{Move}
use Rattle.hive_model.specs.Strings.{joined_on}
use Rattle.game_text.proofs.WriteLaws.{taken_next}
use Rattle.uhp_session.specs.Answers.{joined}

on_more : (p q : List ℕ) (ps : List (List ℕ)) → joined_on p (ps ++ q ∷ []) ≡ joined_on p ps ++ 59 ∷ q
on_more p q [] = refl
on_more p q (x ∷ ps) = ap (λ (r : List ℕ). p ++ 59 ∷ r) (on_more x q ps) ∙ sym (append_assoc p (59 ∷ joined_on x ps) (59 ∷ q))

not_first : {X : Type 0} (n : ℕ) (x y : X) → (if nat_eq (suc n) 0 then x else y) ≡ y
not_first {X} n x y = ap (λ b. if b then x else y) (false_from_ne_true (nat_eq (suc n) 0) (λ e. let wrong = eqb-true (suc n) 0 e in omega (arith, wrong)))

-- one more part, after a semicolon if it is not the first
joined_more : (ps : List (List ℕ)) (q : List ℕ) → joined (ps ++ q ∷ []) ≡ (if nat_eq (length ps) 0 then joined ps ++ q else joined ps ++ 59 ∷ q)
joined_more [] q = refl
joined_more (p ∷ ps) q = on_more p q ps ∙ sym (not_first (length ps) (joined_on p ps ++ q) (joined_on p ps ++ 59 ∷ q))

pub written_on : (f : Move → List ℕ) (ms : List Move) (i : ℕ) (m : Move) (old new part : List ℕ) → slice_get ms i ≡ Some m → i < length ms → old ≡ joined (map f (take i ms)) → part ≡ f m
    → new ≡ (if nat_eq i 0 then old ++ part else old ++ 59 ∷ part) → new ≡ joined (map f (take (i + 1) ms))
written_on f ms i m old new part at less before is pushed =
    let low : i ≤ length ms = omega (arith, less) in
    let size : length (map f (take i ms)) ≡ i = length-map (take i ms) f ∙ length-take-le i ms low in
    pushed ∙ (λ j. if nat_eq i 0 then before j ++ is j else before j ++ 59 ∷ is j)
    ∙ ap (λ n. if nat_eq n 0 then joined (map f (take i ms)) ++ f m else joined (map f (take i ms)) ++ 59 ∷ f m) (sym size)
    ∙ sym (joined_more (map f (take i ms)) (f m)) ∙ ap joined (sym (map_push f (take i ms) m)) ∙ ap (λ (r : List Move). joined (map f r)) (sym (taken_next ms i m at))
