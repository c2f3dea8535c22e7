-- What a text or a byte names has that name.
use Rattle.std.proofs.Common.{◌≡◌, ℕ, Bool, true, false, List, [], ◌∷◌, refl, subst}
use Rattle.std.specs.Prelude.{Option, Some, None, option_map, nat_eq, if◌then◌else◌}
use Rattle.std.specs.List.{find}
use Rattle.std.specs.Str.{bytes_eq}
use Rattle.std.proofs.lemmas.Bool.{eqb-true}
use Rattle.std.proofs.lemmas.Slice.Eq.{bytes_eq-Decides}
use Rattle.move_text.specs.Tables.{named_by, coded_by}

-- what is found passes the test
find_passes : {X : Type 0} (p : X → Bool) (xs : List X) (x : X) → find p xs ≡ Some x → p x ≡ true
find_passes p [] x h = absurd (cc)
find_passes {X} p (y ∷ ys) x h = go (λ k. find_passes p ys x k) (p y) refl h
  where
    go : (find p ys ≡ Some x → p x ≡ true) → (t : Bool) → p y ≡ t → (if t then Some y else find p ys) ≡ Some x → p x ≡ true
    go later true e k = let same : y ≡ x = cc in subst (λ z. p z ≡ true) same e
    go later false e k = later k

pub name_is : {X : Type 0} (name : X → List ℕ) (xs : List X) (text : List ℕ) (x : X) → named_by name xs text ≡ Some x → text ≡ name x
name_is name xs text x h = (bytes_eq-Decides text (name x)).0 (find_passes (λ y. bytes_eq text (name y)) xs x h)

pub code_is : {X : Type 0} (code : X → ℕ) (xs : List X) (byte : ℕ) (x : X) → coded_by code xs byte ≡ Some x → byte ≡ code x
code_is code xs byte x h = eqb-true byte (code x) (find_passes (λ y. nat_eq byte (code y)) xs x h)

-- what a search over values returns
pub as_found : {X : Type 0} (r o : Option X) → option_map (λ x. x) r ≡ o → r ≡ o
as_found None o h = h
as_found (Some x) o h = h
