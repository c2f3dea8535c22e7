-- Tests that decide equality. The `==` of tables by keys rests on them.
use Rattle.std.proofs.Common.{◌≡◌, Bool, true, false, Some, None, refl, ap}
use Rattle.std.specs.Option.{option_eq}

-- the test holds exactly if the two are equal
abbrev pub Decides : {X : Type 0} → (X → X → Bool) → Type 0
Decides {X} E = (x y : X) → (E x y ≡ true → x ≡ y) × (x ≡ y → E x y ≡ true)

pub options : {X : Type 0} {E : X → X → Bool} → Decides E → Decides (option_eq E)
options d None None = (λ _. refl, λ _. refl)
options d None (Some y) = (
  λ h. let wrong : false ≡ true = h in absurd (cc),
  λ h. let wrong : None ≡ Some y = h
      in absurd (cc),
)
options d (Some x) None = (
  λ h. let wrong : false ≡ true = h in absurd (cc),
  λ h. let wrong : Some x ≡ None = h
      in absurd (cc),
)
options d (Some x) (Some y) =
    (λ h. ap Some ((d x y).0 h), λ h. (d x y).1 (let s : Some x ≡ Some y = h in cc))
