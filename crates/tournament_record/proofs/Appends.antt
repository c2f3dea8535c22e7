-- Parts that were appended one after another.
use Rattle.std.proofs.Common.{◌≡◌, List, ◌++◌, ap, ◌∙◌, OnOk}
use Rattle.std.specs.Prelude.{Result, Ok, Err}
use Rattle.std.proofs.lemmas.List.{append_assoc}

-- these behind others behind what was there
pub behind_others : {A : Type 0} (old mid new front back : List A) → mid ≡ old ++ front → new ≡ mid ++ back → new ≡ old ++ (front ++ back)
behind_others old mid new front back before more = more ∙ (ap (λ xs. xs ++ back) before ∙ append_assoc old front back)

-- the same where a call that may fail appends them
pub more_behind : {A B E : Type 0} (r : Result B E) (old mid new front back : List A) → mid ≡ old ++ front → OnOk r (new ≡ mid ++ back) → OnOk r (new ≡ old ++ (front ++ back))
more_behind (Ok x) old mid new front back before more = behind_others old mid new front back before more
more_behind (Err e) old mid new front back before more = tt
