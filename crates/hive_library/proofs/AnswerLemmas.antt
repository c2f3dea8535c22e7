-- From what was found of an answer to what a call leaves behind.
use Rattle.std.proofs.Common.{◌≡◌, ◌≢◌, ℕ, List, sym, subst, inl, inr}
use Rattle.std.specs.Prelude.{Ok, Err}
use Rattle.hive_library.specs.Rooms.{Answer, Answers, Ends, Gives, IsFound, Puts, code}
use Rattle.hive_library.specs.declared.faults.Fault.{Fault}

pub answered : (answer told : Answer) (status : ℕ) (before now : List ℕ) (n : ℕ) → IsFound told answer → Gives told status before now n → Answers answer status before now n
answered answer (Ok text) status before now n found gives = inr (subst (λ (a : Answer). Gives a status before now n) (sym found) gives)
answered answer (Err fault) status before now n (inl memory) gives = inl (subst (λ (f : Fault). Ends (code f) status before now n) memory gives)
answered answer (Err fault) status before now n (inr is) gives = inr (subst (λ (a : Answer). Gives a status before now n) (sym is) gives)

pub put_or_same : (text : List ℕ) (status : ℕ) (before now : List ℕ) (n : ℕ) → Puts text status before now n → status ≢ 0 → now ≡ before
put_or_same text status before now n (inl (done, put)) other = absurd (other done)
put_or_same text status before now n (inr (short, is)) other = is.same

given_or_same : (answer : Answer) (status : ℕ) (before now : List ℕ) (n : ℕ) → Gives answer status before now n → status ≢ 0 → now ≡ before
given_or_same (Ok text) status before now n gives other = put_or_same text status before now n gives other
given_or_same (Err fault) status before now n gives other = gives.same

pub kept : (answer : Answer) (status : ℕ) (before now : List ℕ) (n : ℕ) → Answers answer status before now n → status ≢ 0 → now ≡ before
kept answer status before now n (inl ends) other = ends.same
kept answer status before now n (inr gives) other = given_or_same answer status before now n gives other
