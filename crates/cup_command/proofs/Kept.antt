-- What is known of a result.
use Rattle.std.proofs.Common.{◌≡◌, ℕ, subst, Result, Ok, Err, IsErrOf, OnOk, OnErr, ap, sym, ◌∙◌, refl, arith}
use Rattle.io_edge.specs.Outside.{HasCause}
use Rattle.io_edge.specs.Starts.{Engines}
use Rattle.io_edge.specs.declared.io_answers.StartFault.TheVariants.{Failed, Memory}
use Rattle.match_command.specs.Match.{StartsNone}

pub on-ok : {A E : Type 0} (P Q : Type 0) → (P → Q) → (r : Result A E) → OnOk r P → OnOk r Q
on-ok P Q f (Ok a) p = f p
on-ok P Q f (Err e) p = tt

pub on-err : {A E : Type 0} (P Q : Type 0) → (P → Q) → (r : Result A E) → OnErr r P → OnErr r Q
on-err P Q f (Ok a) p = tt
on-err P Q f (Err e) p = f p

-- Starts

-- if nothing was done, no program was started
pub none-at-all : (before : Engines) → StartsNone before before
none-at-all before = record { starts = refl; to_come = refl; started = refl }

-- if none was started, and then none again, none was started in all
pub none-then : (before between after : Engines) → StartsNone before between → StartsNone between after → StartsNone before after
none-then before between after one other = record {
  starts = other.starts ∙ one.starts;
  to_come = other.to_come ∙ one.to_come;
  started = other.started ∙ one.started;
}

-- Causes

pub cause-same : (failed : Type 0) (a b c : ℕ) → HasCause failed a b → c ≡ b → HasCause failed a c
cause-same failed a b c h e = subst (λ n. HasCause failed a n) (sym e) h

pub cause-before : (failed : Type 0) (a b c : ℕ) → b ≡ a → HasCause failed b c → HasCause failed a c
cause-before failed a b c e h = subst (λ n. HasCause failed n c) e h

pub cause-none : (failed other : Type 0) (a b c : ℕ) → HasCause failed a b → (failed → ⊥) → (other → ⊥) → c ≡ b → HasCause other a c
cause-none failed other a b c h calm none e = let same : c ≡ a = e ∙ h.same calm in record { later = omega (arith, same); rose = λ o. absurd (none o); same = λ n. same }

pub cause-then : (failed other : Type 0) (a b c : ℕ) → HasCause failed a b → (failed → ⊥) → HasCause other b c → HasCause other a c
cause-then failed other a b c h calm k = subst (λ n. HasCause other n c) (h.same calm) k

pub no-cause : (other : Type 0) (a c : ℕ) → (other → ⊥) → c ≡ a → HasCause other a c
no-cause other a c none same = record { later = omega (arith, same); rose = λ o. absurd (none o); same = λ n. same }

-- the same fault of results of two types
pub same-fault : {A B E : Type 0} (fault x : E) → IsErrOf {T = A} (Err fault) x → IsErrOf {T = B} (Err fault) x
same-fault fault x e = let same : fault ≡ x = cc in ap (λ f. Err f) same

pub cause-moved : {A B E : Type 0} (fault x : E) (a b : ℕ) → HasCause (IsErrOf {T = A} (Err fault) x) a b → HasCause (IsErrOf {T = B} (Err fault) x) a b
cause-moved {A} {B} fault x a b h = record { later = h.later; rose = λ e. h.rose (same-fault fault x e); same = λ n. h.same (λ e. n (same-fault fault x e)) }

pub always-ok : {A E P : Type 0} (r : Result A E) → P → OnOk r P
always-ok (Ok a) p = p
always-ok (Err e) p = tt

-- a value is no fault
pub no-fault : {A E P : Type 0} (a : A) (x : E) → IsErrOf {T = A} (Ok a) x → P
no-fault a x e = let no : ⊥ = cc in absurd no

-- running out of memory is not a failed start
pub no-failure : {A P : Type 0} → IsErrOf {T = A} (Err Memory) Failed → P
no-failure e = let no : ⊥ = cc in absurd no

-- if no start failed, and then none was made, there is no cause of a value
pub cause-ok : {A B : Type 0} (x : A) (y : B) (a b c : ℕ) → HasCause (IsErrOf {T = A} (Ok x) Failed) a b → c ≡ b → HasCause (IsErrOf {T = B} (Ok y) Failed) a c
cause-ok {A} {B} x y a b c h e = cause-none (IsErrOf {T = A} (Ok x) Failed) (IsErrOf {T = B} (Ok y) Failed) a b c h (λ o. no-fault x Failed o) (λ o. no-fault y Failed o) e

-- nor of running out of memory
pub cause-memory : {A B : Type 0} (x : A) (a b c : ℕ) → HasCause (IsErrOf {T = A} (Ok x) Failed) a b → c ≡ b → HasCause (IsErrOf {T = B} (Err Memory) Failed) a c
cause-memory {A} {B} x a b c h e = cause-none (IsErrOf {T = A} (Ok x) Failed) (IsErrOf {T = B} (Err Memory) Failed) a b c h (λ o. no-fault x Failed o) (λ o. no-failure o) e
