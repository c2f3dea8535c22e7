-- What contracts know of tokens at one moment of a walk.
use Rattle.std.proofs.Common.{◌≡◌, ◌<◌, ◌≤◌, ◌+◌, ℕ, ℤ, Bool, true, false, cond, List, [], ◌∷◌, Option, None, Some, ap, arith, subst}
use Rattle.std.specs.List.{slice_get}
use Rattle.hive_model.specs.Keys.{KeyParts, key}
use Rattle.certificate_walks.specs.Items.{Supply}
use Rattle.certificate_walks.specs.Taking.{Moment, moment_of}
use Rattle.certificate_walks.specs.Answers.{looked}
use Rattle.certificate_walks.specs.Follows.{CarriesOn}
use Rattle.certificate_walks.specs.Walks.{WalkEnd, Left, Fault, Halt, Step, Below, Ends}
use Rattle.strategy_lemmas.specs.declared.lemmas.Lemma.{Lemma}
use Rattle.strategy_lemmas.specs.Lemmas.{serves}
use Rattle.strategy_lemmas.specs.declared.tokens.Token.{Token}
use Rattle.strategy_lemmas.specs.declared.tokens.Token.TheVariants.{Index, Cite}
use Rattle.strategy_lemmas.specs.declared.tokens.WhyCited.{WhyCited}
use Rattle.strategy_lemmas.specs.declared.tokens.WhyCited.TheVariants.{BadCite, TooShort}
use Rattle.strategy_lemmas.specs.Cited.{CitedSteps, cited_steps, cites, take_token, cite_rules}
use Rattle.strategy_lemmas.specs.CitedChecks.{cited_faults, cited_sight}
use Rattle.strategy_lemmas.specs.declared.cited_walk.CiteWalk.{CiteWalk}

-- the moment of a walk over tokens, given what is known of them
abbrev pub cited_moment : {T : Type 0} → (T → Supply Token) → CiteWalk T → Moment Token
cited_moment supply walk =
    moment_of (walk.tokens.ghost_name ∷ walk.lemmas.ghost_name ∷ []) walk.taken
    (supply walk.tokens.now)

-- ---- its laws

-- a citation ends the walk of its node
never-below : (k : KeyParts) (e : ℕ) (x : ℤ) (o : Option Lemma) (xs : List (Option Token)) (n i : ℕ)
    (ls : List Lemma) (t : CitedSteps) → cites k e x o xs n ls ≡ Below i t → ⊥
never-below k e x None xs n i ls t h = cc
never-below k e x (Some l) xs n i ls t h = cc

below-on : (k : KeyParts) (e : ℕ) (x : ℤ) (xs : List (Option Token)) (n i : ℕ) (ls : List Lemma)
    (t : CitedSteps) → take_token k e x xs n ls ≡ Below i t → n ≤ t.taken
below-on k e x [] n i ls t h = cc
below-on k e x (None ∷ xs) n i ls t h = cc
below-on k e x (Some (Index j) ∷ xs) n i ls t h =
    let same : cited_steps xs (n + 1) ls ≡ t = cc in
    let more : n + 1 ≡ t.taken = ap (λ (u : CitedSteps). u.taken) same in
    omega (arith, more)
below-on k e x (Some (Cite j) ∷ xs) n i ls t h =
    absurd (never-below k e x (slice_get ls j) xs (n + 1) i ls t h)

-- the walk looks for more than n tokens
abbrev LooksPast : ℕ → WalkEnd CitedSteps WhyCited → Type 0
LooksPast n o = n < looked cited_faults (λ s. s.taken) o

served-on : (test : Bool) (xs : List (Option Token)) (n : ℕ) (ls : List Lemma)
    → LooksPast n (cond test (Left (cited_steps xs (n + 1) ls)) (Fault BadCite (n + 1)))
served-on true xs n ls = omega arith
served-on false xs n ls = omega arith

pub cites-on : (k : KeyParts) (e : ℕ) (x : ℤ) (l : Option Lemma) (xs : List (Option Token)) (n : ℕ)
    (ls : List Lemma) (o : WalkEnd CitedSteps WhyCited) → cites k e x l xs (n + 1) ls ≡ Ends o
    → LooksPast n o
cites-on k e x None xs n ls o h =
    let same : Fault BadCite (n + 1) ≡ o = cc in
    subst (LooksPast n) same (omega arith)
cites-on k e x (Some l) xs n ls o h =
    let same :
    cond (serves k e x l) (Left (cited_steps xs (n + 1) ls)) (Fault BadCite (n + 1)) ≡ o = cc in
    subst (LooksPast n) same (served-on (serves k e x l) xs n ls)

ends-on : (k : KeyParts) (e : ℕ) (x : ℤ) (xs : List (Option Token)) (n : ℕ) (ls : List Lemma)
    (o : WalkEnd CitedSteps WhyCited) → take_token k e x xs n ls ≡ Ends o → LooksPast n o
ends-on k e x [] n ls o h =
    let same : Fault TooShort n ≡ o = cc in
    subst (LooksPast n) same (omega arith)
ends-on k e x (None ∷ xs) n ls o h =
    let same : Halt n ≡ o = cc in
    subst (LooksPast n) same (omega arith)
ends-on k e x (Some (Index j) ∷ xs) n ls o h = cc
ends-on k e x (Some (Cite j) ∷ xs) n ls o h = cites-on k e x (slice_get ls j) xs n ls o h

-- however a walk goes on, it looks for no fewer tokens
pub cite-carries_on : CarriesOn cite_rules cited_sight
cite-carries_on = record {
  leaf = λ s n h. omega (arith, h);
  place = λ s n h. omega (arith, h);
  below = λ p e x i s t took n h.
      let on = below-on (key p) e x s.left s.taken i s.lemmas t took in
      omega (arith, h, on);
  ends = λ p e x s o took n h.
      let past = ends-on (key p) e x s.left s.taken s.lemmas o took in
      omega (arith, h, past);
  keep = λ p e x s n h. h;
}
