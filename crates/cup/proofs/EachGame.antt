-- From each place of two lists to the whole lists.
use Rattle.std.specs.Prelude.{is_none, IfOk}
use Rattle.std.specs.Result.{result_ok}
use Rattle.std.proofs.Common.{◌≡◌, ◌≢◌, inl, inr, ℕ, zero, suc, ◌<◌, List, [], ◌∷◌, length, map, ap, ◌∙◌, arith, Option, Some, None, IsSomeAnd, Result, Ok, Err, OnOk, refl, subst, true, false}
use Rattle.std.specs.List.{All, AllZip, slice_index_or}
use Rattle.std.proofs.lemmas.List.Elements.{All-nil, All-cons, All-head, All-tail}
use Rattle.match_runner.specs.Runs.{IsJudged}
use Rattle.cup.specs.Played.{Job, IsPlayed, IsPlayedOrNot, HasVerdict}

-- R holds at each place of two lists
abbrev pub AtEach : {A : Type 0} → (A → A → Type 0) → List A → List A → Type 0
AtEach {A} R xs ys = (i : ℕ) (d : A) → i < length xs → R (slice_index_or xs i d) (slice_index_or ys i d)

pub zip-each : {A : Type 0} (R : A → A → Type 0) (xs ys : List A) → length ys ≡ length xs → AtEach R xs ys → AllZip R xs ys
zip-each R [] [] long each = tt
zip-each R [] (y ∷ ys) long each = absurd (omega (arith, long))
zip-each R (x ∷ xs) [] long each = absurd (omega (arith, long))
zip-each R (x ∷ xs) (y ∷ ys) long each = (each zero x (omega arith), zip-each R xs ys (omega (arith, long)) (λ i d h. each (suc i) d (omega (arith, h))))

pub same-map : {A B : Type 0} (R : A → A → Type 0) (f : A → B) → ((x y : A) → R x y → f y ≡ f x) → (xs ys : List A) → AllZip R xs ys → map f ys ≡ map f xs
same-map R f same [] [] all = refl
same-map R f same [] (y ∷ ys) all = absurd all
same-map R f same (x ∷ xs) [] all = absurd all
same-map R f same (x ∷ xs) (y ∷ ys) all = ap (λ v. v ∷ map f ys) (same x y all.0) ∙ ap (λ vs. f x ∷ vs) (same-map R f same xs ys all.1)

-- if each game has a referee, each was played
pub all-run : (xs ys : List Job) → AllZip IsPlayedOrNot xs ys → All (λ j. j.referee ≢ None) ys → AllZip IsPlayed xs ys
all-run [] [] all some = tt
all-run [] (y ∷ ys) all some = absurd all
all-run (x ∷ xs) [] all some = absurd all
all-run (x ∷ xs) (y ∷ ys) all some =
    (elim all.0 [ inl none ↦ absurd (All-head (λ j. j.referee ≢ None) y ys some none) | inr played ↦ played ], all-run xs ys all.1 (All-tail (λ j. j.referee ≢ None) y ys some))

some-weaker : {A : Type 0} (P Q : A → Type 0) → ((a : A) → P a → Q a) → (o : Option A) → IsSomeAnd o P → IsSomeAnd o Q
some-weaker P Q weaker None all = absurd all
some-weaker P Q weaker (Some a) all = weaker a all

-- what was played has a verdict
pub all-judged : (xs ys : List Job) → AllZip IsPlayed xs ys → All HasVerdict ys
all-judged [] [] all = All-nil HasVerdict
all-judged [] (y ∷ ys) all = absurd all
all-judged (x ∷ xs) [] all = absurd all
all-judged (x ∷ xs) (y ∷ ys) all = All-cons HasVerdict y ys (some-weaker _ IsJudged (λ r refereed. refereed.links.judged) y.referee all.0) (all-judged xs ys all.1)

pub zip-weaker : {A : Type 0} (R S : A → A → Type 0) → ((x y : A) → R x y → S x y) → (xs ys : List A) → AllZip R xs ys → AllZip S xs ys
zip-weaker R S weaker [] [] all = tt
zip-weaker R S weaker [] (y ∷ ys) all = absurd all
zip-weaker R S weaker (x ∷ xs) [] all = absurd all
zip-weaker R S weaker (x ∷ xs) (y ∷ ys) all = (weaker x y all.0, zip-weaker R S weaker xs ys all.1)

pub if-on-ok : {A E : Type 0} (P Q : Type 0) (r : Result A E) → (P → Q) → OnOk r P → OnOk r Q
if-on-ok P Q (Ok a) f p = f p
if-on-ok P Q (Err e) f p = tt

-- the referee that a run answers is kept
pub ok_some : {A E : Type 0} (P Q : A → Type 0) (r : Result A E) (o : Option A) → o ≡ result_ok r → is_none o ≡ false → IfOk r P → ((a : A) → P a → Q a) → IsSomeAnd o Q
ok_some P Q (Ok a) o e some p f = rw e (f a p)
ok_some P Q (Err x) o e some p f = let none : true ≡ false = subst (λ o. is_none o ≡ false) e some in absurd (cc)
