-- The texts of programs.
use Rattle.std.proofs.Common.{◌≡◌, ◌∙◌, ◌<◌, ◌≤◌, ◌↔◌, ap, sym, subst, arith, ℕ, Bool, false, List, [], ◌∷◌, All, Bor, length, get_or, map, nat_eq, IsTrue, MatchOption, Option, Some, option_map}
use Rattle.std.specs.List.{AllByRecursion, IsDistinct}
use Rattle.std.specs.Cmp.{IsEquivalence}
use Rattle.std.specs.HashSet.{HashSet, IsFromIterResult, hash_set_len}
use Rattle.std.specs.Str.{bytes_eq}
use Rattle.std.proofs.lemmas.Bool.{eq-eqb, eqb-true}
use Rattle.std.proofs.lemmas.Cmp.{nat_list_eq_equiv, on_equiv}
use Rattle.std.proofs.lemmas.List.{get_or-map, length-map}
use Rattle.std.proofs.lemmas.Map.Made.{AllPairs-from_IsDistinct, IsDistinct-from_AllPairs, IsDistinct-from_count, distinct_count-from_IsDistinct, hash_set_len-from_list}
use Rattle.std.proofs.lemmas.Slice.Eq.{bytes_eq-Decides}
use Rattle.cup.specs.Engines.{Engine}
use Rattle.option_words.specs.Options.{value_at}
use Rattle.command_words.specs.Engines.{AreDistinct, ArePrograms, engine_of, program_texts}
use Rattle.command_words.specs.Matches.{IsProgram}
use Rattle.command_words.proofs.GivenLemmas.{some_given, values_are}

-- the texts that are lent
abbrev pub lent : List (Bor (List ℕ)) → List (List ℕ)
lent texts = map (λ one. one.now) texts

-- the test of two texts that are lent
abbrev pub same : Bor (List ℕ) → Bor (List ℕ) → Bool
same a b = bytes_eq a.now b.now

-- each of them is a program, so this one is
pub each_at : (texts : List (Bor (List ℕ))) (i : ℕ) (d : Bor (List ℕ)) → i < length texts → All IsProgram (lent texts) → IsProgram (get_or texts i d).now
each_at texts i d l h =
    let here : i < length (lent texts) = let e = length-map texts (λ (one : Bor (List ℕ)). one.now) in omega (arith, e, l) in
    subst IsProgram (get_or-map (λ (one : Bor (List ℕ)). one.now) texts i d [] l) (h i [] here)

-- a text differs from each that is lent
apart : (text : List ℕ) (texts : List (Bor (List ℕ))) → AllByRecursion (λ y. bytes_eq text y.now ≡ false) texts ↔ AllByRecursion (λ y. bytes_eq text y ≡ false) (lent texts)
apart text [] = (λ h. tt, λ h. tt)
apart text (y ∷ ys) = let later = apart text ys in (λ h. (h.0, later.0 h.1), λ h. (h.0, later.1 h.1))

distinct : (texts : List (Bor (List ℕ))) → IsDistinct same texts ↔ IsDistinct bytes_eq (lent texts)
unfolding IsDistinct
distinct [] = (λ h. tt, λ h. tt)
distinct (x ∷ xs) =
    let front = apart x.now xs in
    let later = distinct xs in
    (λ h. (front.0 h.0, later.0 h.1), λ h. (front.1 h.0, later.1 h.1))

-- a set of texts has as many elements as were put into it exactly if no two of them are equal
pub as_many : {S : Type 0} (texts : List (Bor (List ℕ))) (set : HashSet (Bor (List ℕ)) S) → IsFromIterResult same texts set → IsTrue (nat_eq (hash_set_len set) (length texts)) ↔ AreDistinct (lent texts)
as_many texts set h =
    let laws : IsEquivalence same = on_equiv (λ r. r.now) nat_list_eq_equiv in
    let count = hash_set_len-from_list laws texts set h in (
      λ e. AllPairs-from_IsDistinct bytes_eq-Decides (lent texts) ((distinct texts).0 (IsDistinct-from_count laws texts (sym count ∙ eqb-true _ _ e))),
      λ a. eq-eqb _ _ (count ∙ distinct_count-from_IsDistinct laws texts ((distinct texts).1 (IsDistinct-from_AllPairs bytes_eq-Decides (lent texts) a))),
    )

-- the text that was read is the first of the values that were given
pub text_read : {found : Option (List (Option (List ℕ)))} {given : List (Option (List ℕ))} {value : Option (Bor (List ℕ))} {read : Bor (List ℕ)} (text : List ℕ) (rest : List (Option (List ℕ)))
    → found ≡ Some given → MatchOption found ⊥ (λ g. g ≡ Some text ∷ rest) → value ≡ Some read → option_map (λ r. r.now) value ≡ value_at given 0 → read.now ≡ text
text_read {value = value} {read = read} text rest is only here first = some_given value read text here (first ∙ ap (λ g. value_at g 0) (values_are is only))

-- there are as many programs as texts
engines_counted : (engines : List Engine) (read text : List ℕ) → engines ≡ map engine_of (program_texts read) → read ≡ text → length engines ≡ length (program_texts text)
engines_counted engines read text e t = ap length e ∙ (length-map (program_texts read) engine_of ∙ ap (λ r. length (program_texts r)) t)

pub engines_some : {most : ℕ} (engines : List Engine) (read text : List ℕ) → engines ≡ map engine_of (program_texts read) → read ≡ text → ArePrograms most text → 2 ≤ length engines
engines_some engines read text e t programs =
    let count = engines_counted engines read text e t in
    let some = programs.some in omega (arith, count, some)

pub engines_few : {most : ℕ} (engines : List Engine) (read text : List ℕ) → engines ≡ map engine_of (program_texts read) → read ≡ text → ArePrograms most text → length engines ≤ most
engines_few engines read text e t programs =
    let count = engines_counted engines read text e t in
    let few = programs.few in omega (arith, count, few)
