use Rattle.std.proofs.Common.{◌≡◌, ◌∙◌, Bool, String, sym, ap, map, List, ℕ, ◌∷◌, string_bytes, true, false, codes, None, Some, option_map, subst, rules}
use Rattle.std.specs.Str.{bytes_eq}
use Rattle.clap.proofs.WalkLemmas.{list_any-map}
use Rattle.option_words.proofs.GiveLaws.{AreValues, all_values, found_gives, given_found, other_command, values_all}
use Rattle.option_words.specs.Options.{Gives, names_of, values_of}
use Rattle.option_words.proofs.option.options_of.Goals.{then-ne-via-then-ne, then-ne-via-else-ne+then-has_dashes}
use Rattle.option_words.proofs.option.options_of.Goals as goal

-- the words as texts, from the first word and the others
texts_are : {Z : Type 0} (words rest : List (String Z)) (first : String Z) (text : List ℕ) → words ≡ first ∷ rest → text ≡ string_bytes first
    → map string_bytes words ≡ text ∷ map string_bytes rest
texts_are words rest first text begin is = ap (map string_bytes) begin ∙ ap (λ f. f ∷ map string_bytes rest) (sym is)

abbrev is_dashes : List ℕ → Bool
is_dashes word = bytes_eq word (codes "--")

pub returns-then-ne-clause-only : goal.returns-then-ne-clause-only
returns-then-ne-clause-only c values give =
    let begin = texts_are _ _ _ _ c.in-Some.ensures.cases.0 c.as_str.ensures.value in
    let names = names_of c.args.options.now in
    elim c.then-ne.branch [
      | then-ne-via-then-ne w ↦ other_command _ _ names _ _ values begin w.if-ne.ensures give
      | then-ne-via-else-ne+then-has_dashes w ↦
          let none = (given_found _ _ names _ _ values c.requires begin give).no_dashes in
          let some : true ≡ false = w.if-has_dashes.ensures ∙ list_any-map is_dashes string_bytes c.in-Some.rest.now ∙ none in cc
    ]

pub returns-in_default-2-clause-only : goal.returns-in_default-2-clause-only
returns-in_default-2-clause-only c values give =
    let begin = texts_are _ _ _ _ c.in-Some.ensures.cases.0 c.as_str.ensures.value in
    let finds = (given_found _ _ (names_of c.args.options.now) _ _ values c.requires begin give).finds in
    let none : None ≡ Some values = sym (ap (option_map (λ v. values_of v.items)) c.in_default-2.is) ∙ c.in_ok-values.ensures ∙ finds in cc

pub returns-then-not-are_values-clause-only : goal.returns-then-not-are_values-clause-only
returns-then-not-are_values-clause-only c values give =
    let begin = texts_are _ _ _ _ c.in-Some.ensures.cases.0 c.as_str.ensures.value in
    let given = given_found _ _ (names_of c.args.options.now) _ _ values c.requires begin give in
    let both : Some (values_of c.in-Some-2.values.items) ≡ Some values =
    sym (ap (option_map (λ v. values_of v.items)) c.in-Some-2.is) ∙ c.in_ok-values.ensures ∙ given.finds in
    let slice = ap values_of c.as_slice.ensures.value in
    let same : values ≡ values_of c.as_slice.result.now = cc in
    let is_true : false ≡ true = c.if-not-are_values.ensures.1 (values_all c.as_slice.result.now (subst AreValues same given.are)) in cc

pub returns-clause-values : goal.returns-clause-values
returns-clause-values c =
    let begin = texts_are _ _ _ _ c.in-Some.ensures.cases.0 c.as_str.ensures.value in
    let no_dashes = sym (c.if-has_dashes.ensures ∙ list_any-map is_dashes string_bytes c.in-Some.rest.now) in
    let finds = sym c.in_ok-values.ensures ∙ ap (option_map (λ v. values_of v.items)) c.in-Some-2.is in
    let are = all_values c.as_slice.result.now (c.if-not-are_values.ensures.0 (search rules)) in
    subst (Gives _ _ _) (sym c.new.ensures)
    (found_gives _ _ (names_of c.args.options.now) _ _ (values_of c.in-Some-2.values.items) begin c.if-ne.ensures no_dashes finds (subst AreValues (ap values_of c.as_slice.ensures.value) are))

pub returns-clause-only : goal.returns-clause-only
returns-clause-only c values give =
    let begin = texts_are _ _ _ _ c.in-Some.ensures.cases.0 c.as_str.ensures.value in
    let given = given_found _ _ (names_of c.args.options.now) _ _ values c.requires begin give in
    let both : Some (values_of c.in-Some-2.values.items) ≡ Some values =
    sym (ap (option_map (λ v. values_of v.items)) c.in-Some-2.is) ∙ c.in_ok-values.ensures ∙ given.finds in
    c.new.ensures ∙ (cc)
