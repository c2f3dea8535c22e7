-- The values that the words give the options of a command are the values that a parse of them finds.
use Rattle.std.proofs.Common.{◌≡◌, ◌∙◌, inl, inr, ◌<◌, zero, suc, not, arith, Bool, cond, true, false, refl, sym, ap, ap₂, subst, List, [], ◌∷◌, Option, Some, None, IfSome, length, map, option_map}
use Rattle.std.specs.Prelude.{option_and_then, slice_get}
use Rattle.std.specs.Borrow.{Bor}
use Rattle.std.specs.List.{All, find}
use Rattle.std.specs.Str.{bytes_eq}
use Rattle.hive_model.specs.Lists.{IsOn}
use Rattle.hive_model.proofs.NearLaws.{map_has}
use Rattle.hive_model.proofs.RuleLaws.{any_has, has_any, on_map}
use Rattle.clap.specs.Faults.{built_fault}
use Rattle.clap.specs.Simple.{App, names_of}
use Rattle.clap.specs.Walk.{Row, Text, first_of, nothing_held, rows_after}
use borrow.Author.Tests.{ltb-true}
use Rattle.clap.proofs.FaultLemmas.{leaf_fault}
use Rattle.clap.proofs.WalkLemmas.{both}
use Rattle.option_words.specs.Options.{AreDifferent, AreItems, Gives, IsValue, Item, are_names, value_of, values_of}
use Rattle.option_words.specs.Parse.{parsed, unless_fault, values_in}
use Rattle.option_words.proofs.RuleLaws.{app_built, equal_texts, is_known, same_bytes, shape}
use Rattle.option_words.proofs.PlaceLaws.{HasNoDashes, after, outcome}
use Rattle.option_words.proofs.ReadLaws.{Reads, differ_bytes, items_found, row_of, walk_reads}

-- ---- the parse and the walk

parsed_is : (command : Text) (names words : List Text) → parsed command names words ≡ option_map (values_in names) (outcome command names (after []) words)
unfolding parsed
parsed_is command names words =
    let faults = ap (λ a. built_fault a nothing_held words) (app_built command names) ∙ leaf_fault (record { top = shape command names; subs = [] }) nothing_held words refl in
    let rows = ap (λ (a : App). rows_after a.top.rules (names_of a) words) (app_built command names) in
    ap (option_map (values_in names)) (ap₂ unless_fault faults rows)

-- ---- the values of items

found_value : (items : List Item) (name : Text) → first_of name (map row_of items) ≡ value_of items name
found_value [] name = refl
found_value (item ∷ items) name = go (bytes_eq item.name name) (found_value items name)
  where
    go : (b : Bool) → first_of name (map row_of items) ≡ value_of items name
        → option_and_then (λ (r : Row). slice_get r.values 0) (cond b (Some (row_of item)) (find (λ (r : Row). bytes_eq r.id name) (map row_of items)))
        ≡ option_map (λ (i : Item). i.value) (cond b (Some item) (find (λ (i : Item). bytes_eq i.name name) items))
    go true later = refl
    go false later = later

values_are : (items : List Item) (names : List Text) → values_in names (map row_of items) ≡ map (value_of items) names
values_are items [] = refl
values_are items (name ∷ names) = ap₂ (λ v vs. v ∷ vs) (found_value items name) (values_are items names)

-- an item among different ones gives its option its value
item_gives : (items : List Item) (item : Item) → AreDifferent items → IsOn items item → value_of items item.name ≡ Some item.value
item_gives [] item once none = absurd none
item_gives (first ∷ items) item once (inl is) =
    ap (λ b. option_map (λ (i : Item). i.value) (cond b (Some first) (find (λ (i : Item). bytes_eq i.name item.name) items)))
    (ap (λ (i : Item). bytes_eq first.name i.name) (sym is) ∙ same_bytes first.name) ∙ ap (λ (i : Item). Some i.value) is
item_gives (first ∷ items) item once (inr later) =
    ap (λ b. option_map (λ (i : Item). i.value) (cond b (Some first) (find (λ (i : Item). bytes_eq i.name item.name) items)))
    (differ_bytes first.name item.name (λ same. once.0 item later (sym same))) ∙ item_gives items item once.1 later

-- a value that items give belongs to one of them
value_from : (items : List Item) (name v : Text) → value_of items name ≡ Some v → (item : Item) × IsOn items item × (item.value ≡ v)
value_from [] name v none = cc
value_from (item ∷ items) name v is = go (bytes_eq item.name name) (value_from items name v) is
  where
    go : (b : Bool) → (value_of items name ≡ Some v → (i : Item) × IsOn items i × (i.value ≡ v))
        → option_map (λ (i : Item). i.value) (cond b (Some item) (find (λ (i : Item). bytes_eq i.name name) items)) ≡ Some v
        → (i : Item) × IsOn (item ∷ items) i × (i.value ≡ v)
    go true later here = let same : Some item.value ≡ Some v = here in (item, inl refl, cc)
    go false later there = let found = later there in (found.0, inr found.1, found.2)

item_value : (items : List Item) (words : List Text) (item : Item) → AreItems words items → IsOn items item → IsValue item.value
item_value [] words item are none = absurd none
item_value (first ∷ items) words item are (inl is) = subst (λ (i : Item). IsValue i.value) is are.2.value
item_value (first ∷ items) words item are (inr later) = item_value items are.0 item are.3 later

-- ---- names

known_on : (names : List Text) (name : Text) → is_known names name ≡ true → IsOn names name
known_on names name known =
    let found = any_has (λ n. bytes_eq n name) names known in
    subst (IsOn names) (equal_texts found.0 name found.2) found.1

on_known : (names : List Text) (name : Text) → IsOn names name → is_known names name ≡ true
on_known names name on = has_any (λ n. bytes_eq n name) names name on (same_bytes name)

on_long : (names : List Text) (name : Text) → are_names names ≡ true → IsOn names name → 0 < length name
on_long [] name all none = absurd none
on_long (n ∷ names) name all (inl is) = subst (λ t. 0 < length t) is (ltb-true 0 (length n) (both _ _ all).0)
on_long (n ∷ names) name all (inr later) = on_long names name (both _ _ all).1 later

-- ---- both ways

-- each value that is present is of its form
abbrev pub AreValues : List (Option Text) → Type 0
AreValues values = (v : Text) → IsOn values (Some v) → IsValue v

-- The values that a parse finds are given, if they are of their form.
pub parsed_gives : (command : Text) (names words rest : List Text) (values : List (Option Text)) → words ≡ command ∷ rest → HasNoDashes rest
    → parsed command names rest ≡ Some values → AreValues values → Gives words command names values
parsed_gives command names words rest values begin no_dashes finds are = go (outcome command names (after []) rest) refl (sym (parsed_is command names rest) ∙ finds)
  where
    gives : (rows : List Row) → values_in names rows ≡ values → Reads names [] rest rows → Gives words command names values
    gives rows same r =
        let all : values ≡ map (value_of r.items) names = sym same ∙ ap (values_in names) r.found_is ∙ values_are r.items names in
        let value : (item : Item) → IsOn r.items item → IsValue item.value = λ item on.
        let here : IsOn (map (value_of r.items) names) (value_of r.items item.name) = on_map (value_of r.items) names item.name (known_on names item.name (r.known item on)) in
        are item.value (subst (λ vs. IsOn vs (Some item.value)) (sym all) (subst (IsOn (map (value_of r.items) names)) (item_gives r.items item r.once on) here)) in
        record {
          items = r.items;
          ask = record {
            rest = rest;
            begin = begin;
            are_items = r.are_items value;
            known = λ item on. known_on names item.name (r.known item on);
            once = r.once;
          };
          values_are = all;
        }

    go : (o : Option (List Row)) → outcome command names (after []) rest ≡ o → option_map (values_in names) o ≡ Some values → Gives words command names values
    go None is none = cc
    go (Some rows) is some = let same : Some (values_in names rows) ≡ Some values = some in gives rows (cc) (walk_reads command names rest [] rows no_dashes is)

-- the same for values as the program holds them
pub all_values : (xs : List (Option (Bor Text))) → All (λ x. IfSome x (λ t. IsValue t.now)) xs → AreValues (values_of xs)
all_values [] all v none = absurd none
all_values (None ∷ xs) all v (inl is) = let none : None ≡ Some v = is in cc
all_values (None ∷ xs) all v (inr later) = all_values xs (λ k d lt. all (suc k) d (omega (arith, lt))) v later
all_values (Some t ∷ xs) all v (inl is) = let same : Some t.now ≡ Some v = is in let texts : t.now ≡ v = cc in subst IsValue texts (all 0 (Some t) (omega arith))
all_values (Some t ∷ xs) all v (inr later) = all_values xs (λ k d lt. all (suc k) d (omega (arith, lt))) v later

pub values_all : (xs : List (Option (Bor Text))) → AreValues (values_of xs) → All (λ x. IfSome x (λ t. IsValue t.now)) xs
values_all [] are k d lt = absurd (omega (arith, lt))
values_all (None ∷ xs) are zero d lt = tt
values_all (Some t ∷ xs) are zero d lt = are t.now (inl refl)
values_all (x ∷ xs) are (suc k) d lt = values_all xs (λ v on. are v (inr on)) k d (omega (arith, lt))

-- ---- the answers

same_command : (first command : Text) → false ≡ not (bytes_eq first command) → first ≡ command
same_command first command same = equal_texts first command (go (bytes_eq first command) same)
  where
    go : (b : Bool) → false ≡ not b → b ≡ true
    go true e = refl
    go false e = cc

-- the values that are found after the command, if they are of their form and no word is `--`
pub found_gives : (command first : Text) (names words rest : List Text) (values : List (Option Text)) → words ≡ first ∷ rest → false ≡ not (bytes_eq first command)
    → HasNoDashes rest → parsed command names rest ≡ Some values → AreValues values → Gives words command names values
found_gives command first names words rest values begin same = parsed_gives command names words rest values (begin ∙ ap (λ f. f ∷ rest) (same_command first command same))

-- The answer for words that give values.
pub record IsFound (command first : Text) (names rest : List Text) (values : List (Option Text)) : Type 0 where
  pub command_is : first ≡ command
  pub no_dashes : HasNoDashes rest
  pub finds : parsed command names rest ≡ Some values
  pub are : AreValues values

pub given_found : (command first : Text) (names words rest : List Text) (values : List (Option Text)) → are_names names ≡ true → words ≡ first ∷ rest
    → Gives words command names values → IsFound command first names rest values
given_found command first names words rest values named begin give =
    let ask = give.ask in
    let both : first ∷ rest ≡ command ∷ ask.rest = sym begin ∙ ask.begin in
    let same : ask.rest ≡ rest = cc in
    let walk = items_found command names give.items [] ask.rest ask.are_items (λ item on. on_known names item.name (ask.known item on))
    (λ item on. on_long names item.name named (ask.known item on)) ask.once (λ item on. refl) in
    record {
      command_is = cc;
      no_dashes = subst HasNoDashes same walk.0;
      finds = ap (parsed command names) (sym same) ∙ parsed_is command names ask.rest ∙ ap (option_map (values_in names)) walk.1
          ∙ ap Some (values_are give.items names ∙ sym give.values_are);
      are = λ v on.
          let here = map_has (value_of give.items) names (Some v) (subst (λ vs. IsOn vs (Some v)) give.values_are on) in
          let from = value_from give.items here.0 v here.2 in
          subst IsValue from.2 (item_value give.items ask.rest from.0 ask.are_items from.1);
    }

-- words that begin with another word than the command give nothing
pub other_command : (command first : Text) (names words rest : List Text) (values : List (Option Text)) → words ≡ first ∷ rest → true ≡ not (bytes_eq first command)
    → Gives words command names values → ⊥
other_command command first names words rest values begin differs give =
    let both : first ∷ rest ≡ command ∷ give.ask.rest = sym begin ∙ give.ask.begin in
    let same : first ≡ command = cc in
    let bad : true ≡ false = differs ∙ ap (λ f. not (bytes_eq f command)) same ∙ ap not (same_bytes command) in cc
