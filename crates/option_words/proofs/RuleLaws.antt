-- The options of a command as `clap` holds them: which are found by a name. None has a default, a
-- number or a rule about another option.
use Rattle.std.proofs.Common.{◌≡◌, ◌∙◌, ◌&&◌, ◌||◌, eqb, not, ℕ, Bool, cond, true, false, refl, sym, ap, ap₂, List, [], ◌∷◌, Option, Some, None, map, fold, is_some}
use Rattle.std.specs.List.{find, list_all, list_any}
use Rattle.std.specs.Option.{option_map_or}
use Rattle.std.specs.Str.{bytes_eq}
use Rattle.std.proofs.lemmas.Slice.Eq.{bytes_eq-Decides}
use Rattle.clap.specs.Kinds.{check_kinds, or_else}
use Rattle.clap.specs.Simple.{App, Shape, built, filled, filled_from, is_ready, is_simple, with_index}
use Rattle.clap.specs.Walk.{Row, Rule, Text, arg_by_id, arg_by_index, arg_by_long, arg_by_short, has_long, has_row, is_early_multiple, with_default}
use Rattle.clap.specs.Faults.{check_fault, defaults_fault, has_free_rules, is_free_app, is_simple_and_free}
use Rattle.clap.specs.Takes.{is_given}
use Rattle.option_words.specs.Parse.{option_app, option_rule}

-- an option as it is built
abbrev pub rule : Text → Rule
rule name = with_index 1 (filled (option_rule name))

abbrev pub rules : List Text → List Rule
rules names = map rule names

-- the command as it is built
abbrev pub shape : Text → List Text → Shape
shape command names = record (built (option_app command [])).top { rules = rules names }

rules_built : (names : List Text) → filled_from 1 (map option_rule names) ≡ rules names
rules_built [] = refl
rules_built (name ∷ names) = ap (λ rs. rule name ∷ rs) (rules_built names)

pub app_built : (command : Text) (names : List Text) → built (option_app command names) ≡ record { top = shape command names; subs = [] }
app_built command names =
    let app : List Rule → App = λ rs. record { top = record (built (option_app command [])).top { rules = rs }; subs = [] } in
    ap app (rules_built names)

-- ---- found by a name

pub same_bytes : (text : Text) → bytes_eq text text ≡ true
same_bytes text = (bytes_eq-Decides text text).1 refl

pub equal_texts : (x y : Text) → bytes_eq x y ≡ true → x ≡ y
equal_texts x y same = (bytes_eq-Decides x y).0 same

-- the name is one of the names of the options
abbrev pub is_known : List Text → Text → Bool
is_known names name = list_any (λ n. bytes_eq n name) names

abbrev rule_if : Bool → Text → Option Rule
rule_if known name = cond known (Some (rule name)) None

found_by : (p : Rule → Bool) (name : Text) → ((n : Text) → p (rule n) ≡ bytes_eq n name) → (names : List Text) → find p (rules names) ≡ rule_if (is_known names name) name
found_by p name same [] = refl
found_by p name same (n ∷ names) = go (bytes_eq n name) refl (found_by p name same names)
  where
    go : (b : Bool) → bytes_eq n name ≡ b → find p (rules names) ≡ rule_if (is_known names name) name
        → cond (p (rule n)) (Some (rule n)) (find p (rules names)) ≡ rule_if (bytes_eq n name || is_known names name) name
    go true is later = ap (λ b. cond b (Some (rule n)) (find p (rules names))) (same n ∙ is) ∙ ap (λ m. Some (rule m)) (equal_texts n name is)
        ∙ sym (ap (λ b. rule_if (b || is_known names name) name) is)
    go false is later = ap (λ b. cond b (Some (rule n)) (find p (rules names))) (same n ∙ is) ∙ later
        ∙ sym (ap (λ b. rule_if (b || is_known names name) name) is)

or_false : (b : Bool) → (b || false) ≡ b
or_false true = refl
or_false false = refl

by_long : (names : List Text) (name : Text) → arg_by_long (rules names) name ≡ rule_if (is_known names name) name
by_long names name = found_by (λ a. not (is_some a.index) && has_long a name) name (λ n. or_false (bytes_eq n name)) names

pub long_known : (names : List Text) (name : Text) → is_known names name ≡ true → arg_by_long (rules names) name ≡ Some (rule name)
long_known names name known = by_long names name ∙ ap (λ b. rule_if b name) known

pub long_unknown : (names : List Text) (name : Text) → is_known names name ≡ false → arg_by_long (rules names) name ≡ None
long_unknown names name unknown = by_long names name ∙ ap (λ b. rule_if b name) unknown

pub id_known : (names : List Text) (name : Text) → is_known names name ≡ true → arg_by_id (rules names) name ≡ Some (rule name)
id_known names name known = found_by (λ a. bytes_eq a.id name) name (λ n. refl) names ∙ ap (λ b. rule_if b name) known

found_never : (p : Rule → Bool) → ((n : Text) → p (rule n) ≡ false) → (names : List Text) → find p (rules names) ≡ None
found_never p never [] = refl
found_never p never (n ∷ names) = ap (λ b. cond b (Some (rule n)) (find p (rules names))) (never n) ∙ found_never p never names

pub no_short : (names : List Text) (x : ℕ) → arg_by_short (rules names) x ≡ None
no_short names x = found_never (λ a. not (is_some a.index) && (option_map_or (λ s. eqb s x) a.short false || list_any (λ alias. eqb alias x) a.short_aliases)) (λ n. refl) names

pub no_index : (names : List Text) (i : ℕ) → arg_by_index (rules names) i ≡ None
no_index names i = found_never (λ a. option_map_or (λ k. eqb k i) a.index false) (λ n. refl) names

-- ---- at the end

pub no_default_fault : (names : List Text) (rows : List Row) → defaults_fault rows (rules names) ≡ []
unfolding defaults_fault
no_default_fault [] rows = refl
no_default_fault (n ∷ names) rows = go (has_row n rows) (no_default_fault names rows)
  where
    go : (b : Bool) → defaults_fault rows (rules names) ≡ []
        → or_else (cond (b || true) [] []) (defaults_fault (cond b rows rows) (rules names)) ≡ []
    go true later = later
    go false later = later

pub no_default : (names : List Text) (rows : List Row) → fold with_default rows (rules names) ≡ rows
no_default [] rows = refl
no_default (n ∷ names) rows = go (has_row n rows) (no_default names rows)
  where
    go : (b : Bool) → fold with_default rows (rules names) ≡ rows → fold with_default (cond b rows rows) (rules names) ≡ rows
    go true later = later
    go false later = later

none_of : (p : Rule → Bool) → ((n : Text) → p (rule n) ≡ false) → (names : List Text) → list_any p (rules names) ≡ false
none_of p never [] = refl
none_of p never (n ∷ names) = ap (λ b. b || list_any p (rules names)) (never n) ∙ none_of p never names

all_of : (p : Rule → Bool) (f : Text → Rule) → ((n : Text) → p (f n) ≡ true) → (names : List Text) → list_all p (map f names) ≡ true
all_of p f always [] = refl
all_of p f always (n ∷ names) = ap (λ b. b && list_all p (map f names)) (always n) ∙ all_of p f always names

-- no option is required
pub no_check_fault : (command : Text) (names : List Text) (rows : List Row) → check_fault (shape command names) rows false ≡ []
no_check_fault command names rows =
    ap (λ b. check_kinds false false b) (none_of (λ a. a.required && not (is_given a.id rows)) (λ n. refl) names)

-- ---- the definitions of `clap` give the matches and the faults of this command

in_order : (names : List Text) (k : ℕ) → list_any (is_early_multiple k) (rules names) ≡ false
in_order names k = none_of (is_early_multiple k) (λ n. refl) names

pub is_simple_app : (command : Text) (names : List Text) → is_simple (option_app command names) ≡ true
is_simple_app command names =
    let simple_rules : (f : Text → Rule) → ((n : Text) → (f n).is_simple ≡ true) → list_all (λ (a : Rule). a.is_simple) (map f names) ≡ true = λ f always. all_of (λ a. a.is_simple) f always names in
    let ready : is_ready (shape command names) ≡ true =
    ap₂ (λ a b. a && not b) (simple_rules rule (λ n. refl)) (in_order names _) in
    ap₂ (λ a b. (a && true) && (b && true)) (simple_rules option_rule (λ n. refl)) (ap (λ (a : App). is_ready a.top) (app_built command names) ∙ ready)

pub is_simple_and_free_app : (command : Text) (names : List Text) → is_simple_and_free (option_app command names) ≡ true
is_simple_and_free_app command names =
    let free : has_free_rules (shape command names) ≡ true = all_of (λ a. a.is_free) rule (λ n. refl) names in
    ap₂ (λ a b. a && b) (is_simple_app command names) (ap is_free_app (app_built command names) ∙ ap (λ b. b && true) free)
