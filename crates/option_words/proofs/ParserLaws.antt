-- The parser of the options of a command, and its answers.
use Rattle.std.proofs.Common.{◌≡◌, ◌≢◌, ◌∙◌, ◌<◌, ◌+◌, ◌++◌, ℕ, inl, inr, true, false, refl, sym, ap, ap₂, subst, List, [], ◌∷◌, Option, Some, None, length, map, option_map, take}
use Rattle.std.specs.Borrow.{Bor}
use Rattle.std.specs.List.{slice_index_or}
use Rattle.std.proofs.lemmas.List.{map-append, take_more}
use Rattle.clap.specs.Kinds.{HasKind, Kinds}
use Rattle.clap.specs.Matches.{first_value, found_of}
use Rattle.clap.specs.Values.{kind_of}
use Rattle.clap.specs.Faults.{fault_of, is_simple_and_free}
use Rattle.clap.specs.Simple.{App, HasMatchesOf, app_of, is_simple, matches_of, new_shape, with_rule}
use Rattle.clap.specs.Walk.{Row, Rule, Text, first_of, rows_of, rule_of}
use Rattle.clap.specs.Built.{AddsArg}
use Rattle.clap.specs.declared.builder.arg.Arg.{Arg}
use Rattle.clap.specs.declared.builder.command.Command.{Command}
use Rattle.clap.specs.declared.error.Error.{Error}
use Rattle.clap.specs.declared.error.kind.ErrorKind.TheVariants.{OutOfMemory}
use Rattle.clap.specs.declared.parser.matches.ArgMatches.{ArgMatches}
use Rattle.clap.specs.declared.parser.matches.Found.{Found}
use Rattle.clap.proofs.WalkLemmas.{first_value-rows}
use Rattle.option_words.specs.Options.{names_of}
use Rattle.option_words.specs.Parse.{option_app, option_rule, parsed, unless_fault, values_in}
use Rattle.option_words.proofs.RuleLaws.{is_simple_and_free_app, is_simple_app}

-- the command with one more option
app_more : (command : Text) (names : List Text) (name : Text) → with_rule (option_app command names) (option_rule name) ≡ option_app command (names ++ name ∷ [])
app_more command names name =
    let app : List Rule → App = λ rs. record {
      top = record (new_shape command) { rules = rs; no_binary_name = true; disable_help_flag = true; disable_version_flag = true };
      subs = [];
    } in
    ap app (sym (map-append option_rule names (name ∷ [])))

pub option_added : (command : Text) (options : List (Bor Text)) (i : ℕ) (d : Bor Text) (old new : Command) (value : Arg) → i < length options
    → app_of old ≡ option_app command (names_of (take i options)) → AddsArg old value new → rule_of value ≡ option_rule (slice_index_or options i d).now
    → value.global ≡ false → app_of new ≡ option_app command (names_of (take (i + 1) options))
option_added command options i d old new value lt so_far adds is_rule local =
    adds.shape local ∙ ap₂ with_rule so_far is_rule ∙ app_more command (names_of (take i options)) (slice_index_or options i d).now
    ∙ ap (option_app command) (sym (ap names_of (take_more options i d lt) ∙ map-append (λ (o : Bor Text). o.now) (take i options) (slice_index_or options i d ∷ [])))

values_read : (f : Found) (rows : List Row) (names : List Text) → rows_of f ≡ rows → map (first_value f) names ≡ values_in names rows
values_read f rows [] are = refl
values_read f rows (name ∷ names) are = ap₂ (λ v vs. v ∷ vs) (first_value-rows f name ∙ ap (first_of name) are) (values_read f rows names are)

-- a parse that succeeds finds the values that are parsed
pub parse_finds : (command : Text) (names words : List Text) (a : App) (m : ArgMatches) (got : List (Option Text)) → a ≡ option_app command names
    → HasMatchesOf a words m → (is_simple_and_free a ≡ true → fault_of a words ≡ []) → got ≡ map (first_value (found_of m)) names → Some got ≡ parsed command names words
unfolding parsed
parse_finds command names words a m got is matches faults values =
    let app = option_app command names in
    let none : fault_of app words ≡ [] = sym (ap (λ b. fault_of b words) is) ∙ faults (ap is_simple_and_free is ∙ is_simple_and_free_app command names) in
    let rows = (matches (ap is_simple is ∙ is_simple_app command names)).0 ∙ ap (λ b. matches_of b words) is in
    ap Some (values ∙ values_read (found_of m) (matches_of app words) names rows)
    ∙ sym (ap (λ kinds. option_map (values_in names) (unless_fault kinds (matches_of app words))) none)

-- if it fails, and memory did not run out, no values are parsed
pub parse_fails : (command : Text) (names : List Text) (words : List Text) (a : App) (e : Error) → a ≡ option_app command names
    → (is_simple_and_free a ≡ true → HasKind (fault_of a words) e) → kind_of e ≢ OutOfMemory → None ≡ parsed command names words
unfolding parsed
parse_fails command names words a e is kinds other = go (fault_of (option_app command names) words)
    (subst (λ b. HasKind (fault_of b words) e) is (kinds (ap is_simple_and_free is ∙ is_simple_and_free_app command names)))
  where
    go : (faults : Kinds) → HasKind faults e → None ≡ option_map (values_in names) (unless_fault faults (matches_of (option_app command names) words))
    go [] (inl memory) = absurd (other memory)
    go [] (inr none) = absurd none
    go (k ∷ ks) h = refl
