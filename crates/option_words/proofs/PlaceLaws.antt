-- The walk of `clap` over the words. It takes item after item, and the name of each is known and
-- was not used before.
use Rattle.std.proofs.Common.{◌≡◌, ◌∙◌, ◌&&◌, ◌||◌, ◌⊎◌, inl, inr, cond, Bool, true, false, refl, sym, ap, ap₂, List, [], ◌∷◌, ◌++◌, Option, Some, None, codes, fold, if◌then◌else◌, nat_lt, append-nil}
use Rattle.std.specs.List.{list_any}
use Rattle.std.specs.Option.{option_map_or}
use Rattle.std.specs.Str.{bytes_eq}
use Rattle.clap.specs.Kinds.{Kinds, or_else}
use Rattle.clap.specs.Lexer.{long_of}
use Rattle.clap.specs.Walk.{Held, Row, Rule, Step, Text, Waiting, Walk, after_step, at_row, finished, has_row, idle, more_values, next, option, option_word, reading_by, settled, settled_rows, subcommand_or_other, used, used_by_id, value, walked}
use Rattle.clap.specs.Faults.{check_fault, defaults_fault, other_fault, positional_fault, settle_fault, step_fault, turn_fault, use_fault, values_fault, walk_fault}
use Rattle.clap.specs.declared.error.kind.ErrorKind.TheVariants.{ArgumentConflict, InvalidValue, UnknownArgument}
use Rattle.clap.specs.declared.parser.matches.ValueSource.TheVariants.{CommandLine}
use Rattle.option_words.specs.Parse.{unless_fault}
use Rattle.option_words.proofs.RuleLaws.{id_known, is_known, no_check_fault, no_default, no_default_fault, no_index, rule, rules, same_bytes, shape}
use Rattle.option_words.proofs.WalkLaws.{IsRefused, IsStray, WordKind, holding, named, named_fault, named_met, no_subcommand, refused, stray, valued, valued_fault, valued_met, word_kind}

-- a place of the walk between two words
abbrev pub at : List Row → Option (Text × List Text) → Waiting → Walk
at rows pending waiting = record {
  held = holding rows pending;
  waiting = waiting;
  position = 1;
  is_trailing = false;
  stopped = None;
}

-- a place where nothing is pending
abbrev pub after : List Row → Walk
after rows = at rows None idle

abbrev pub HasNoDashes : List Text → Type 0
HasNoDashes words = list_any (λ word. bytes_eq word (codes "--")) words ≡ false

pub neither : (a b : Bool) → (a || b) ≡ false → (a ≡ false) × (b ≡ false)
neither false b e = (refl, e)
neither true b e = (e, absurd (cc))

or_else-assoc : (a b c : Kinds) → or_else (or_else a b) c ≡ or_else a (or_else b c)
or_else-assoc [] b c = refl
or_else-assoc (k ∷ ks) b c = refl

or_else-none : (a : Kinds) → or_else a [] ≡ a
or_else-none [] = refl
or_else-none (k ∷ ks) = refl

-- what is found, if there is no fault before it
abbrev pub unless : Kinds → Option (List Row) → Option (List Row)
unless [] found = found
unless (k ∷ ks) found = None

unless_first : (a b : Kinds) (found : List Row) → unless_fault (or_else a b) found ≡ unless a (unless_fault b found)
unless_first [] b found = refl
unless_first (k ∷ ks) b found = refl

unless_none : (a : Kinds) → None ≡ unless a None
unless_none [] = refl
unless_none (k ∷ ks) = refl

unless_both : (a b : Kinds) (found : Option (List Row)) → unless (or_else a b) found ≡ unless a (unless b found)
unless_both [] b found = refl
unless_both (k ∷ ks) b found = refl

-- ---- one use of an option

-- the row of an option that was given this value
abbrev pub row : Text → Text → Row
row name v = record { id = name; values = v ∷ []; count = None; source = Some CommandLine; reading = reading_by (rule name) }

at_row_none : (id : Text) (change : Row → List Row) (missing rows : List Row) → has_row id rows ≡ false → at_row id change missing rows ≡ rows ++ missing
at_row_none id change missing [] none = refl
at_row_none id change missing (r ∷ rs) none =
    let both = neither _ _ none in
    ap (λ b. cond b (change r ++ rs) (r ∷ at_row id change missing rs)) both.0 ∙ ap (λ xs. r ∷ xs) (at_row_none id change missing rs both.1)

used_is : (name v : Text) (rows : List Row) → has_row name rows ≡ false → used (rule name) (v ∷ []) rows ≡ rows ++ row name v ∷ []
used_is name v rows none =
    let without_is : at_row name (λ _. []) [] rows ≡ rows = at_row_none name (λ _. []) [] rows none ∙ append-nil rows in
    ap (λ xs. at_row name (more_values CommandLine (v ∷ [])) (row name v ∷ []) xs) without_is ∙ at_row_none name (more_values CommandLine (v ∷ [])) (row name v ∷ []) rows none

use_passes : (name v : Text) (rows : List Row) → has_row name rows ≡ false → use_fault false (rule name) (v ∷ []) rows ≡ []
use_passes name v rows none = ap (λ b. or_else (cond (b && true) (ArgumentConflict ∷ []) []) (values_fault (rule name) (v ∷ []))) none

use_fails : (name v : Text) (rows : List Row) → has_row name rows ≡ true → use_fault false (rule name) (v ∷ []) rows ≡ ArgumentConflict ∷ []
use_fails name v rows some = ap (λ b. or_else (cond (b && true) (ArgumentConflict ∷ []) []) (values_fault (rule name) (v ∷ []))) some

module _ (command : Text) (names : List Text) where
  -- the faults that are left from a place on
  abbrev pub left : Walk → List Text → Kinds
  left w words =
      let end = (fold (walked (rules names) []) w words).held in
      or_else (walk_fault (shape command names) [] w words)
      (or_else (settle_fault (rules names) false end)
      (or_else (defaults_fault (settled (rules names) end).rows (rules names))
      (check_fault (shape command names) (finished (rules names) end) false)))

  -- what is found in the end
  abbrev pub found : Walk → List Text → List Row
  found w words = finished (rules names) (fold (walked (rules names) []) w words).held

  -- the result of a walk from a place on
  abbrev pub outcome : Walk → List Text → Option (List Row)
  outcome w words = unless_fault (left w words) (found w words)

  -- ---- one word

  turn : (rows : List Row) (pending : Option (Text × List Text)) (waiting : Waiting) (word : Text) (faults : Kinds) (m : Held × Step)
      → other_fault (shape command names) None word (holding rows pending) ≡ faults
      → subcommand_or_other (rules names) None waiting 1 word (holding rows pending) ≡ m
      → turn_fault (shape command names) [] (at rows pending waiting) word ≡ or_else faults (step_fault (shape command names) 1 m.0 m.1)
  turn rows pending waiting word faults m fault met =
      ap (λ n. or_else (other_fault (shape command names) n word (holding rows pending))
      (step_fault (shape command names) 1 (subcommand_or_other (rules names) n waiting 1 word (holding rows pending)).0
      (subcommand_or_other (rules names) n waiting 1 word (holding rows pending)).1)) (no_subcommand waiting word)
      ∙ ap₂ (λ k m. or_else k (step_fault (shape command names) 1 m.0 m.1)) fault met

  moved : (rows : List Row) (pending : Option (Text × List Text)) (waiting : Waiting) (word : Text) (m : Held × Step)
      → subcommand_or_other (rules names) None waiting 1 word (holding rows pending) ≡ m
      → walked (rules names) [] (at rows pending waiting) word ≡ after_step (rules names) word (at rows pending waiting) m.0 m.1
  unfolding walked
  moved rows pending waiting word m met =
      ap (λ n. after_step (rules names) word (at rows pending waiting) (subcommand_or_other (rules names) n waiting 1 word (holding rows pending)).0
      (subcommand_or_other (rules names) n waiting 1 word (holding rows pending)).1) (no_subcommand waiting word)
      ∙ ap (λ m. after_step (rules names) word (at rows pending waiting) m.0 m.1) met

  left_step : (w w' : Walk) (word : Text) (rest : List Text) (faults : Kinds)
      → turn_fault (shape command names) [] w word ≡ faults → walked (rules names) [] w word ≡ w'
      → left w (word ∷ rest) ≡ or_else faults (left w' rest)
  unfolding walk_fault
  left_step w w' word rest faults fault walk =
      or_else-assoc (turn_fault (shape command names) [] w word) _ _ ∙ ap₂ (λ f a. or_else f (left a rest)) fault walk

  -- a word, by its faults and by how it is matched
  steps : (rows : List Row) (pending : Option (Text × List Text)) (waiting : Waiting) (word : Text) (rest : List Text) (faults : Kinds) (m : Held × Step)
      → other_fault (shape command names) None word (holding rows pending) ≡ faults
      → subcommand_or_other (rules names) None waiting 1 word (holding rows pending) ≡ m
      → outcome (at rows pending waiting) (word ∷ rest)
      ≡ unless (or_else faults (step_fault (shape command names) 1 m.0 m.1)) (outcome (after_step (rules names) word (at rows pending waiting) m.0 m.1) rest)
  steps rows pending waiting word rest faults m fault met =
      ap₂ unless_fault (left_step (at rows pending waiting) _ word rest _ (turn rows pending waiting word faults m fault met) (moved rows pending waiting word m met))
      (ap (λ a. found a rest) (moved rows pending waiting word m met))
      ∙ unless_first _ _ _

  pub refused_fails : (rows : List Row) (pending : Option (Text × List Text)) (waiting : Waiting) (word : Text) (rest : List Text) → IsRefused command names word
      → outcome (at rows pending waiting) (word ∷ rest) ≡ None
  refused_fails rows pending waiting word rest is = steps rows pending waiting word rest _ _ (is rows pending) refl

  -- if nothing waits for a value, a word that is not a flag has no place
  pub stray_fails : (rows : List Row) (pending : Option (Text × List Text)) (word : Text) (rest : List Text) → IsStray command names word
      → outcome (at rows pending idle) (word ∷ rest) ≡ None
  stray_fails rows pending word rest is = steps rows pending idle word rest _ _ (is.passes rows pending) (is.met rows pending idle)
      ∙ ap (λ a. unless (option_map_or (λ r. positional_fault (rules names) false r (holding rows pending)) a (UnknownArgument ∷ []))
      (outcome (after_step (rules names) word (at rows pending idle) (holding rows pending) value) rest)) (no_index names 1)

  valued_steps : (rows : List Row) (pending : Option (Text × List Text)) (word name v : Text) (rest : List Text) → bytes_eq word (codes "--") ≡ false
      → is_known names name ≡ true → long_of word ≡ Some (name, Some v)
      → outcome (at rows pending idle) (word ∷ rest) ≡ unless (settle_fault (rules names) false (holding rows pending))
      (unless (use_fault false (rule name) (v ∷ []) (settled_rows (rules names) pending rows)) (outcome (after (used (rule name) (v ∷ []) (settled_rows (rules names) pending rows))) rest))
  valued_steps rows pending word name v rest whole known long =
      steps rows pending idle word rest _ _ (valued_fault command names word name v (holding rows pending) whole known long)
      (valued_met command names word name v (holding rows pending) idle whole known long)
      ∙ ap (λ f. unless f (outcome (after (used (rule name) (v ∷ []) (settled_rows (rules names) pending rows))) rest)) (or_else-none _)
      ∙ unless_both (settle_fault (rules names) false (holding rows pending)) (use_fault false (rule name) (v ∷ []) (settled_rows (rules names) pending rows))
      (outcome (after (used (rule name) (v ∷ []) (settled_rows (rules names) pending rows))) rest)

  named_steps : (rows : List Row) (pending : Option (Text × List Text)) (word name : Text) (rest : List Text) → bytes_eq word (codes "--") ≡ false
      → is_known names name ≡ true → long_of word ≡ Some (name, None)
      → outcome (at rows pending idle) (word ∷ rest) ≡ unless (settle_fault (rules names) false (holding rows pending))
      (outcome (at (settled_rows (rules names) pending rows) (Some (name, [])) (option name)) rest)
  named_steps rows pending word name rest whole known long =
      steps rows pending idle word rest _ _ (named_fault command names word name (holding rows pending) whole known long)
      (named_met command names word name (holding rows pending) idle whole known long)
      ∙ ap (λ f. unless f (outcome (at (settled_rows (rules names) pending rows) (Some (name, [])) (option name)) rest)) (or_else-none _)

  -- ---- what is pending is used at last

  ends : (rows : List Row) (pending : Option (Text × List Text)) (waiting : Waiting) → outcome (at rows pending waiting) []
      ≡ unless (settle_fault (rules names) false (holding rows pending)) (Some (settled_rows (rules names) pending rows))
  unfolding walk_fault
  ends rows pending waiting =
      unless_first (settle_fault (rules names) false (holding rows pending)) _ _
      ∙ ap (unless (settle_fault (rules names) false (holding rows pending)))
      (ap₂ unless_fault (ap₂ or_else (no_default_fault names (settled_rows (rules names) pending rows)) (no_check_fault command names (fold _ (settled_rows (rules names) pending rows) (rules names)))) (no_default names (settled_rows (rules names) pending rows)))

  pub end_finds : (rows : List Row) → outcome (after rows) [] ≡ Some rows
  end_finds rows = ends rows None idle

  settling : (rows : List Row) (pending : Option (Text × List Text)) (words : List Text) → HasNoDashes words
      → outcome (at rows pending idle) words ≡ unless (settle_fault (rules names) false (holding rows pending)) (outcome (after (settled_rows (rules names) pending rows)) words)
  settling rows pending [] h = ends rows pending idle ∙ ap (unless (settle_fault (rules names) false (holding rows pending))) (sym (ends (settled_rows (rules names) pending rows) None idle))
  settling rows pending (word ∷ rest) h = go (word_kind command names word whole)
    where
      whole : bytes_eq word (codes "--") ≡ false
      whole = (neither _ _ h).0

      none : outcome (at rows pending idle) (word ∷ rest) ≡ None → outcome (after (settled_rows (rules names) pending rows)) (word ∷ rest) ≡ None
          → outcome (at rows pending idle) (word ∷ rest) ≡ unless (settle_fault (rules names) false (holding rows pending)) (outcome (after (settled_rows (rules names) pending rows)) (word ∷ rest))
      none here there = here ∙ unless_none (settle_fault (rules names) false (holding rows pending)) ∙ ap (unless (settle_fault (rules names) false (holding rows pending))) (sym there)

      go : WordKind command names word
          → outcome (at rows pending idle) (word ∷ rest) ≡ unless (settle_fault (rules names) false (holding rows pending)) (outcome (after (settled_rows (rules names) pending rows)) (word ∷ rest))
      go (valued name v known long) = valued_steps rows pending word name v rest whole known long
          ∙ ap (unless (settle_fault (rules names) false (holding rows pending))) (sym (valued_steps (settled_rows (rules names) pending rows) None word name v rest whole known long))
      go (named name known long) = named_steps rows pending word name rest whole known long
          ∙ ap (unless (settle_fault (rules names) false (holding rows pending))) (sym (named_steps (settled_rows (rules names) pending rows) None word name rest whole known long))
      go (refused is) = none (refused_fails rows pending idle word rest is) (refused_fails (settled_rows (rules names) pending rows) None idle word rest is)
      go (stray is) = none (stray_fails rows pending word rest is) (stray_fails (settled_rows (rules names) pending rows) None word rest is)

  -- ---- one item

  -- the option is used with this value, and the words go on
  abbrev pub uses : Text → Text → List Row → List Text → Option (List Row)
  uses name v rows rest = unless (use_fault false (rule name) (v ∷ []) rows) (outcome (after (used (rule name) (v ∷ []) rows)) rest)

  pub uses_new : (name v : Text) (rows : List Row) (rest : List Text) → has_row name rows ≡ false → uses name v rows rest ≡ outcome (after (rows ++ row name v ∷ [])) rest
  uses_new name v rows rest none = ap₂ (λ f r. unless f (outcome (after r) rest)) (use_passes name v rows none) (used_is name v rows none)

  pub uses_again : (name v : Text) (rows : List Row) (rest : List Text) → has_row name rows ≡ true → uses name v rows rest ≡ None
  uses_again name v rows rest some = ap (λ f. unless f (outcome (after (used (rule name) (v ∷ []) rows)) rest)) (use_fails name v rows some)

  -- `--name=v`
  pub one_word : (rows : List Row) (word name v : Text) (rest : List Text) → bytes_eq word (codes "--") ≡ false → is_known names name ≡ true
      → long_of word ≡ Some (name, Some v) → outcome (after rows) (word ∷ rest) ≡ uses name v rows rest
  one_word rows word name v rest whole known long = valued_steps rows None word name v rest whole known long

  -- `--name`, with which the option waits for its value
  pub first_word : (rows : List Row) (word name : Text) (rest : List Text) → bytes_eq word (codes "--") ≡ false → is_known names name ≡ true
      → long_of word ≡ Some (name, None) → outcome (after rows) (word ∷ rest) ≡ outcome (at rows (Some (name, [])) (option name)) rest
  first_word rows word name rest whole known long = named_steps rows None word name rest whole known long

  -- and the word after it
  pub second_word : (rows : List Row) (name v : Text) (rest : List Text) → is_known names name ≡ true → IsStray command names v → HasNoDashes rest
      → outcome (at rows (Some (name, [])) (option name)) (v ∷ rest) ≡ uses name v rows rest
  second_word rows name v rest known is h =
      let held : Held = holding rows (Some (name, [])) in
      let to : Option Rule → Walk = λ a. after_step (rules names) v (at rows (Some (name, [])) (option name)) (option_word a name v held).0 (next (option_word a name v held).1) in
      steps rows (Some (name, [])) (option name) v rest _ _ (is.passes rows (Some (name, []))) (is.met rows (Some (name, [])) (option name))
      ∙ ap (λ a. outcome (to a) rest) (id_known names name known)
      ∙ ap (λ b. outcome (at rows (Some (name, v ∷ [])) (if nat_lt (if b then 1 else 0) 1 then option name else idle)) rest) (same_bytes name)
      ∙ settling rows (Some (name, v ∷ [])) rest h
      ∙ ap (λ a. unless (option_map_or (λ r. use_fault false r (v ∷ []) rows) a []) (outcome (after (used_by_id a (v ∷ []) rows)) rest)) (id_known names name known)

  -- a name alone is refused
  pub name_ends : (rows : List Row) (name : Text) → is_known names name ≡ true → outcome (at rows (Some (name, [])) (option name)) [] ≡ None
  name_ends rows name known = ends rows (Some (name, [])) (option name)
      ∙ ap (λ a. unless (option_map_or (λ r. use_fault false r [] rows) a []) (Some (used_by_id a [] rows))) (id_known names name known)

  no_value : (rows : List Row) (name : Text) → is_known names name ≡ true → settle_fault (rules names) false (holding rows (Some (name, []))) ≡ InvalidValue ∷ []
  no_value rows name known = ap (λ a. option_map_or (λ r. use_fault false r [] rows) a []) (id_known names name known)

  -- and so is a flag after the name
  pub second_kind : (rows : List Row) (name v : Text) (rest : List Text) → is_known names name ≡ true → bytes_eq v (codes "--") ≡ false
      → IsStray command names v ⊎ (outcome (at rows (Some (name, [])) (option name)) (v ∷ rest) ≡ None)
  second_kind rows name v rest known whole = go (word_kind command names v whole)
    where
      held : Held
      held = holding rows (Some (name, []))

      go : WordKind command names v → IsStray command names v ⊎ (outcome (at rows (Some (name, [])) (option name)) (v ∷ rest) ≡ None)
      go (valued other u is long) = inr (steps rows (Some (name, [])) (option name) v rest (InvalidValue ∷ []) _
          (valued_fault command names v other u (holding rows (Some (name, []))) whole is long
          ∙ ap (λ s. or_else s (use_fault false (rule other) (u ∷ []) (settled (rules names) (holding rows (Some (name, [])))).rows)) (no_value rows name known)) refl)
      go (named other is long) = inr (steps rows (Some (name, [])) (option name) v rest (InvalidValue ∷ []) _
          (named_fault command names v other (holding rows (Some (name, []))) whole is long ∙ no_value rows name known) refl)
      go (refused is) = inr (refused_fails rows (Some (name, [])) (option name) v rest is)
      go (stray is) = inl is
