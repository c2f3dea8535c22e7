-- The command that `clap` parses the words with, and what it finds in them.
use Rattle.std.specs.Prelude.{List, [], ◌∷◌, ℕ, Option, Some, None, map, option_map, true}
use Rattle.clap.specs.Faults.{fault_of}
use Rattle.clap.specs.Kinds.{Kinds}
use Rattle.clap.specs.Simple.{App, matches_of, new_rule, new_shape}
use Rattle.clap.specs.Walk.{Row, Rule, first_of}
use Rattle.clap.specs.declared.builder.action.ArgAction.TheVariants.{Set}

-- an option, with its long name only
abbrev pub option_rule : List ℕ → Rule
option_rule option = record (new_rule option) { long = Some option; action = Some Set }

-- the command with these options and no flag for help or the version; its name is not among the
-- words
abbrev pub option_app : List ℕ → List (List ℕ) → App
option_app command options = record {
  top = record (new_shape command) {
    rules = map option_rule options;
    no_binary_name = true;
    disable_help_flag = true;
    disable_version_flag = true;
  };
  subs = [];
}

-- what was found, if there is no fault
abbrev pub unless_fault : Kinds → List Row → Option (List Row)
unless_fault [] found = Some found
unless_fault (kind ∷ kinds) found = None

-- the value that was found for each of the options
abbrev pub values_in : List (List ℕ) → List Row → List (Option (List ℕ))
values_in options found = map (λ option. first_of option found) options

-- the values that a parse of the words after the command finds, None if it refuses them
unfoldable pub parsed : List ℕ → List (List ℕ) → List (List ℕ) → Option (List (Option (List ℕ)))
parsed command options words =
    let app = option_app command options in
    option_map (values_in options) (unless_fault (fault_of app words) (matches_of app words))
