use Rattle.std.proofs.Common.{◌≡◌, map, take}
use Rattle.clap.specs.Matches.{first_value, found_of}
use Rattle.option_words.specs.Options.{names_of, values_of}
use Rattle.option_words.proofs.parse.found_values.Given as goal

abbrev pub invariant-loop-name : goal.invariant-loop-name
invariant-loop-name l = values_of l.values.items ≡ map (first_value (found_of l.matches)) (names_of (take l.name-index l.options))
