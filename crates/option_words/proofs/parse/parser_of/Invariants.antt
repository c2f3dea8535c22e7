use Rattle.std.proofs.Common.{◌≡◌, take}
use Rattle.clap.specs.Simple.{app_of}
use Rattle.option_words.specs.Options.{names_of}
use Rattle.option_words.specs.Parse.{option_app}
use Rattle.option_words.proofs.parse.parser_of.Given as goal

abbrev pub invariant-loop-option : goal.invariant-loop-option
invariant-loop-option l = app_of l.parser ≡ option_app l.command (names_of (take l.option-index l.options))
