use Rattle.std.proofs.Common.{◌∙◌, ap}
use Rattle.clap.specs.declared.error.kind.ErrorKind.TheVariants.{OutOfMemory}
use Rattle.clap.specs.contracts.error.kind.ErrorKind.{the_type}
use denote.Enum.Bare.{sameb}
use Rattle.option_words.specs.Options.{names_of}
use Rattle.option_words.proofs.ParserLaws.{parse_fails, parse_finds}
use Rattle.option_words.proofs.parse.parsed_values.Goals as goal

pub returns-in-Ok : goal.returns-in-Ok
returns-in-Ok c =
    parse_finds c.args.command.now (names_of c.args.options.now) _ _ c.in-Ok.matches _ c.in_ok-parser.ensures c.in-Ok.ensures.matches c.in-Ok.ensures.kinds
    c.in_ok-found_values-in-Ok.ensures

-- memory did not run out, so the list of faults is not empty
pub returns : goal.returns
returns c =
    parse_fails c.args.command.now (names_of c.args.options.now) _ _ c.in-Err.error c.in_ok-parser.ensures c.in-Err.ensures.kinds
    (λ memory. let same = c.if-eq.ensures ∙ ap (λ k. sameb the_type k OutOfMemory) (c.kind.ensures ∙ memory) in cc)
