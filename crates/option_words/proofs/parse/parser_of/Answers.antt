use Rattle.option_words.proofs.ParserLaws.{option_added}
use Rattle.option_words.proofs.parse.parser_of.Goals as goal

pub loop-option-preserved : goal.loop-option-preserved
loop-option-preserved c =
    option_added c.args.command.now c.args.options.now c.loop-option.option-index _ c.loop-option.parser c.in_ok-parser.parser c.option_arg.result
    c.loop-option-test.true c.loop-option.invariant c.in_ok-parser.ensures c.option_arg.ensures.rule c.option_arg.ensures.local
