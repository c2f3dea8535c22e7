-- A run does what its words ask for.
use Rattle.std.proofs.Common.{sym, ◌∙◌}
use Rattle.std.proofs.lemmas.Option.{none-some}
use Rattle.hive_cli.proofs.RunLemmas.{never_usage, run_of, starved, with_none}
use Rattle.hive_cli.proofs.run.Goals as goal

pub run_command-requires-clause-range : goal.run_command-requires-clause-range
run_command-requires-clause-range g c κs within = rw c.in-Ok-Some.field-0-is at c.in-Ok-Some.ensures.range

pub returns-in-Ok-Some-clause-usage : goal.returns-in-Ok-Some-clause-usage
returns-in-Ok-Some-clause-usage g c = λ usage. absurd (never_usage c.args.words.now c.in-Ok-Some.asked c.run_command.result.status _ _ c.run_command.ensures.does usage)

pub returns-in-Ok-Some-clause-does : goal.returns-in-Ok-Some-clause-does
returns-in-Ok-Some-clause-does g c = λ asked words.
    run_of c.args.words.now c.in-Ok-Some.asked asked c.run_command.result.status _ _ (with_none c.args.words.now c.in-Ok-Some.asked c.run_command.result.status _ _ _ _ _ _ c.run_command.ensures.does c.new-timed.ensures) (sym c.in-Ok-Some.field-0-is ∙ c.in-Ok-Some.ensures.only asked words)

pub returns-in-Ok-None-clause-usage : goal.returns-in-Ok-None-clause-usage
returns-in-Ok-None-clause-usage g c = λ usage asked words. none-some _ (sym c.in-Ok-None.field-0-is ∙ c.in-Ok-None.ensures.only asked words)

pub returns-in-Ok-None-clause-does : goal.returns-in-Ok-None-clause-does
returns-in-Ok-None-clause-does g c = λ asked words. absurd (none-some _ (sym c.in-Ok-None.field-0-is ∙ c.in-Ok-None.ensures.only asked words))

pub returns-in-Err-clause-does : goal.returns-in-Err-clause-does
returns-in-Err-clause-does g c = λ asked words. starved c.args.words.now asked _ _ words c.new-timed.ensures
