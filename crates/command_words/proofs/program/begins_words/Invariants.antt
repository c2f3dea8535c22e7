use Rattle.std.proofs.Common.{◌≡◌, drop, true}
use Rattle.command_words.specs.Programs.{goes_on}
use Rattle.command_words.proofs.program.begins_words.Given as goal

abbrev pub invariant-loop-i : goal.invariant-loop-i
invariant-loop-i l = goes_on true l.fn.text ≡ goes_on l.begins (drop l.i l.fn.text)
