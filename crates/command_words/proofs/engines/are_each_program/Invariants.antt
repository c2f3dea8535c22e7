use Rattle.std.proofs.Common.{ℕ, List, All, Bor, take}
use Rattle.command_words.specs.Matches.{IsProgram}
use Rattle.command_words.proofs.engines.are_each_program.Given as goal

-- the texts passed are programs
abbrev pub invariant-loop-text : goal.invariant-loop-text
invariant-loop-text l = All (λ (one : Bor (List ℕ)). IsProgram one.now) (take l.text-index l.fn.texts)
