use Rattle.std.proofs.Common.{◌≡◌, map, take}
use Rattle.command_words.specs.Engines.{engine_of}
use Rattle.command_words.proofs.engines.programs_of.Given as goal

-- the programs made so far are those of the texts passed
abbrev pub invariant-loop-text : goal.invariant-loop-text
invariant-loop-text l = l.programs.items ≡ map engine_of (map (λ one. one.now) (take l.text-index l.fn.texts))
