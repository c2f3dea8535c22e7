use Rattle.std.proofs.Common.{◌≡◌, map, take}
use Rattle.memory_sides.specs.Settings.{link_of, says}
use Rattle.memory_sides.proofs.programs.links_saying.Given as goal

-- the links made so far are those of the texts passed
abbrev pub invariant-loop-text : goal.invariant-loop-text
invariant-loop-text l = l.links.items ≡ map (λ text. link_of (says text.now)) (take l.text-index l.fn.texts)
