use Rattle.std.proofs.Common.{◌≡◌, map, take}
use Rattle.memory_sides.specs.Settings.{link_of, setting_of}
use Rattle.memory_sides.proofs.programs.links_of.Given as goal

-- the links made so far are those of the settings passed
abbrev pub invariant-loop-setting : goal.invariant-loop-setting
invariant-loop-setting l = l.links.items ≡ map (λ one. link_of (setting_of one)) (take l.setting-index l.fn.settings)
