-- Which tournaments play the same games again.
use Rattle.std.specs.Prelude.{ℕ, Bool, true, false, ◌&&◌, nat_lt}
use Rattle.match_core.specs.declared.setup.Level.{Level}
use Rattle.match_core.specs.declared.setup.Level.TheVariants.{Depth, Time}
use Rattle.command_words.specs.declared.asked.Asked.{Asked}
use Rattle.command_words.specs.declared.asked.Asked.TheVariants.{Tournament}

-- Engines are asked to a depth, and not in a time.
abbrev pub is_at_depth : Level → Bool
is_at_depth (Depth depth) = true
is_at_depth (Time budget margin) = false

-- A tournament to a depth has more than one round. Engines that always answer alike then play the
-- same games in each.
abbrev pub repeats : Asked → Bool
repeats (Tournament setup rounds gauntlet at_once resume) =
    is_at_depth setup.level && nat_lt 1 rounds
repeats _ = false
