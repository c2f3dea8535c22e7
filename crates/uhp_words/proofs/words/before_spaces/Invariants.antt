use Rattle.std.proofs.Common.{◌≡◌, ◌≤◌, length}
use Rattle.uhp_words.specs.Spaces.{before_spaces}
use Rattle.uhp_words.proofs.words.before_spaces.Given as goal

abbrev pub invariant-loop-kept : goal.invariant-loop-kept
invariant-loop-kept l = record { same : before_spaces l.kept ≡ before_spaces l.text; within : length l.kept ≤ length l.text }

abbrev pub decreases-loop-kept : goal.decreases-loop-kept
decreases-loop-kept l = length l.kept
