use Rattle.std.proofs.Common.{◌≡◌, ℕ, length, take}
use Rattle.std.specs.List.{All}
use Rattle.hive_model.specs.Positions.{Position}
use Rattle.count_share.specs.Classes.{AreClasses, lines_of}
use Rattle.count_share.specs.Shares.{AreIdle, IsMember, lines_shared}
use Rattle.count_share.proofs.dealing.deal.Given as goal

-- what was dealt out so far is the share of the workers
abbrev pub invariant-loop-i : goal.invariant-loop-i
invariant-loop-i g l = record {
  long : length l.workers ≡ length l.fn.workers;
  members : (p : Position) → AreClasses p l.classes → AreIdle p l.plies l.fn.workers → All (IsMember p l.plies) l.workers;
  shares : (p : Position) → AreClasses p l.classes → AreIdle p l.plies l.fn.workers → (n : ℕ) → lines_shared p n l.workers ≡ lines_of p n (take l.i l.classes);
}
