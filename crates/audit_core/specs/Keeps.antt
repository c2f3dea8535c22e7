-- What an auditor keeps.
use Rattle.std.specs.Prelude.{◌≡◌, ℕ, ◌+◌, ◌<◌, ◌≤◌, List, length}
use Rattle.hive_model.specs.Histories.{History, position}
use Rattle.hive_model.specs.Lists.{IsOn}
use Rattle.hive_model.specs.Legal.{moves}
use Rattle.io_edge.specs.Lines.{greatest_line}
use Rattle.move_text.specs.Moves.{IsMoveWithin}
use Rattle.audit_core.specs.declared.plan.AuditPlan.{AuditPlan}
use Rattle.audit_core.specs.declared.plan.Stage.{Stage}
use Rattle.audit_core.specs.declared.plan.Stage.TheVariants.{Greeting, Beginning, Listing, Playing, Undoing, Reviewing, Trying, Relisting, Loading, Finishing, Over}

-- The games are numbered from 1, and the limit of plies of a game is from 1 to 1,000.
pub record IsPlan (plan : AuditPlan) : Type 0 where
  pub counted : 1 ≤ plan.first
  pub some : 1 ≤ plan.plies
  pub few : plan.plies ≤ 1000

-- While moves are asked for, one more may be made. A move to be played is legal. As many plies as
-- are taken back were made. A move that is tried has a text.
abbrev pub FitsStage : Stage → History → ℕ → Type 0
FitsStage Greeting game plies = Unit {0}
FitsStage Beginning game plies = Unit {0}
FitsStage Listing game plies = length game.made < plies
FitsStage (Playing m) game plies = (length game.made < plies) × IsOn (moves (position game)) m
FitsStage (Undoing back) game plies = (1 ≤ back) × (back ≤ length game.made)
FitsStage Reviewing game plies = Unit {0}
FitsStage (Trying m) game plies = IsMoveWithin m
FitsStage Relisting game plies = Unit {0}
FitsStage Loading game plies = Unit {0}
FitsStage Finishing game plies = Unit {0}
FitsStage Over game plies = Unit {0}

-- The game and the whole game have room for all plies and are of one type. The reply is no longer
-- than a line.
pub record IsAuditor (plan : AuditPlan) (stage : Stage) (game whole : History) (reply : List ℕ)
    : Type 0 where
  pub is_plan : IsPlan plan
  pub spare : plan.plies ≤ length game.made + game.spare
  pub whole_spare : plan.plies ≤ length whole.made + whole.spare
  pub kind : whole.game_type ≡ game.game_type
  pub fits : FitsStage stage game plan.plies
  pub short : length reply ≤ greatest_line
