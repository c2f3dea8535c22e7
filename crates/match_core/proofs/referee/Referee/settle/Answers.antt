use Rattle.std.proofs.Common.{rules}
use Rattle.match_core.specs.Keeps.{IsSettled}
use Rattle.match_core.proofs.Sees.{settled}
use Rattle.match_core.proofs.referee.Referee.settle.Goals as goal

pub outcome-state-requires : goal.outcome-state-requires
outcome-state-requires g c =
    let n : IsSettled c.self.inside.stage = search rules in
    settled c.self.inside.stage c.self.inside.seen (g.G.Game.history c.self.inside.game) n c.self.invariant.sees
