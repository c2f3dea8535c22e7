use Rattle.std.proofs.Common.{rules, ◌≤◌, length}
use Rattle.game_text.proofs.SeenLaws.{seen_some}
use Rattle.uhp_session.proofs.KeptLaws.{written_less, few_less, sees_back}
use Rattle.uhp_session.proofs.current.Current.back.Goals as goal

pub forget-requires : goal.forget-requires
forget-requires g c = seen_some c.self.inside.seen (g.G.Game.history c.self.inside.game) c.self.invariant.2

pub invariant_of-self : goal.invariant_of-self
invariant_of-self g c =
    let before = g.G.Game.history c.self.inside.game in
    let now = g.G.Game.history c.undo.new.self in
    let some : 1 ≤ length before.made = search rules in (
      written_less before now c.self.inside.written c.pop.new.self c.undo.ensures.back c.self.invariant.0 c.pop.ensures,
      few_less before now c.undo.ensures.back c.self.invariant.1,
      sees_back c.self.inside.seen.repetition c.forget.new.self.repetition c.self.inside.seen.keys c.forget.new.self.keys before now
          some c.self.invariant.2 c.undo.ensures.back c.forget.ensures.same c.forget.ensures.popped,
    )
