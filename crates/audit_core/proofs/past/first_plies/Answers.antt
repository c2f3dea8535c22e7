use Rattle.std.proofs.Common.{arith, ◌∙◌, ap}
use Rattle.hive_model.specs.Histories.{History}
use Rattle.audit_core.proofs.Forward.{past_none, past_legal, past_room, past_on}
use Rattle.audit_core.proofs.past.first_plies.Goals as goal

pub loop-i-init : goal.loop-i-init
loop-i-init g c = record {
  past =
      past_none (g.G.Game.history c.args.game.now) (g.G.Game.history c.reserve.new.self) c.most-reserved.result (ap (λ (x : History). x.game_type) c.reserve.ensures.same ∙ (c.in_ok-past.ensures.kind ∙ c.game_type.ensures))
      (ap (λ (x : History). x.made) c.reserve.ensures.same ∙ c.in_ok-past.ensures.empty) c.in_ok-reserve.ensures.room;
  within = omega arith;
}

pub play-requires-clause-legal : goal.play-requires-clause-legal
play-requires-clause-legal g c =
    past_legal (g.G.Game.history c.args.game.now) (g.G.Game.history c.loop-i.past) _ _ _ c.lemma_sound.ensures.game c.loop-i.invariant.past c.move_at.ensures

pub play-requires-clause-room : goal.play-requires-clause-room
play-requires-clause-room g c =
    past_room (g.G.Game.history c.args.game.now) (g.G.Game.history c.loop-i.past) _ _ _ c.loop-i-test.true c.most-reserved.ensures.plies c.loop-i.invariant.past

pub loop-i-preserved : goal.loop-i-preserved
loop-i-preserved g c = let less = c.loop-i-test.true in record {
  past = past_on (g.G.Game.history c.args.game.now) (g.G.Game.history c.loop-i.past) _ _ _ c.args.plies _ less c.most-reserved.ensures.plies c.loop-i.invariant.past c.move_at.ensures c.play.ensures.moved;
  within = omega (arith, less);
}
