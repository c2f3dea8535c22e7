use Rattle.strategy_check.proofs.IndexWalks.{index-took, unread-took}
use Rattle.strategy_check.proofs.walk.IndexWalkWalker.take.Goals as goal

pub returns-in-Item-clause-told : goal.returns-in-Item-clause-told
returns-in-Item-clause-told g c = index-took _ _ _ _ c.in-Item.place c.in-Item.ensures.item c.saturating_add-self.ensures

pub returns-in-Failed-clause-told : goal.returns-in-Failed-clause-told
returns-in-Failed-clause-told g c = unread-took (g.I.Items.supply c.args.self.now.indices.now).left (g.I.Items.supply c.take.new.self).left c.args.self.now.taken

pub returns-in-Full-clause-told : goal.returns-in-Full-clause-told
returns-in-Full-clause-told g c = unread-took (g.I.Items.supply c.args.self.now.indices.now).left (g.I.Items.supply c.take.new.self).left c.args.self.now.taken
