use Rattle.std.proofs.Common.{◌≡◌, subst, true, false}
use Rattle.std.specs.List.{slice_get}
use Rattle.hive_model.specs.Histories.{position}
use Rattle.hive_model.specs.Keys.{key}
use Rattle.strategy_lemmas.specs.Lemmas.{serves_at}
use Rattle.strategy_lemmas.specs.declared.tokens.Token.{Token}
use Rattle.strategy_lemmas.specs.declared.tokens.Token.TheVariants.{Index}
use Rattle.certificate_walks.specs.declared.items.ItemAnswer.TheVariants.{Item}
use Rattle.certificate_walks.specs.Items.{Takes}
use Rattle.strategy_lemmas.proofs.CitedLaws.{serves-true}
use Rattle.strategy_lemmas.proofs.CiteWalks.{index-took, unread-took, test-is, cite-ends, same-bound}
use Rattle.strategy_lemmas.proofs.cited_walk.CiteWalkWalker.take.Goals as goal

pub returns-in-Index-clause-told : goal.returns-in-Index-clause-told
returns-in-Index-clause-told g c =
    let a = (g.T.Items.supply c.args.self.now.tokens.now).left in
    let b = (g.T.Items.supply c.take.new.self).left in
    let item : Takes (Item (Index c.in-Index.place)) a b = subst (λ (k : Token). Takes (Item k) a b) c.in-Index.is c.in-Item.ensures.item in
    index-took (key (position (g.G.Game.history c.args.game.now))) c.args.depth c.args.least a b c.args.self.now.taken c.saturating_add-self.result c.in-Index.place c.args.self.now.lemmas.now item c.saturating_add-self.ensures

pub returns-then-serves-clause-shown : goal.returns-then-serves-clause-shown
returns-then-serves-clause-shown g c =
    let p = position (g.G.Game.history c.args.game.now) in
    let d = c.args.depth in
    let x = c.args.least in
    let lemmas = c.args.self.now.lemmas.now in
    let test : serves_at (key p) d x (slice_get lemmas c.in-Cite.place) ≡ true = test-is true c.serves.result c.key.result (key p) d x _ (slice_get lemmas c.in-Cite.place) c.serves.ensures c.key.ensures.key (same-bound x c.requires.small) c.if-serves.true in
    λ inv shown. serves-true p d x lemmas c.in-Cite.place c.key.ensures.sound inv test

pub returns-then-serves-clause-told : goal.returns-then-serves-clause-told
returns-then-serves-clause-told g c =
    cite-ends (position (g.G.Game.history c.args.game.now)) c.key.result c.args.depth c.args.least _ (g.T.Items.supply c.args.self.now.tokens.now).left (g.T.Items.supply c.take.new.self).left c.args.self.now.taken c.saturating_add-self.result c.in-Cite.place
    _ c.args.self.now.lemmas.now true c.serves.result c.in-Cite.is c.in-Item.ensures.item c.saturating_add-self.ensures c.serves.ensures c.key.ensures.key (same-bound c.args.least c.requires.small) c.if-serves.true

pub returns-else-serves-clause-told : goal.returns-else-serves-clause-told
returns-else-serves-clause-told g c =
    cite-ends (position (g.G.Game.history c.args.game.now)) c.key.result c.args.depth c.args.least _ (g.T.Items.supply c.args.self.now.tokens.now).left (g.T.Items.supply c.take.new.self).left c.args.self.now.taken c.saturating_add-self.result c.in-Cite.place
    _ c.args.self.now.lemmas.now false c.serves.result c.in-Cite.is c.in-Item.ensures.item c.saturating_add-self.ensures c.serves.ensures c.key.ensures.key (same-bound c.args.least c.requires.small) c.if-serves.false

pub returns-in-Failed-clause-told : goal.returns-in-Failed-clause-told
returns-in-Failed-clause-told g c =
    unread-took (position (g.G.Game.history c.args.game.now)) c.args.depth c.args.least (g.T.Items.supply c.args.self.now.tokens.now).left (g.T.Items.supply c.take.new.self).left c.args.self.now.taken c.args.self.now.lemmas.now

pub returns-in-Full-clause-told : goal.returns-in-Full-clause-told
returns-in-Full-clause-told g c =
    unread-took (position (g.G.Game.history c.args.game.now)) c.args.depth c.args.least (g.T.Items.supply c.args.self.now.tokens.now).left (g.T.Items.supply c.take.new.self).left c.args.self.now.taken c.args.self.now.lemmas.now
