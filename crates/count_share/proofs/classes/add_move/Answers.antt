use Rattle.count_share.proofs.ClassLaws.{one-more-in, one-more-own}
use Rattle.count_share.proofs.classes.add_move.Goals as goal

pub returns-in-Some-clause-more : goal.returns-in-Some-clause-more
returns-in-Some-clause-more g c =
    one-more-in (g.G.Game.history c.args.game.now) c.args.m c.again.result c.key_after-key.result c.args.classes.now.items c.deref.result.now c.in-Some.place c.index_mut.result.now
    c.again.ensures c.key_after-key.ensures.key c.key_after-key.ensures.goes_on c.key_after-key.ensures.short c.deref.ensures.value c.in-Some.ensures.within c.in-Some.ensures.like c.index_mut.ensures.value

pub returns-clause-more : goal.returns-clause-more
returns-clause-more g c =
    one-more-own (g.G.Game.history c.args.game.now) c.args.m c.again.result c.key_after-key.result c.args.classes.now.items c.push.new.self.items c.again.ensures c.key_after-key.ensures.key c.requires.legal
    c.key_after-key.ensures.goes_on c.in_ok-push.ensures.items
