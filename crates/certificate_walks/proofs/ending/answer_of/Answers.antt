use Rattle.std.proofs.Common.{sym, ap}
use Rattle.certificate_walks.proofs.LookLaws.{last-taken, last-whole, looked_as}
use Rattle.certificate_walks.proofs.ending.answer_of.Goals as goal

pub returns-in-End-clause-whole : goal.returns-in-End-clause-whole
returns-in-End-clause-whole g c = last-whole g.W.WalkFault.rest c.args.taken c.take.result _ _ _ _ c.in-Done.is (sym (ap (looked_as g.W.WalkFault.rest c.args.taken) c.in-End.is)) c.take.ensures.item

pub returns-in-End-clause-items : goal.returns-in-End-clause-items
returns-in-End-clause-items g c =
    last-taken g.W.WalkFault.kinds g.W.WalkFault.rest c.args.taken (g.I.Items.supply c.args.items.now) (g.I.Items.supply c.take.new.self) g.W.WalkFault.rest_is_met g.met.W.WalkFault.rest_is_seen c.take.result _ _ c.in-Done.is (sym (ap (looked_as g.W.WalkFault.rest c.args.taken) c.in-End.is))
    (record { cause = c.take.ensures.cause; full = c.take.ensures.full; count = c.take.ensures.count; lenders = c.take.ensures.lenders; known = c.take.ensures.known; met = c.take.ensures.met })

pub returns-in-Failed-clause-whole : goal.returns-in-Failed-clause-whole
returns-in-Failed-clause-whole g c = last-whole g.W.WalkFault.rest c.args.taken c.take.result _ _ _ _ c.in-Done.is (sym (ap (looked_as g.W.WalkFault.rest c.args.taken) c.in-Failed.is)) c.take.ensures.item

pub returns-in-Failed-clause-items : goal.returns-in-Failed-clause-items
returns-in-Failed-clause-items g c =
    last-taken g.W.WalkFault.kinds g.W.WalkFault.rest c.args.taken (g.I.Items.supply c.args.items.now) (g.I.Items.supply c.take.new.self) g.W.WalkFault.rest_is_met g.met.W.WalkFault.rest_is_seen c.take.result _ _ c.in-Done.is (sym (ap (looked_as g.W.WalkFault.rest c.args.taken) c.in-Failed.is))
    (record { cause = c.take.ensures.cause; full = c.take.ensures.full; count = c.take.ensures.count; lenders = c.take.ensures.lenders; known = c.take.ensures.known; met = c.take.ensures.met })

pub returns-in-Full-clause-whole : goal.returns-in-Full-clause-whole
returns-in-Full-clause-whole g c = last-whole g.W.WalkFault.rest c.args.taken c.take.result _ _ _ _ c.in-Done.is (sym (ap (looked_as g.W.WalkFault.rest c.args.taken) c.in-Full.is)) c.take.ensures.item

pub returns-in-Full-clause-items : goal.returns-in-Full-clause-items
returns-in-Full-clause-items g c =
    last-taken g.W.WalkFault.kinds g.W.WalkFault.rest c.args.taken (g.I.Items.supply c.args.items.now) (g.I.Items.supply c.take.new.self) g.W.WalkFault.rest_is_met g.met.W.WalkFault.rest_is_seen c.take.result _ _ c.in-Done.is (sym (ap (looked_as g.W.WalkFault.rest c.args.taken) c.in-Full.is))
    (record { cause = c.take.ensures.cause; full = c.take.ensures.full; count = c.take.ensures.count; lenders = c.take.ensures.lenders; known = c.take.ensures.known; met = c.take.ensures.met })
