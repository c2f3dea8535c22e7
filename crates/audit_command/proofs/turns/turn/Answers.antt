use Rattle.std.proofs.Common.{ap, subst, sym}
use Rattle.line_feed.specs.Ahead.{ahead_of}
use Rattle.audit_command.proofs.Turning.{HasTaken, taken_none, turns_of, writes_of}
use Rattle.audit_command.proofs.turns.turn.Goals as goal

pub returns-in-Sent-clause-turns : goal.returns-in-Sent-clause-turns
returns-in-Sent-clause-turns g c =
    turns_of c.listen.result c.args.auditor.now c.send.new.auditor c.listen.new.auditor c.args.reader.now (g.L.Source.rest c.args.link.now) (g.L.Source.rest c.send.new.link)
    (ahead_of c.listen.new.reader (g.L.Source.rest c.listen.new.link)) (g.L.Sink.written c.args.link.now) (g.L.Sink.written c.send.new.link) (g.L.Sink.written c.listen.new.link)
    c.requires c.in-Sent.ensures.sends.0 c.in-Sent.ensures.sends.1 c.in-Sent.ensures.rest c.listen.ensures.hears c.listen.ensures.written

pub returns-in-Sent-clause-writes : goal.returns-in-Sent-clause-writes
returns-in-Sent-clause-writes g c =
    writes_of c.listen.result c.send.new.auditor c.listen.new.auditor (ahead_of c.args.reader.now (g.L.Source.rest c.send.new.link)) (ahead_of c.listen.new.reader (g.L.Source.rest c.listen.new.link))
    _ _ _ c.listen.ensures.hears (c.in-Sent.ensures.cause.same (λ x. cc)) c.listen.ensures.writes

pub returns-in-Broke-clause-turns : goal.returns-in-Broke-clause-turns
returns-in-Broke-clause-turns g c = (c.in-Broke.ensures.sends.0, ap (ahead_of c.args.reader.now) c.in-Broke.ensures.rest, c.in-Broke.ensures.sends.1)

pub returns-in-Sent-clause-takes : goal.returns-in-Sent-clause-takes
returns-in-Sent-clause-takes g c =
    let taken : HasTaken (g.L.Source.rest c.send.new.link) (g.L.Source.rest c.listen.new.link) c.args.reader.now.taken c.listen.new.reader.taken = c.listen.ensures.takes in
    subst (λ r. HasTaken r (g.L.Source.rest c.listen.new.link) c.args.reader.now.taken c.listen.new.reader.taken) c.in-Sent.ensures.rest taken

pub returns-in-Broke-clause-takes : goal.returns-in-Broke-clause-takes
returns-in-Broke-clause-takes g c =
    subst (λ r. HasTaken (g.L.Source.rest c.args.link.now) r c.args.reader.now.taken c.args.reader.now.taken) (sym c.in-Broke.ensures.rest) (taken_none (g.L.Source.rest c.args.link.now) c.args.reader.now.taken)

pub returns-in-Memory-clause-takes : goal.returns-in-Memory-clause-takes
returns-in-Memory-clause-takes g c =
    subst (λ r. HasTaken (g.L.Source.rest c.args.link.now) r c.args.reader.now.taken c.args.reader.now.taken) (sym c.in-Memory.ensures.rest) (taken_none (g.L.Source.rest c.args.link.now) c.args.reader.now.taken)
