use Rattle.std.proofs.Common.{rules, refl}
use Rattle.certificate_indices.proofs.WriteLaws.{wrote-then, index-written}
use Rattle.certificate_citing.proofs.ShortWalks.{on-true}
use Rattle.certificate_citing.proofs.migrating.write_both.Goals as goal

pub returns-clause-wrote : goal.returns-clause-wrote
returns-clause-wrote g c =
    let a = g.K.Sink.written c.args.sink.now in
    let b = g.K.Sink.written c.write_all.new.sink in
    let e = g.K.Sink.written c.write_all-2.new.sink in
    wrote-then c.write_all-2.result c.args.head.now c.args.lines.now a b e (on-true c.write_all.result c.write_all.ensures.all (search rules))
    (index-written c.write_all-2.result c.args.lines.now c.args.lines.now b e refl c.write_all-2.ensures.all c.write_all-2.ensures.part)
