use Rattle.std.proofs.Common.{rules, ◌≡◌, arith, to_z, of_z}
use Rattle.std.proofs.lemmas.Int.{ints}
use mir.Syntax.{w32}
use Rattle.hive_model.specs.Histories.{position}
use Rattle.certificate_citing.specs.Drafts.{with_cite}
use Rattle.certificate_citing.proofs.ShortWalks.{not-cited, on-true, pass-ends}
use Rattle.certificate_citing.proofs.shortening.pass_over.Goals as goal

pub returns-clause-told : goal.returns-clause-told
returns-clause-told g c =
    let p = position (g.G.Game.history c.args.game.now) in
    let x = c.args.least in
    let same : to_z w32 (of_z w32 x) ≡ x = omega (arith, ints, c.requires.small.low, c.requires.small.high) in
    let cited : c.cite.new.self ≡ with_cite c.args.place c.args.draft.now = on-true c.cite.result c.cite.ensures.cited (search rules) in
    pass-ends p c.args.depth x _ c.args.place (g.I.Items.supply c.args.indices.now).left (g.I.Items.supply c.walk-walked.new.indices).left c.args.draft.now c.cite.new.self c.walk-walked.new.taken
    c.walk-walked.result c.requires.served cited same c.walk-walked.ensures.told

pub returns-then-not-cite-clause-told : goal.returns-then-not-cite-clause-told
returns-then-not-cite-clause-told g c =
    let left = (g.I.Items.supply c.args.indices.now).left in
    not-cited (position (g.G.Game.history c.args.game.now)) c.args.depth c.args.least c.args.place left left c.args.draft.now c.cite.new.self c.cite.ensures.uncounted c.requires.inner c.requires.served
