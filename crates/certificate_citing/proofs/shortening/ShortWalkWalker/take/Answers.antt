use Rattle.std.proofs.Common.{rules, ◌≡◌, ℤ, None, refl, sym, subst, arith, ◌∙◌, to_z, of_z}
use Rattle.std.proofs.lemmas.Int.{ints}
use mir.Syntax.{w32}
use Rattle.hive_model.specs.Histories.{position}
use Rattle.hive_model.specs.Keys.{key}
use Rattle.certificate_walks.specs.Parts.{EndsHere}
use Rattle.strategy_lemmas.specs.Lemmas.{server}
use Rattle.strategy_lemmas.specs.Short.{short_rules}
use Rattle.certificate_citing.specs.Drafts.{with_index}
use Rattle.certificate_citing.specs.Shortening.{short_ending, short_seen, short_sight}
use Rattle.certificate_citing.specs.ShortTaking.{short_moment}
use Rattle.certificate_citing.proofs.ShortWalks.{found-is, passed-is, server-is, index-added, not-taken, on-false, on-true}
use Rattle.certificate_citing.proofs.shortening.ShortWalkWalker.take.Goals as goal

pub returns-in-Some-clause-told : goal.returns-in-Some-clause-told
returns-in-Some-clause-told g c =
    let p = position (g.G.Game.history c.args.game.now) in
    let x = c.args.least in
    let same : to_z w32 (of_z w32 x) ≡ x = omega (arith, ints, c.requires.small.low, c.requires.small.high) in
    let before = short_seen (g.I.Items.supply c.args.self.now.indices.now).left c.args.self.now.draft.now in
    let after = short_seen (g.I.Items.supply c.pass_over-passed.new.indices).left c.pass_over-passed.new.draft in
    found-is p c.args.depth x c.pass_over-passed.result c.took_of.result before after c.took_of.ensures
    (subst (λ (y : ℤ). EndsHere short_rules short_sight p c.args.depth y before (short_ending c.pass_over-passed.result) after) same c.pass_over-passed.ensures.told)

pub returns-in-Some-clause-part : goal.returns-in-Some-clause-part
returns-in-Some-clause-part g c =
    let passed = c.pass_over-passed.ensures.part in
    passed-is (short_moment g.I.Items.supply) c.pass_over-passed.result c.took_of.result c.args.self.now _ c.took_of.ensures
    (record {
      names = refl;
      cause = passed.cause;
      counted = passed.counted;
      lenders = passed.lenders;
      known = passed.known;
      met = passed.met;
      legal = passed.legal;
    })

pub returns-else-not-add-clause-told : goal.returns-else-not-add-clause-told
returns-else-not-add-clause-told g c =
    let p = position (g.G.Game.history c.args.game.now) in
    let d = c.args.depth in
    let x = c.args.least in
    let draft = c.args.self.now.draft.now in
    let same : to_z w32 (of_z w32 x) ≡ x = omega (arith, ints, c.requires.small.low, c.requires.small.high) in
    let fails : c.first.result ≡ None = search rules in
    let none : server (key p) d x draft.lemmas ≡ None = sym (server-is p c.key.result d x _ draft.lemmas c.first.result c.first.ensures c.key.ensures.key same) ∙ fails in
    let added : c.add.new.self ≡ with_index c.in-Item.place draft = on-true c.add.result c.add.ensures.added (search rules) in
    index-added p d x (g.I.Items.supply c.args.self.now.indices.now).left (g.I.Items.supply c.take.new.self).left draft c.add.new.self c.in-Item.place c.in-Item.ensures.item none added

pub returns-then-not-add-clause-told : goal.returns-then-not-add-clause-told
returns-then-not-add-clause-told g c =
    let p = position (g.G.Game.history c.args.game.now) in
    let d = c.args.depth in
    let x = c.args.least in
    let draft = c.args.self.now.draft.now in
    let same : to_z w32 (of_z w32 x) ≡ x = omega (arith, ints, c.requires.small.low, c.requires.small.high) in
    let fails : c.first.result ≡ None = search rules in
    let none : server (key p) d x draft.lemmas ≡ None = sym (server-is p c.key.result d x _ draft.lemmas c.first.result c.first.ensures c.key.ensures.key same) ∙ fails in
    not-taken p d x (g.I.Items.supply c.args.self.now.indices.now).left (g.I.Items.supply c.take.new.self).left draft c.add.new.self (on-false c.add.result c.add.ensures.uncounted (search rules)) none

pub returns-in-Failed-clause-told : goal.returns-in-Failed-clause-told
returns-in-Failed-clause-told g c =
    let p = position (g.G.Game.history c.args.game.now) in
    let d = c.args.depth in
    let x = c.args.least in
    let draft = c.args.self.now.draft.now in
    let same : to_z w32 (of_z w32 x) ≡ x = omega (arith, ints, c.requires.small.low, c.requires.small.high) in
    let fails : c.first.result ≡ None = search rules in
    let none : server (key p) d x draft.lemmas ≡ None = sym (server-is p c.key.result d x _ draft.lemmas c.first.result c.first.ensures c.key.ensures.key same) ∙ fails in
    not-taken p d x (g.I.Items.supply c.args.self.now.indices.now).left (g.I.Items.supply c.take.new.self).left draft draft refl none

pub returns-in-Full-clause-told : goal.returns-in-Full-clause-told
returns-in-Full-clause-told g c =
    let p = position (g.G.Game.history c.args.game.now) in
    let d = c.args.depth in
    let x = c.args.least in
    let draft = c.args.self.now.draft.now in
    let same : to_z w32 (of_z w32 x) ≡ x = omega (arith, ints, c.requires.small.low, c.requires.small.high) in
    let fails : c.first.result ≡ None = search rules in
    let none : server (key p) d x draft.lemmas ≡ None = sym (server-is p c.key.result d x _ draft.lemmas c.first.result c.first.ensures c.key.ensures.key same) ∙ fails in
    not-taken p d x (g.I.Items.supply c.args.self.now.indices.now).left (g.I.Items.supply c.take.new.self).left draft draft refl none
