use Rattle.std.proofs.Common.{◌≡◌, sym, subst, arith, to_z, of_z}
use Rattle.std.proofs.lemmas.Int.{ints}
use mir.Syntax.{w32}
use Rattle.hive_model.specs.Histories.{position}
use Rattle.hive_model.specs.Keys.{key}
use Rattle.strategy_lemmas.specs.Lemmas.{AreTrue, with_lemma}
use Rattle.strategy_lemmas.proofs.CitedLaws.{keeps-true-lemmas}
use Rattle.strategy_lemmas.proofs.CiteWalks.{kept-is}
use Rattle.strategy_lemmas.proofs.cited_walk.CiteWalkWalker.keep.Goals as goal

pub returns-clause-true_ : goal.returns-clause-true_
returns-clause-true_ g c =
    let p = position (g.G.Game.history c.args.game.now) in
    let x = c.args.least in
    let before = c.args.self.now.lemmas.now in
    let same : to_z w32 (of_z w32 x) ≡ x = omega (arith, ints, c.requires.small.low, c.requires.small.high) in
    let kept : c.keep.new.self ≡ with_lemma (key p) c.args.depth x before = kept-is _ (key p) c.args.depth x _ before c.keep.new.self c.keep.ensures c.key.ensures.key same in
    λ inv shown. subst AreTrue (sym kept) (keeps-true-lemmas p c.args.depth x before c.key.ensures.sound inv shown)
