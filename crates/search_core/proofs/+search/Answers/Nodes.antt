-- What a node answers without a search of its moves.
use Rattle.std.proofs.Common.{rules, ◌≡◌, to_z, of_z, ap, ◌∙◌, Some}
use mir.Syntax.{w32}
use Rattle.std.proofs.lemmas.Int.{to_z-of_z}
use Rattle.hive_model.specs.Histories.{position}
use Rattle.search_core.proofs.EntryLaws.{exact-is}
use Rattle.search_core.proofs.+search.Goals as goal

pub nodes::search_with-returns-in-Some-clause-kept : goal.nodes::search_with-returns-in-Some-clause-kept
nodes::search_with-returns-in-Some-clause-kept g t c =
    let p = position (g.G.Game.history c.args.game.now) in
    let number : to_z w32 (of_z w32 c.in-Some.worth) ≡ c.in-Some.worth = to_z-of_z w32 c.in-Some.worth (search rules) in
    λ e some has deep exact. (
      ap Some (number ∙ c.in-Some.ensures.leaf ∙ exact-is c.args.work.now.table p c.args.node.depth e c.lemma_holds.ensures c.leaf_value.ensures.sound has deep exact),
      c.leaf_value.ensures.count,
    )
