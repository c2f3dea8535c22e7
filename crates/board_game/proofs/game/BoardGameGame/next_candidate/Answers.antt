use Rattle.std.proofs.Common.{w32, ◌≤ℤ◌, refl, sym, ◌∙◌, ap, subst, to_z, of_z}
use Rattle.std.specs.Prelude.{slice_get}
use Rattle.hive_model.specs.Histories.{position}
use Rattle.hive_model.specs.Legal.{moves}
use Rattle.hive_model.specs.Lists.{IsOn}
use Rattle.hive_model.specs.Minimax.{reply_value}
use Rattle.hive_model.proofs.GetLemmas.{on-at}
use Rattle.board_game.proofs.ReachLaws.{more_futile}
use Rattle.board_game.proofs.game.BoardGameGame.next_candidate.Goals as goal

pub is_futile-requires : goal.is_futile-requires
is_futile-requires g c =
    let there = ap (λ ms. slice_get ms c.loop-at.at) (sym c.requires.listed) ∙ c.get.ensures in
    subst (λ k. IsOn (moves (position k)) c.get.result) (sym c.loop-at.invariant.same) (on-at _ _ _ there)

pub loop-at-preserved : goal.loop-at-preserved
loop-at-preserved g c =
    let k = c.args.self.now.history in
    let there = ap (λ ms. slice_get ms c.loop-at.at) (sym c.requires.listed) ∙ c.get.ensures in
    let few = subst (λ u. reply_value (position u) 0 c.get.result ≤ℤ to_z w32 (of_z w32 c.args.alpha)) c.loop-at.invariant.same (c.is_futile.ensures.futile c.if-not-is_futile.false) in
    record {
      same = c.is_futile.ensures.same ∙ c.loop-at.invariant.same;
      count = c.is_futile.ensures.count ∙ c.loop-at.invariant.count;
      futile = more_futile (moves (position k)) (reply_value (position k) 0) _ _ c.args.from c.loop-at.at refl c.loop-at.invariant.futile c.get.result there few;
    }
