use Rattle.std.proofs.Common.{rules, ◌∙◌, refl, arith}
use Rattle.std.proofs.lemmas.Int.{to_z-of_z}
use mir.Syntax.{w32}
use Rattle.hive_model.specs.Histories.{position}
use Rattle.hive_model.specs.Legal.{moves}
use Rattle.hive_model.specs.Minimax.{nodes}
use Rattle.hive_model.specs.Costs.{share}
use Rattle.search_laws.proofs.NodeLaws.{node-listed}
use Rattle.search_laws.proofs.LoopLaws.{level-in}
use Rattle.search_laws.proofs.HintLaws.{moves-listed}
use Rattle.search_core.specs.Moments.{moment}
use Rattle.search_core.proofs.MomentLaws.{spends-from, spends-level, answers-some, answers-no}
use Rattle.deepening.proofs.RootStops.{some-level, kept-root, top-here}
use Rattle.deepening.proofs.root.best_reply.Goals as goal

pub root_choice-hint-requires-clause-stands : goal.root_choice-hint-requires-clause-stands
root_choice-hint-requires-clause-stands g c = level-in _ _ _ _ c.list.ensures.listed c.levels-level.ensures

pub root_choice-hint-requires-clause-listed : goal.root_choice-hint-requires-clause-listed
root_choice-hint-requires-clause-listed g c = moves-listed _ _ _ _ _ _ c.list.ensures.same refl c.list.ensures.listed c.levels-level.ensures

pub drop_level-requires : goal.drop_level-requires
drop_level-requires g c = some-level _ _ _ _ c.list.ensures.listed c.try_all-found.ensures.spends.before.stack

pub try_all-found-requires : goal.try_all-found-requires
try_all-found-requires g c =
    let start = g.G.Game.history c.args.game.now in
    record {
      node = node-listed start start _ _ _ c.args.depth c.levels-level.result c.requires.room (record { deep = c.requires.some; open_ = c.requires.goes_on }) refl (c.root_choice-hint.ensures.same ∙ c.list.ensures.same)
          c.list.ensures.listed c.levels-level.ensures;
    }

pub keep_found-requires : goal.keep_found-requires
keep_found-requires g c =
    let start = g.G.Game.history c.args.game.now in
    let top = top-here start (g.G.Game.history c.root_choice-hint.new.game) c.args.depth c.in_ok-best.best (c.root_choice-hint.ensures.same ∙ c.list.ensures.same) c.in_ok-best.ensures.answers.found in
    kept-root (position start) c.args.depth _ _ _ c.key-key.ensures.key c.key-key.ensures.sound (to_z-of_z w32 c.in_ok-best.best.value (search rules) ∙ top.worth)

pub returns-in_err-best : goal.returns-in_err-best
returns-in_err-best g c =
    let at = moment g.G.Game.history g.G.Game.played g.C.Clock.readings g.C.Clock.last g.C.Clock.previous in
    let begun = at c.args.game.now c.args.work.now c.args.clock.now in
    let ended = at c.try_all-found.new.game c.try_all-found.new.work c.try_all-found.new.clock in
    let spent = spends-from (λ q. nodes q c.args.depth) (λ q. share q c.args.depth 0 1) (record begun { levels = c.list.new.out })
    (g.G.Game.history c.root_choice-hint.new.game) (g.G.Game.played c.root_choice-hint.new.game) ended (c.root_choice-hint.ensures.same ∙ c.list.ensures.same) (c.root_choice-hint.ensures.count ∙ c.list.ensures.count) c.try_all-found.ensures.spends in
    record {
      spends = spends-level begun c.list.new.out c.drop_level.new.self ended (moves (position (g.G.Game.history c.args.game.now))) _ _ (omega (arith, c.requires.some, c.requires.room.free)) c.list.ensures.listed c.drop_level.ensures spent;
      answers = answers-no _ c.from_residual.result _ _ (search rules) (c.try_all-found.ensures.answers.ended c.in_err-best.was);
    }

pub returns : goal.returns
returns g c =
    let at = moment g.G.Game.history g.G.Game.played g.C.Clock.readings g.C.Clock.last g.C.Clock.previous in
    let begun = at c.args.game.now c.args.work.now c.args.clock.now in
    let ended = at c.try_all-found.new.game c.try_all-found.new.work c.try_all-found.new.clock in
    let spent = spends-from (λ q. nodes q c.args.depth) (λ q. share q c.args.depth 0 1) (record begun { levels = c.list.new.out })
    (g.G.Game.history c.root_choice-hint.new.game) (g.G.Game.played c.root_choice-hint.new.game) ended (c.root_choice-hint.ensures.same ∙ c.list.ensures.same) (c.root_choice-hint.ensures.count ∙ c.list.ensures.count) c.try_all-found.ensures.spends in
    record {
      spends = spends-level begun c.list.new.out c.drop_level.new.self ended (moves (position (g.G.Game.history c.args.game.now))) _ _ (omega (arith, c.requires.some, c.requires.room.free)) c.list.ensures.listed c.drop_level.ensures spent;
      answers = answers-some _ _ _ _
          (top-here (g.G.Game.history c.args.game.now) (g.G.Game.history c.root_choice-hint.new.game) c.args.depth c.in_ok-best.best (c.root_choice-hint.ensures.same ∙ c.list.ensures.same) c.in_ok-best.ensures.answers.found)
          c.in_ok-best.ensures.answers.in_time;
    }
