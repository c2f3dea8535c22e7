use Rattle.std.proofs.Common.{rules, ◌≡◌, Some, true, false, ◌∙◌, ap, sym}
use Rattle.std.specs.List.{slice_get}
use Rattle.hive_model.specs.Legal.{moves}
use Rattle.hive_model.specs.Histories.{position, History}
use Rattle.search_laws.proofs.LoopLaws.{on-at}
use Rattle.certificate_indices.proofs.WriteLaws.{find-step, find-met, kept-at}
use Rattle.certificate_indices.proofs.writing.find_kept.Goals as goal

pub loop-i-preserved : goal.loop-i-preserved
loop-i-preserved g c =
    let turn = c.loop-i.invariant in
    let start = g.G.Game.history c.args.game.now in
    let here : slice_get (moves (position start)) c.loop-i.i ≡ Some c.get-m.result = sym (ap (λ ms. slice_get ms c.loop-i.i) c.requires.listed) ∙ c.get-m.ensures in
    record {
      game = c.is_kept_below.ensures.game ∙ turn.game;
      same = c.is_kept_below.ensures.same ∙ turn.same;
      place = find-step (position start) c.args.depth c.args.limit c.loop-i.i c.get-m.result here turn.place
          (kept-at start _ c.args.depth c.args.limit c.get-m.result c.is_kept_below.result false turn.game c.is_kept_below.ensures.kept (search rules));
    }

pub is_kept_below-requires-clause-legal : goal.is_kept_below-requires-clause-legal
is_kept_below-requires-clause-legal g c =
    let turn = c.loop-i.invariant in
    let here : slice_get (moves (position (g.G.Game.history c.args.game.now))) c.loop-i.i ≡ Some c.get-m.result = sym (ap (λ ms. slice_get ms c.loop-i.i) c.requires.listed) ∙ c.get-m.ensures in
    on-at _ _ _ (ap (λ (h : History). slice_get (moves (position h)) c.loop-i.i) turn.game ∙ here)

pub returns-then-is_kept_below-clause-found : goal.returns-then-is_kept_below-clause-found
returns-then-is_kept_below-clause-found g c =
    let turn = c.loop-i.invariant in
    let start = g.G.Game.history c.args.game.now in
    let here : slice_get (moves (position start)) c.loop-i.i ≡ Some c.get-m.result = sym (ap (λ ms. slice_get ms c.loop-i.i) c.requires.listed) ∙ c.get-m.ensures in
    find-met (position start) c.args.depth c.args.limit c.loop-i.i c.get-m.result here turn.place
    (kept-at start _ c.args.depth c.args.limit c.get-m.result c.is_kept_below.result true turn.game c.is_kept_below.ensures.kept (search rules))
