use Rattle.std.proofs.Common.{◌≡◌, List, [], sym, ap, subst, ◌∙◌}
use Rattle.hive_model.specs.Games.{AreLegal}
use Rattle.hive_model.specs.Histories.{History, position}
use Rattle.grow_game.specs.declared.plies.Ply.{Ply}
use Rattle.grow_game.specs.Plies.{moves_of}
use Rattle.grow_game.proofs.TurnLaws.{made-legal, made-grown, made-chosen, made-undone, made-again, made-keyed}
use Rattle.grow_game.proofs.growing.grow.Goals as goal

pub undo_all-undone-requires-clause-keyed : goal.undo_all-undone-requires-clause-keyed
undo_all-undone-requires-clause-keyed g c =
    let fresh : (g.G.Game.history c.reserve.new.self).made ≡ [] = ap (λ (h : History). h.made) c.reserve.ensures.same ∙ c.in_ok-game.ensures.empty in
    made-keyed _ _ _ _ _ _ _ c.in_ok-played.ensures.made fresh c.as_slice.ensures.value

pub play_all-requires-clause-legal : goal.play_all-requires-clause-legal
play_all-requires-clause-legal g c =
    let fresh : (g.G.Game.history c.reserve.new.self).made ≡ [] = ap (λ (h : History). h.made) c.reserve.ensures.same ∙ c.in_ok-game.ensures.empty in
    subst (λ (ts : List Ply). AreLegal (position (g.G.Game.history c.undo_all-undone.new.game)) (moves_of ts)) (sym c.as_slice-2.ensures.value)
    (made-legal _ _ _ _ (g.G.Game.history c.undo_all-undone.new.game) _ _ c.in_ok-played.ensures.made fresh c.undo_all-undone.ensures.kind c.undo_all-undone.ensures.none)

pub returns-clause-made : goal.returns-clause-made
returns-clause-made g c =
    let fresh : (g.G.Game.history c.reserve.new.self).made ≡ [] = ap (λ (h : History). h.made) c.reserve.ensures.same ∙ c.in_ok-game.ensures.empty in
    let kind = ap (λ (h : History). h.game_type) c.reserve.ensures.same ∙ c.in_ok-game.ensures.kind in
    made-grown _ _ _ _ (g.G.Game.history c.best_here-best.new.game) _ _ c.in_ok-played.ensures.made fresh kind
    (made-again (g.G.Game.history c.undo_all-undone.new.game) (g.G.Game.history c.play_all.new.game) (g.G.Game.history c.best_here-best.new.game) _ _ c.undo_all-undone.ensures.none c.play_all.ensures.made c.as_slice-2.ensures.value c.best_here-best.ensures.game)

pub returns-clause-moves : goal.returns-clause-moves
returns-clause-moves g c =
    let fresh : (g.G.Game.history c.reserve.new.self).made ≡ [] = ap (λ (h : History). h.made) c.reserve.ensures.same ∙ c.in_ok-game.ensures.empty in
    let kind = ap (λ (h : History). h.game_type) c.reserve.ensures.same ∙ c.in_ok-game.ensures.kind in
    made-chosen _ _ _ _ (g.G.Game.history c.best_here-best.new.game) _ _ c.in_ok-played.ensures.made fresh kind
    (made-again (g.G.Game.history c.undo_all-undone.new.game) (g.G.Game.history c.play_all.new.game) (g.G.Game.history c.best_here-best.new.game) _ _ c.undo_all-undone.ensures.none c.play_all.ensures.made c.as_slice-2.ensures.value c.best_here-best.ensures.game)

pub returns-clause-undone : goal.returns-clause-undone
returns-clause-undone g c =
    made-undone (g.G.Game.history c.best_here-best.new.game) _ _ _ c.undo_all-undone.ensures.undone c.as_slice.ensures.value
    (made-again (g.G.Game.history c.undo_all-undone.new.game) (g.G.Game.history c.play_all.new.game) (g.G.Game.history c.best_here-best.new.game) _ _ c.undo_all-undone.ensures.none c.play_all.ensures.made c.as_slice-2.ensures.value c.best_here-best.ensures.game)
