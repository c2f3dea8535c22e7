use Rattle.std.proofs.Common.{◌≡◌, ◌∙◌, ap, refl}
use Rattle.std.specs.Prelude.{Some, slice_get}
use Rattle.hive_model.specs.Legal.{moves}
use Rattle.hive_model.specs.Histories.{position, History}
use Rattle.search_laws.proofs.NodeLaws.{node-listed}
use Rattle.certificate_walks.proofs.LevelLaws.{node-replies}
use Rattle.certificate_walks.specs.Walks.{place_of}
use Rattle.strategy_make.proofs.MakeLaws.{level-place, place-some, place-at}
use Rattle.strategy_make.proofs.roots.write_least.Goals as goal

pub unwrap-place-requires : goal.unwrap-place-requires
unwrap-place-requires g c =
    let p = position (g.G.Game.history c.args.game.now) in
    let m = c.args.best.now.best in
    let is : c.find_move.result ≡ place_of m (moves p) = level-place _ c.list.new.out (moves p) c.levels-level.result m c.find_move.result c.list.ensures.listed c.levels-level.ensures c.find_move.ensures in
    place-some m (moves p) c.find_move.result is c.requires.legal

pub write_root-written-requires-clause-place : goal.write_root-written-requires-clause-place
write_root-written-requires-clause-place g c =
    let p = position (g.G.Game.history c.args.game.now) in
    let m = c.args.best.now.best in
    let is : c.find_move.result ≡ place_of m (moves p) = level-place _ c.list.new.out (moves p) c.levels-level.result m c.find_move.result c.list.ensures.listed c.levels-level.ensures c.find_move.ensures in
    let here : slice_get (moves p) c.unwrap-place.result ≡ Some m = place-at m (moves p) c.find_move.result c.unwrap-place.result is c.unwrap-place.ensures in
    ap (λ (h : History). slice_get (moves (position h)) c.unwrap-place.result) c.list.ensures.same ∙ here

pub write_root-written-requires-clause-replies : goal.write_root-written-requires-clause-replies
write_root-written-requires-clause-replies g c =
    let start = g.G.Game.history c.args.game.now in
    node-replies _ _ c.args.depth c.levels-level.result
    (node-listed start start _ _ _ c.args.depth c.levels-level.result c.requires.room c.requires.inner refl c.list.ensures.same c.list.ensures.listed c.levels-level.ensures)
