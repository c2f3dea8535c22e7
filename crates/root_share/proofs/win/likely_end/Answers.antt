use Rattle.hive_model.specs.Legal.{moves}
use Rattle.hive_model.specs.Histories.{position}
use Rattle.search_laws.proofs.LoopLaws.{on-at}
use Rattle.root_share.proofs.ChildLaws.{get-is}
use Rattle.root_share.proofs.EndLaws.{some-reply}
use Rattle.root_share.proofs.win.likely_end.Goals as goal

pub end_behind-requires-clause-legal : goal.end_behind-requires-clause-legal
end_behind-requires-clause-legal g c =
    let ms = moves (position (g.G.Game.history c.args.game.now)) in
    on-at ms c.in-Some.place c.get.result (get-is ms c.args.root.now c.in-Some.place c.get.result c.requires.listed c.get.ensures)

pub returns-clause-reply : goal.returns-clause-reply
returns-clause-reply g c =
    let p = position (g.G.Game.history c.args.game.now) in
    some-reply p c.args.depth c.in-Some.place c.get.result c.end_behind.result
    (get-is (moves p) c.args.root.now c.in-Some.place c.get.result c.requires.listed c.get.ensures) c.end_behind.ensures.worth
