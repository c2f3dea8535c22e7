use Rattle.std.proofs.Common.{rules, ◌≡◌}
use Rattle.hive_model.specs.Histories.{position}
use Rattle.audit_core.proofs.Closing.{on_black, on_white, on_none}
use Rattle.audit_core.proofs.sieges.closes_in.Goals as goal

pub returns-then-is : goal.returns-then-is
returns-then-is g c =
    let b = g.G.Board.stacks c.args.game.now in
    let p = position (g.G.Game.history c.args.game.now) in
    let board : b ≡ p.board = search rules in
    on_black p b c.args.place board c.in-Some.piece c.colour.result c.is.result c.in-Some.ensures c.colour.ensures c.is.ensures c.if-is.true

pub returns-else-is : goal.returns-else-is
returns-else-is g c =
    let b = g.G.Board.stacks c.args.game.now in
    let p = position (g.G.Game.history c.args.game.now) in
    let board : b ≡ p.board = search rules in
    on_white p b c.args.place board c.in-Some.piece c.colour.result c.is.result c.is_beside_queen.result c.in-Some.ensures c.colour.ensures c.is.ensures c.if-is.false c.is_beside_queen.ensures

pub returns-in-None : goal.returns-in-None
returns-in-None g c =
    let b = g.G.Board.stacks c.args.game.now in
    let p = position (g.G.Game.history c.args.game.now) in
    let board : b ≡ p.board = search rules in
    on_none p b c.args.place board c.is_beside_queen-in-None.result c.in-None.ensures c.is_beside_queen-in-None.ensures
