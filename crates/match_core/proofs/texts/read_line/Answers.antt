use Rattle.std.proofs.Common.{rules, ◌≡◌}
use Rattle.hive_model.specs.Histories.{position}
use Rattle.match_core.specs.Texts.{read_of}
use Rattle.match_core.proofs.texts.read_line.Goals as goal

pub returns : goal.returns
unfolding read_of
returns g c =
    let board : g.G.Board.stacks c.args.game.now ≡ (position (g.G.Game.history c.args.game.now)).board = search rules in
    let same : c.read_move.result ≡ read_of c.game_type.result (g.G.Board.stacks c.args.game.now) c.args.line.now = c.read_move.ensures.computes in
    rw (← board, ← c.game_type.ensures) same
