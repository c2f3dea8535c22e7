use Rattle.std.proofs.Common.{rules, ◌≡◌, ◌∙◌}
use Rattle.hive_model.specs.Histories.{position}
use Rattle.move_text.specs.Moves.{move_of}
use Rattle.hive_library.proofs.games.read_in.Goals as goal

pub returns : goal.returns
returns g c =
    let board : g.G.Board.stacks c.args.game.now ≡ (position (g.G.Game.history c.args.game.now)).board = search rules in
    c.read_move.ensures.computes ∙ (λ i. move_of (c.game_type.ensures i) (board i) c.args.words.now)
