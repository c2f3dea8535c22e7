use Rattle.std.proofs.Common.{rules, ◌≡◌, ◌∙◌, ap}
use Rattle.hive_model.specs.Histories.{position}
use Rattle.move_text.specs.Moves.{move_of}
use Rattle.uhp_session.specs.Answers.{reached}
use Rattle.uhp_session.proofs.KeptLaws.{same_place}
use Rattle.uhp_session.proofs.current.Current.read.Goals as goal

pub returns : goal.returns
returns g c =
    let kind : (g.G.Game.history c.self.inside.game).game_type ≡ c.args.self.now.game_type = search rules in
    let made : (g.G.Game.history c.self.inside.game).made ≡ c.args.self.now.made = search rules in
    let board : g.G.Board.stacks c.self.inside.game ≡ (position (g.G.Game.history c.self.inside.game)).board = search rules in
    let place : position (g.G.Game.history c.self.inside.game) ≡ reached c.args.self.now = same_place (g.G.Game.history c.self.inside.game) c.args.self.now kind made in
    c.read_move.ensures.computes ∙ (λ i. move_of ((c.game_type.ensures ∙ kind) i) ((board ∙ ap (λ p. p.board) place) i) c.args.words.now)
