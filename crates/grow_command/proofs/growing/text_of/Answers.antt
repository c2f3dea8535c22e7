use Rattle.std.specs.Prelude.{◌≡◌, IfOk}
use Rattle.grow_command.proofs.TextLaws.{told-text}
use Rattle.std.proofs.Common.{subst}
use Rattle.grow_command.proofs.growing.text_of.Goals as goal

pub returns : goal.returns
returns g c =
    let history = g.G.Game.history c.in_ok-grown.grown.game in
    let made = c.in_ok-grown.ensures in
    subst (λ x. IfOk c.text_about.result (λ t. t ≡ x))
    (told-text c.args.seed c.args.plies history.game_type history.made c.in_ok-grown.grown.moves c.in_ok-grown.grown.undone made.kind made.made made.moves made.undone) c.text_about.ensures
