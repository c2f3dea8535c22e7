use Rattle.std.proofs.Common.{◌∙◌, sym}
use Rattle.hive_model.proofs.PlacementLaws.{may_place_from, from_may_place}
use Rattle.hand_rules.proofs.colours.may_place.Goals as goal

pub returns : goal.returns
returns g c =
    let b = g.B.Board.stacks c.args.board.now in
    (λ h. may_place_from b c.args.colour c.args.place (sym c.may_stand.ensures ∙ h), λ h. c.may_stand.ensures ∙ from_may_place b c.args.colour c.args.place h)
