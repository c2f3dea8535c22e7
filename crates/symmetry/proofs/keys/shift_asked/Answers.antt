use Rattle.std.proofs.Common.{arith, sym, ◌∙◌}
use Rattle.hive_model.proofs.PlaceLemmas.{wider, wider_on_board}
use Rattle.symmetry.proofs.keys.shift_asked.Goals as goal

pub place-requires : goal.place-requires
place-requires c =
    let old = c.in-Some.old in
    wider old.place (wider_on_board old.place (c.requires.from c.at-piece.result old (omega arith) (sym c.spot.ensures.spot ∙ c.in-Some.is)))

pub between-requires-clause-to : goal.between-requires-clause-to
between-requires-clause-to c = c.requires.to c.at-piece.result c.in-Some-spot.new (omega arith) (sym c.spot-in-Some.ensures.spot ∙ c.in-Some-spot.is)
