use Rattle.std.proofs.Common.{sym}
use Rattle.hive_model.proofs.BoardLemmas.{spot_within}
use Rattle.hive_model.proofs.PlaceLemmas.{wider, wider_on_board}
use Rattle.search_core.proofs.wins.besieged_home.Goals as goal

pub neighbours-requires : goal.neighbours-requires
neighbours-requires g c =
    let b = g.G.Board.stacks c.args.game.now in
    wider _ (wider_on_board _ (spot_within b c.spot.ensures.board c.args.queen c.in-Some.spot (sym c.in-Some.ensures.spot)))
