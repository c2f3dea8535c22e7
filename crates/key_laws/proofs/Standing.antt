-- Positions stand alike if their keys have the same board.
use Rattle.std.proofs.Common.{map}
use Rattle.hive_model.specs.Pieces.{all_pieces}
use Rattle.hive_model.specs.Boards.{spot_of}
use Rattle.hive_model.specs.Keys.{key, key_of}
use Rattle.hive_model.proofs.SameBoards.{boards_tested}
use Rattle.key_laws.specs.Laws.{SameBoardsStandAlike}
use Rattle.key_laws.proofs.Boards.{boards_by_spots}

pub stand_alike : SameBoardsStandAlike
unfolding key_of
stand_alike p q sp sq kind = (
  λ e. let h = (boards_tested (key p) (key q)).0 e in record { board = boards_by_spots p.board q.board sp.board sq.board h.spots; side = h.side; rest = h.rest },
  λ h. (boards_tested (key p) (key q)).1 (record { spots = λ i. map (spot_of (h.board i)) all_pieces; game_type = kind; side = h.side; rest = h.rest }),
)
