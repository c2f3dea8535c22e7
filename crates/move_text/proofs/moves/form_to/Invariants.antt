use Rattle.std.proofs.Common.{◌≡◌, drop}
use Rattle.std.specs.Prelude.{map}
use Rattle.hive_model.specs.declared.places.Move.TheVariants.{To}
use Rattle.hive_model.specs.Boards.{without}
use Rattle.hive_model.specs.Denotes.{first_named, form_of}
use Rattle.move_text.specs.Moves.{named_beside}
use Rattle.move_text.proofs.moves.form_to.Given as goal

abbrev pub invariant-loop-mark : goal.invariant-loop-mark
invariant-loop-mark g l =
    first_named (without (g.B.Board.stacks l.board) l.piece) l.piece (map (named_beside l.place) (drop l.mark-index l.mark-items))
    ≡ form_of (g.B.Board.stacks l.board) (To l.piece l.place)
