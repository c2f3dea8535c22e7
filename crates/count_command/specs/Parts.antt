-- The parts of a count: what a run that splits a game writes.
use Rattle.std.specs.Prelude.{◌≡◌, ◌⊎◌, ℕ, List, [], ◌∷◌, ◌++◌, decimal}
use Rattle.hive_model.specs.declared.pieces.GameType.{GameType}
use Rattle.hive_model.specs.declared.places.Move.{Move}
use Rattle.hive_model.specs.Positions.{opening}
use Rattle.hive_model.specs.Games.{replay}
use Rattle.hive_model.specs.Strings.{string}
use Rattle.io_edge.specs.Outside.{Told}
use Rattle.command_runs.specs.Answered.{WritesAs}
use Rattle.command_runs.specs.Input.{Sides}
use Rattle.command_runs.specs.GameRun.{Answers, GameRun}
use Rattle.command_runs.specs.declared.status.Status.{Status}
use Rattle.command_runs.specs.declared.status.Status.TheVariants.{Done, Memory}
use Rattle.count_share.specs.declared.classes.MoveClass.{MoveClass}
use Rattle.count_share.specs.Classes.{AreClasses}

-- the line of a class of moves: their number, a space (32), and the game with its first move
abbrev pub part_line : GameType → List Move → MoveClass → List ℕ
part_line t made c = decimal c.weight ++ 32 ∷ (string t (made ++ c.moved ∷ []) ++ 10 ∷ [])

abbrev pub part_lines : GameType → List Move → List MoveClass → List ℕ
part_lines t made [] = []
part_lines t made (c ∷ cs) = part_line t made c ++ part_lines t made cs

-- The lines of classes whose counts, each times the number of its moves, add up to the counts of
-- the game.
abbrev pub IsPartText : GameType → List Move → List ℕ → Type 0
IsPartText t made text =
    (cs : List MoveClass) × AreClasses (replay (opening t) made) cs
    × (text ≡ part_lines t made cs)

-- The parts were written, or an initial part of their text. Or memory ran out, and nothing was
-- written.
abbrev pub TellsParts : GameType → List Move → Status → Told → Told → Type 0
TellsParts t made status before after =
    ((status ≡ Memory) × (after ≡ before))
    ⊎ ((text : List ℕ) × IsPartText t made text × WritesAs text Done status before after)

-- the answer to a game: the parts of its counts
abbrev pub parts_of : Answers
parts_of game text = IsPartText game.game_type game.moves text

-- what was written and read if a run that splits a game ends with this status
abbrev pub PartRun : Status → Sides → Sides → Type 0
PartRun status before after = GameRun parts_of status before after
