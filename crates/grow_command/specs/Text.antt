-- What is written about the game that a number makes.
use Rattle.std.specs.Prelude.{ℕ, List, [], ◌∷◌, ◌++◌, length, codes, decimal, Option, Some, None, if◌then◌else◌}
use Rattle.hive_model.specs.declared.pieces.GameType.{GameType}
use Rattle.hive_model.specs.declared.places.Move.{Move}
use Rattle.hive_model.specs.Boards.{Stacks}
use Rattle.hive_model.specs.Positions.{Position, opening}
use Rattle.hive_model.specs.Games.{replay}
use Rattle.hive_model.specs.Legal.{is_over, state}
use Rattle.hive_model.specs.Minimax.{best}
use Rattle.hive_model.specs.Denotes.{text}
use Rattle.hive_model.specs.Fields.{state_bytes, type_bytes}
use Rattle.hive_model.specs.Strings.{string}
use Rattle.certificate_text.specs.Text.{written_line}
use Rattle.grow_game.specs.Growing.{full_type, start, grown_moves, choices}

-- lines, each ended by LF
unfoldable pub lines_text : List (List ℕ) → List ℕ
lines_text [] = []
lines_text (line ∷ others) = written_line line ++ lines_text others

-- the best move of depth 1, or `None` if the game is over
abbrev pub best_here : Position → Option Move
best_here p = if is_over p then None else best p 1

-- a move as written on a board, or `none`
abbrev pub move_field : Stacks → Option Move → List ℕ
move_field board None = codes "none"
move_field board (Some m) = text board m

abbrev pub best_field : Position → List ℕ
best_field p = move_field p.board (best_here p)

-- The eight lines about a game of this type with these moves, which a seed made. `chosen` counts
-- the moves from which they were chosen, and `undone` the plies that were undone as they should be.
abbrev pub lines_about : ℕ → GameType → List Move → ℕ → ℕ → List (List ℕ)
lines_about seed t ms chosen undone =
    (codes "seed " ++ decimal seed)
    ∷ ((codes "type " ++ type_bytes t)
    ∷ ((codes "plies " ++ decimal (length ms))
    ∷ ((codes "state " ++ state_bytes (state (replay (opening t) ms)))
    ∷ ((codes "moves " ++ decimal chosen)
    ∷ ((codes "undone " ++ decimal undone)
    ∷ ((codes "best " ++ best_field (replay (opening t) ms))
    ∷ ((codes "game " ++ string t ms)
    ∷ [])))))))

-- the text about the game that a seed makes in at most this number of plies; each of its plies is
-- undone
unfoldable pub grow_text : ℕ → ℕ → List ℕ
grow_text seed plies =
    let ms = grown_moves seed plies in
    lines_text (lines_about seed full_type ms (choices start ms) (length ms))
