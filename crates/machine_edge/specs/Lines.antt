-- Which lines to an engine begin a game.
use Rattle.std.specs.Prelude.{ℕ, List, Bool, codes, not, ◌&&◌, nat_eq}
use Rattle.std.specs.List.{starts_with, list_any}

-- Whether a line asks for a new game of a type. After its word there is no semicolon, which a line
-- that names a whole game has.
abbrev pub begins_game_of : List ℕ → Bool
begins_game_of line =
    starts_with nat_eq line (codes "newgame ") && not (list_any (λ byte. nat_eq byte 59) line)
