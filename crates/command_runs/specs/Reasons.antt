-- Why a text is not a game.
use Rattle.std.specs.Prelude.{List, [], ◌++◌, ℕ, codes, decimal}
use Rattle.game_text.specs.declared.faults.GameFault.{GameFault}
use Rattle.game_text.specs.declared.faults.GameFault.TheVariants.{Malformed, TooLong as TooManyPlies, BadMove, IllegalMove, OtherState, OtherTurn, Memory as NoMemory}

-- Why a text is not a game. Running out of memory is not a fault of the text.
abbrev pub reason : GameFault → List ℕ
reason (Malformed part) = codes "malformed part " ++ decimal part
reason TooManyPlies = codes "too many plies"
reason (BadMove number fault) = codes "illegal move " ++ decimal number
reason (IllegalMove number) = codes "illegal move " ++ decimal number
reason OtherState = codes "other state"
reason OtherTurn = codes "other turn"
reason NoMemory = []
