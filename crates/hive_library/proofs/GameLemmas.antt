-- From what was found on the way to the answer about a game.
use Rattle.std.proofs.Common.{◌≡◌, ◌≢◌, ap, refl}
use Rattle.std.specs.Prelude.{Result, Err}
use Rattle.game_text.specs.Reading.{Fails}
use Rattle.game_text.specs.declared.faults.GameFault.{GameFault}
use Rattle.game_text.specs.declared.faults.GameFault.TheVariants.{Malformed, TooLong, BadMove, IllegalMove, OtherState, OtherTurn, Memory as NoMemory}
use Rattle.game_text.specs.declared.parsed.Parsed.{Parsed}
use Rattle.hive_library.specs.Games.{or_no_game}
use Rattle.hive_library.specs.declared.faults.Fault.{Fault}
use Rattle.hive_library.specs.declared.faults.Fault.TheVariants.{NoGame}

-- every fault of a text, other than running out of memory, says that it is no game
pub no_game : (fault : GameFault) (read : Result Parsed GameFault) → fault ≢ NoMemory → Fails fault read → or_no_game read ≡ Err NoGame
no_game NoMemory read other fails = absurd (other refl)
no_game (Malformed part) read other fails = ap or_no_game fails
no_game TooLong read other fails = ap or_no_game fails
no_game (BadMove number fault) read other fails = ap or_no_game fails
no_game (IllegalMove number) read other fails = ap or_no_game fails
no_game OtherState read other fails = ap or_no_game fails
no_game OtherTurn read other fails = ap or_no_game fails
