-- Lines that are refused, and a type alone, computed.
use Rattle.std.proofs.Common.{◌≡◌, true, [], Ok, Err, refl}
use Rattle.std.specs.Prelude.{codes, IsOk}
use Rattle.std.specs.Fmt.{digits}
use Rattle.hive_model.specs.Histories.{is_listed}
use Rattle.hive_model.specs.Legal.{moves, state, pairs}
use Rattle.hive_model.specs.Games.{after}
use Rattle.hive_model.specs.Keys.{key_of}
use Rattle.hive_model.specs.Repetition.{keys, times, count_last, same_board}
use Rattle.hive_model.specs.Strings.{parts}
use Rattle.move_text.specs.Scan.{scan}
use Rattle.move_text.specs.Readers.{number_at, type_at, state_at}
use Rattle.game_text.specs.declared.faults.GameFault.TheVariants.{Malformed, IllegalMove, OtherState, OtherTurn}
use Rattle.game_text.specs.Turns.{turn_at}
use Rattle.game_text.specs.Reading.{moves_of, game_under, game_of}

other_turn : game_of (codes "Base;InProgress;Black[1];wS1;bS1 wS1-") ≡ Err OtherTurn
unfolding game_under turn_at number_at type_at state_at parts moves_of scan digits is_listed moves state pairs after
other_turn = refl

other_state : game_of (codes "Base;Draw;Black[1];wS1") ≡ Err OtherState
unfolding game_under turn_at number_at type_at state_at parts moves_of scan digits is_listed moves state pairs after
other_state = refl

fourth_move : game_of (codes "Base;InProgress;Black[2];wS1;bS1 wS1-;wQ -wS1;bQ -wS1") ≡ Err (IllegalMove 4)
unfolding game_under turn_at number_at type_at state_at parts moves_of scan digits is_listed moves state pairs after
fourth_move = refl

empty_part : game_of (codes "Base;InProgress;White[2];wS1;bS1 wS1-;") ≡ Err (Malformed 6)
unfolding game_under turn_at number_at type_at state_at parts moves_of scan digits is_listed moves state pairs after
empty_part = refl

no_type : game_of (codes "Base+PM") ≡ Err (Malformed 1)
unfolding game_under turn_at number_at type_at state_at parts moves_of scan digits
no_type = refl

type_alone : game_of (codes "Base+MLP") ≡ Ok (record { game_type = record { mosquito = true; ladybug = true; pillbug = true }; moves = [] })
unfolding game_under turn_at number_at type_at state_at parts moves_of scan digits
type_alone = refl

-- Third repetition: the queens of both sides go and come back twice

third_on : IsOk (game_under true (codes "Base;Draw;White[7];wA1;bA1 wA1-;wQ -wA1;bQ bA1-;wQ \\wA1;bQ bA1/;wQ -wA1;bQ bA1-;wQ \\wA1;bQ bA1/;wQ -wA1;bQ bA1-"))
unfolding game_under turn_at number_at type_at state_at parts moves_of scan digits is_listed moves state pairs after key_of keys times count_last same_board
third_on = refl

third_off : game_of (codes "Base;Draw;White[7];wA1;bA1 wA1-;wQ -wA1;bQ bA1-;wQ \\wA1;bQ bA1/;wQ -wA1;bQ bA1-;wQ \\wA1;bQ bA1/;wQ -wA1;bQ bA1-") ≡ Err OtherState
unfolding game_under turn_at number_at type_at state_at parts moves_of scan digits is_listed moves state pairs after
third_off = refl

goes_on_no_more : game_under true (codes "Base;InProgress;Black[7];wA1;bA1 wA1-;wQ -wA1;bQ bA1-;wQ \\wA1;bQ bA1/;wQ -wA1;bQ bA1-;wQ \\wA1;bQ bA1/;wQ -wA1;bQ bA1-;wQ \\wA1") ≡ Err (IllegalMove 13)
unfolding game_under turn_at number_at type_at state_at parts moves_of scan digits is_listed moves state pairs after key_of keys times count_last same_board
goes_on_no_more = refl
