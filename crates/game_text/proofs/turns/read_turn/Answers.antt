use Rattle.std.proofs.Common.{◌∙◌, sym, Some, None}
use Rattle.game_text.proofs.TurnLaws.{no_turn, turn_read}
use Rattle.game_text.proofs.turns.read_turn.Goals as goal

pub returns-in_default : goal.returns-in_default
returns-in_default c = sym (no_turn c.args.text.now (λ digits e. c.bracketed.ensures.white digits e c.in_default.is) (λ digits e. c.bracketed.ensures.black digits e c.in_default.is))

pub returns-in-Some-read_number : goal.returns-in-Some-read_number
returns-in-Some-read_number c =
    turn_read c.args.text.now c.in-Some.digits.now c.in-Some.side (Some c.in-Some-read_number.number) c.in-Some.ensures.found (sym c.in-Some-read_number.is ∙ c.read_number.ensures.value)

pub returns-in-None : goal.returns-in-None
returns-in-None c = turn_read c.args.text.now c.in-Some.digits.now c.in-Some.side None c.in-Some.ensures.found (sym c.in-None.is ∙ c.read_number.ensures.value)
