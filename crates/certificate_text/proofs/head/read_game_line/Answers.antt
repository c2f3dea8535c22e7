use Rattle.std.proofs.Common.{rules, refl, ◌≡◌}
use Rattle.std.specs.Prelude.{Err}
use Rattle.certificate_text.specs.Text.{game_in}
use Rattle.certificate_text.proofs.TakenLaws.{game-last, line-missing, taken-as, taken-fault}
use Rattle.certificate_text.proofs.head.read_game_line.Goals as goal

pub returns-in_err-next_text-clause-told : goal.returns-in_err-next_text-clause-told
returns-in_err-next_text-clause-told g c =
    let over : c.from_residual.result ≡ Err c.in_err-next_text.field-0.0 = search rules in
    line-missing 2 game_in c.in_err-next_text.field-0.0 _ _ _ _ refl (λ ls. refl) over c.in_err-next_text.ensures.told

pub returns-in_err-next_text-clause-taken : goal.returns-in_err-next_text-clause-taken
returns-in_err-next_text-clause-taken g c =
    let over : c.from_residual.result ≡ Err c.in_err-next_text.field-0.0 = search rules in
    taken-fault 1 2 c.in_err-next_text.field-0.0 _ _ _ _ _ _ _ over c.in_err-next_text.ensures.taken

pub returns-clause-taken : goal.returns-clause-taken
returns-clause-taken g c =
    taken-as 1 2 _ c.line_game.result _ _ _ _ _ _ (game-last _ _ c.line_game.ensures.read) c.line_game.ensures.no_read c.line_game.ensures.no_full c.in_ok-next_text.ensures.taken
