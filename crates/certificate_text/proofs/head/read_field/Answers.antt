use Rattle.std.proofs.Common.{rules, refl, ◌≡◌}
use Rattle.std.specs.Prelude.{Err}
use Rattle.certificate_text.specs.Text.{field_in}
use Rattle.certificate_text.proofs.TakenLaws.{line-missing, taken-bad, taken-fault, taken-ok, taken-without}
use Rattle.certificate_text.proofs.head.read_field.Goals as goal

pub returns-in_err-next_text-clause-told : goal.returns-in_err-next_text-clause-told
returns-in_err-next_text-clause-told g c =
    let over : c.from_residual.result ≡ Err c.in_err-next_text.field-0.0 = search rules in
    line-missing c.args.line (field_in c.args.line (g.F.Field.at c.args.field.now)) c.in_err-next_text.field-0.0 _ _ _ _ refl (λ ls. refl) over c.in_err-next_text.ensures.told

pub returns-in_err-next_text-clause-taken : goal.returns-in_err-next_text-clause-taken
returns-in_err-next_text-clause-taken g c =
    let over : c.from_residual.result ≡ Err c.in_err-next_text.field-0.0 = search rules in
    taken-fault 1 c.args.line c.in_err-next_text.field-0.0 _ _ _ _ _ _ _ over c.in_err-next_text.ensures.taken

pub returns-in-Ok-Some-clause-taken : goal.returns-in-Ok-Some-clause-taken
returns-in-Ok-Some-clause-taken g c = taken-ok 1 c.args.line _ _ _ _ _ _ _ _ c.in_ok-next_text.ensures.taken

pub returns-in-Ok-None-clause-taken : goal.returns-in-Ok-None-clause-taken
returns-in-Ok-None-clause-taken g c = taken-bad 1 c.args.line _ _ _ _ _ _ _ c.in_ok-next_text.ensures.taken

pub returns-in-Err-clause-taken : goal.returns-in-Err-clause-taken
returns-in-Err-clause-taken g c = taken-without 1 c.args.line _ _ _ _ _ _ _ c.in_ok-next_text.ensures.taken
