use Rattle.std.proofs.lemmas.Bool.{eq-eqb, ne_eqb}
use Rattle.std.specs.Prelude.{nat_eq}
use Rattle.certificate_commands.proofs.JudgedLaws.{if-first, if-later, judges-as}
use Rattle.certificate_commands.proofs.checking.judge_move.Goals as goal

pub returns-then-version-eq1 : goal.returns-then-version-eq1
returns-then-version-eq1 g c = judges-as 5 5 _ _ c.judge_indices.result _ _ _ (λ left. if-first (nat_eq c.args.version 1) _ _ (eq-eqb _ _ c.if-version-eq1.true)) c.judge_indices.ensures

pub returns : goal.returns
returns g c = judges-as 5 5 _ _ c.judge_tokens.result _ _ _ (λ left. if-later (nat_eq c.args.version 1) _ _ (ne_eqb _ _ c.if-version-eq1.false)) c.judge_tokens.ensures
