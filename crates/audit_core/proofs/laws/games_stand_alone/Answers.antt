use Rattle.std.proofs.Common.{ap, ◌∙◌}
use Rattle.audit_core.specs.Drawing.{is_siege, state_of, type_of}
use Rattle.audit_core.specs.AuditState.{games_before}
use Rattle.audit_core.proofs.laws.games_stand_alone.Goals as goal

pub returns : goal.returns
returns c = λ s t one. record {
  kind = ap (λ asked. type_of asked s.plays (games_before s)) one.asked ∙ (ap (λ plays. type_of t.plan.game_type plays (games_before s)) one.plays ∙ ap (type_of t.plan.game_type t.plays) one.number);
  state = ap (λ seed. state_of seed (games_before s)) one.seed ∙ ap (state_of t.plan.seed) one.number;
  siege = ap (λ seed. is_siege seed (games_before s)) one.seed ∙ ap (is_siege t.plan.seed) one.number;
}
