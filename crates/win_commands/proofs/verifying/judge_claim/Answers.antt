use Rattle.std.proofs.Common.{rules, sym, ◌∙◌}
use Rattle.certificate_verdicts.proofs.JudgeLaws.{most-read}
use Rattle.win_commands.proofs.JudgedLaws.{claim-lines, judges-as}
use Rattle.win_commands.proofs.verifying.judge_claim.Goals as goal

pub returns-then-is_over : goal.returns-then-is_over
returns-then-is_over g c = record {
  judged = search rules;
  cause = search rules;
  read = λ text r. most-read 4 text _ _ r;
  unread = λ left told text r e. absurd (cc);
}

pub returns : goal.returns
returns g c = judges-as 4 4 _ _ c.judge_indices.result _ _ _ (claim-lines c.args.head (g.G.Game.history c.in-Ok.game) c.in-Ok.ensures.kind (c.in-Ok.ensures.made ∙ c.items.ensures) (sym c.is_over.ensures ∙ c.if-is_over.false)) c.judge_indices.ensures
