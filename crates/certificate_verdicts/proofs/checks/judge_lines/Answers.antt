-- The verdict on the lines to come, by whether they have a head.
use Rattle.std.proofs.Common.{◌≡◌, rules, ap, arith, drop, subst, sym}
use Rattle.std.specs.Prelude.{Ok, Err}
use Rattle.certificate_verdicts.specs.declared.verdict.TextVerdict.{TextVerdict}
use Rattle.certificate_verdicts.specs.Reading.{Judges}
use Rattle.certificate_verdicts.proofs.TextLaws.{broken-unread, fault-judges, head-undecided, verdict-is}
use Rattle.certificate_verdicts.proofs.checks.judge_lines.Goals as goal

pub returns-in-Ok : goal.returns-in-Ok
returns-in-Ok g c =
    let form = g.F.TextForm in record {
      judged = λ left told.
          let read = c.in-Ok.ensures.takes.told left told in
          subst (λ (v : TextVerdict). Judges c.judge_claim.result v) (sym (verdict-is form.head_lines form.head_of form.worth left (Ok c.in-Ok.head) read.0)) (c.judge_claim.ensures.judged (drop form.head_lines left) read.1);
      cause = search rules;
      read = λ text r. c.judge_claim.ensures.read text (c.in-Ok.ensures.takes.taken.read text 0 (omega arith) r);
      unread = λ left told text r e.
          let read = c.in-Ok.ensures.takes.told left told in
          head-undecided form.head_lines form.head_of form.worth left c.in-Ok.head text _ read.0
          (c.judge_claim.ensures.unread (drop form.head_lines left) read.1 text (c.in-Ok.ensures.takes.taken.read text 0 (omega arith) r) e);
    }

pub returns-in-Err : goal.returns-in-Err
returns-in-Err g c =
    let form = g.F.TextForm in record {
      judged = λ left told. fault-judges form.head_lines form.head_of form.worth left c.in-Err.fault c.fault_verdict.result _ c.fault_verdict.ensures.is (c.in-Err.ensures.takes.told left told);
      cause = search rules;
      read = λ text r. c.fault_verdict.ensures.read form.head_lines text _ _ (c.in-Err.ensures.takes.taken.read text 0 (omega arith) r) (λ e. c.in-Err.ensures.takes.taken.failed (ap Err e)) (λ e. c.in-Err.ensures.takes.taken.full (ap Err e));
      unread = λ left told text r e.
          let failed = c.fault_verdict.ensures.failed.0 e in
          broken-unread form.head_lines form.head_of form.worth form.not_yet left text _ _ (c.in-Err.ensures.takes.unread left told text r (ap Err failed));
    }
