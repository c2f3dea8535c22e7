use Rattle.std.proofs.Common.{rules, ap, drop, refl, subst, sym}
use Rattle.std.specs.Prelude.{Result, Err}
use Rattle.certificate_verdicts.specs.declared.verdict.TextVerdict.{TextVerdict}
use Rattle.certificate_verdicts.specs.declared.verdict.Unread.{Unread}
use Rattle.certificate_verdicts.specs.Reading.{WasReadAs}
use Rattle.certificate_verdicts.proofs.TextLaws.{broken-unread, fault-judges, head-undecided}
use Rattle.certificate_text.specs.Text.{head_of}
use Rattle.certificate_commands.specs.Verdicts.{claim-not-yet, of_claim}
use Rattle.certificate_commands.specs.Migrating.{MigratesTo, first_verdict}
use Rattle.certificate_commands.proofs.MigrateLaws.{all-writes, fault-refuses, judged-late, judged-writes}
use Rattle.certificate_commands.proofs.migrating.migrate_all.Goals as goal

pub returns-in-Ok : goal.returns-in-Ok
returns-in-Ok g c = record {
  told = λ left told.
      let read = c.in-Ok.ensures.told left told in
      all-writes left c.in-Ok.head c.migrate_claim.result _ _ read.0 (c.migrate_claim.ensures.told (drop 5 left) read.1);
  late = c.migrate_claim.ensures.late;
  reads = search rules;
  writes = search rules;
  read = λ text r. c.migrate_claim.ensures.read text (c.in-Ok.ensures.taken.read text 0 refl r);
  unread = λ left told text r e.
      let read = c.in-Ok.ensures.told left told in
      head-undecided 5 (head_of 1) of_claim left c.in-Ok.head text _ read.0 (c.migrate_claim.ensures.unread (drop 5 left) read.1 text (c.in-Ok.ensures.taken.read text 0 refl r) e);
}

pub returns-in-Err : goal.returns-in-Err
returns-in-Err g c =
    let fault = c.in-Err.fault in let judged = c.fault_verdict.result in let taken = c.taken_as.result in record {
      told = λ left told.
          judged-writes (first_verdict left) (MigratesTo left) judged taken _ _ c.taken_as.ensures.is
          (fault-judges 5 (head_of 1) of_claim left fault judged _ c.fault_verdict.ensures.is (c.in-Err.ensures.told left told));
      late = judged-late judged taken _ _ (fault-refuses fault judged c.fault_verdict.ensures.is) c.taken_as.ensures.is (search rules);
      reads = search rules;
      writes = search rules;
      read = λ text r.
          subst (λ (j : Result TextVerdict Unread). WasReadAs 5 j text (g.S.Source.rest c.read_head.new.source)) (sym c.taken_as.ensures.judged)
          (c.fault_verdict.ensures.read 5 text _ _ (c.in-Err.ensures.taken.read text 0 refl r) (λ e. c.in-Err.ensures.taken.failed (ap Err e)) (λ e. c.in-Err.ensures.taken.full (ap Err e)));
      unread = λ left told text r e.
          let failed = c.fault_verdict.ensures.failed.0 (c.taken_as.ensures.missed.0 e) in
          broken-unread 5 (head_of 1) of_claim claim-not-yet left text _ _ (c.in-Err.ensures.unread left told text r (ap Err failed));
    }
