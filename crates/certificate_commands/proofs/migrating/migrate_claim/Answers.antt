use Rattle.std.proofs.Common.{rules, arith, subst, sym}
use Rattle.std.specs.Prelude.{Result}
use Rattle.certificate_verdicts.specs.declared.verdict.TextVerdict.{TextVerdict}
use Rattle.certificate_verdicts.specs.declared.verdict.Unread.{Unread}
use Rattle.certificate_verdicts.specs.Reading.{WasReadAs}
use Rattle.certificate_verdicts.specs.Runs.{IsUndecided}
use Rattle.certificate_commands.specs.Verdicts.{of_claim}
use Rattle.certificate_commands.specs.Migrating.{MigratesHead}
use Rattle.certificate_commands.proofs.ClaimLaws.{no-cause}
use Rattle.certificate_commands.proofs.MigrateLaws.{history-items, history-writes, judged-late, judged-writes}
use Rattle.certificate_commands.proofs.migrating.migrate_claim.Goals as goal

pub returns-in-Ok : goal.returns-in-Ok
returns-in-Ok g c =
    let head = c.args.head.now in
    let made = c.in-Ok.field-0 in
    let known = c.requires.known in
    let old = c.requires.old in
    let is = c.in-Ok.ensures.claims in record {
      told = λ left told.
          history-writes head left (g.G.Game.history made.game) made.claim c.migrate_move.result _ _ (omega (arith, known, old)) is (c.migrate_move.ensures.told left told);
      late = c.migrate_move.ensures.late;
      reads = search rules;
      writes = search rules;
      read = c.migrate_move.ensures.read;
      unread = λ left told text r e.
          subst (λ (v : TextVerdict). IsUndecided 5 v text (g.S.Source.rest c.migrate_move.new.input)) (history-items head left (g.G.Game.history made.game) made.claim (omega (arith, known, old)) is) (c.migrate_move.ensures.unread left told text r e);
    }

pub returns-in-Err : goal.returns-in-Err
returns-in-Err g c =
    let head = c.args.head.now in
    let judged = c.in-Err.judged in
    let none = c.in-Err.ensures.none in
    let taken = c.taken_as.ensures in record {
      told = λ left told. judged-writes (of_claim head left) (MigratesHead head left) judged c.taken_as.result _ _ taken.is (none.judges left);
      late = judged-late judged c.taken_as.result _ _ none.refuses taken.is (search rules);
      reads = no-cause _ (λ e. none.has_read (taken.missed.0 e));
      writes = no-cause _ taken.uncut;
      read = λ text r.
          subst (λ (j : Result TextVerdict Unread). WasReadAs 5 j text (g.S.Source.rest c.args.input.now)) (sym taken.judged) (none.read text _ _ r);
      unread = λ left told text r e. absurd (none.has_read (taken.missed.0 e));
    }
