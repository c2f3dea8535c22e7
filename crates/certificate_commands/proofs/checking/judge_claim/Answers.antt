use Rattle.certificate_commands.proofs.ClaimLaws.{no-cause}
use Rattle.certificate_commands.proofs.JudgedLaws.{claim-lines, judges-as}
use Rattle.certificate_commands.proofs.checking.judge_claim.Goals as goal

pub returns-in-Err : goal.returns-in-Err
returns-in-Err g c =
    let none = c.in-Err.ensures.none in record {
      judged = λ left told. none.judges left;
      cause = no-cause _ none.has_read;
      read = λ text r. none.read text _ _ r;
      unread = λ left told text r e. absurd (none.has_read e);
    }

pub returns-in-Ok : goal.returns-in-Ok
returns-in-Ok g c = judges-as 5 5 _ _ c.judge_move.result _ _ _ (claim-lines c.args.head.now _ _ c.in-Ok.ensures.claims) c.judge_move.ensures
