-- How the check of a text ends.
use Rattle.std.proofs.Common.{rules}
use Rattle.certificate_verdicts.specs.Judging.{text_verdict}
use Rattle.certificate_verdicts.proofs.JudgeLaws.{verdict-run}
use Rattle.certificate_verdicts.proofs.checks.check_text.Goals as goal

pub returns : goal.returns
returns g c =
    let form = g.F.TextForm in record {
      run = verdict-run form.head_lines (text_verdict form.head_lines form.head_of form.worth) c.judge-judged.result c.tell_judged.result _ _ c.judge-judged.ensures.judged c.judge-judged.ensures.read c.judge-judged.ensures.unread c.tell_judged.ensures.told;
      reads = search rules;
      writes = search rules;
    }
