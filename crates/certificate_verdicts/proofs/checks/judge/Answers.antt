-- The verdict on a whole input, with a new reader.
use Rattle.std.proofs.Common.{ap, ◌∙◌}
use Rattle.std.specs.Option.{option_map}
use Rattle.io_edge.specs.Lines.{lines}
use Rattle.line_feed.proofs.AheadLemmas.{ahead_begin}
use Rattle.certificate_verdicts.proofs.JudgeLaws.{read-none}
use Rattle.certificate_verdicts.proofs.checks.judge.Goals as goal

pub returns : goal.returns
returns g c = record {
  judged = λ text told. c.judge_lines.ensures.judged (lines text) (ahead_begin c.in-Ok.reader _ c.in-Ok.ensures ∙ ap (option_map lines) told);
  cause = c.judge_lines.ensures.cause;
  read = λ text told. c.judge_lines.ensures.read text (read-none text _ c.in-Ok.reader told c.in-Ok.ensures);
  unread = λ text told e. c.judge_lines.ensures.unread (lines text) (ahead_begin c.in-Ok.reader _ c.in-Ok.ensures ∙ ap (option_map lines) told) text (read-none text _ c.in-Ok.reader told c.in-Ok.ensures) e;
}
