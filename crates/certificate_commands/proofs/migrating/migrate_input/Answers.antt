use Rattle.std.proofs.Common.{ap, ◌∙◌}
use Rattle.std.specs.Option.{option_map}
use Rattle.io_edge.specs.Lines.{lines}
use Rattle.line_feed.proofs.AheadLemmas.{ahead_begin}
use Rattle.certificate_verdicts.proofs.JudgeLaws.{read-none}
use Rattle.certificate_commands.proofs.migrating.migrate_input.Goals as goal

pub returns-clause-told : goal.returns-clause-told
returns-clause-told g c = λ text told. c.migrate_all.ensures.told (lines text) (ahead_begin c.in-Ok.reader _ c.in-Ok.ensures ∙ ap (option_map lines) told)

pub returns-clause-read : goal.returns-clause-read
returns-clause-read g c = λ text told. c.migrate_all.ensures.read text (read-none text _ c.in-Ok.reader told c.in-Ok.ensures)

pub returns-clause-unread : goal.returns-clause-unread
returns-clause-unread g c = λ text told. c.migrate_all.ensures.unread (lines text) (ahead_begin c.in-Ok.reader _ c.in-Ok.ensures ∙ ap (option_map lines) told) text (read-none text _ c.in-Ok.reader told c.in-Ok.ensures)
