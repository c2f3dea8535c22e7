-- What an answer means for the lines to come and for the counts follows from the bytes that were
-- read.
use Rattle.std.proofs.Common.{ap, sym, ◌∙◌}
use Rattle.line_feed.specs.Feed.{Reading}
use Rattle.line_feed.proofs.AheadLemmas.{short_advances, short_fits, short_passes, short_full, none_after_end}
use Rattle.line_feed.proofs.reader.LineReader.next_short_line.Goals as goal

pub returns-then-self-clause-ahead : goal.returns-then-self-clause-ahead
returns-then-self-clause-ahead g c = let none = none_after_end _ _ (sym (ap (λ (r : Reading). r.finished) c.self.view_is) ∙ c.if-self.true) in (none, none)

pub returns-clause-ahead : goal.returns-clause-ahead
returns-clause-ahead g c = short_advances _ _ _ _ _ c.read_short-answer.ensures.fed

pub returns-clause-fits : goal.returns-clause-fits
returns-clause-fits g c = short_fits _ _ _ _ _ c.read_short-answer.ensures.fed

pub returns-clause-passes : goal.returns-clause-passes
returns-clause-passes g c = short_passes _ _ _ _ _ c.read_short-answer.ensures.fed

pub returns-clause-full : goal.returns-clause-full
returns-clause-full g c = short_full _ _ _ _ _ c.read_short-answer.ensures.fed c.read_short-answer.ensures.counts
