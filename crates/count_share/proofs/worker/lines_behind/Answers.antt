use Rattle.plain_search.proofs.CountSteps.{behind-count}
use Rattle.count_share.proofs.worker.lines_behind.Goals as goal

pub returns-clause-count : goal.returns-clause-count
returns-clause-count g c = behind-count _ _ _ _ _ c.play.ensures.moved c.count_lines-lines.ensures.count
