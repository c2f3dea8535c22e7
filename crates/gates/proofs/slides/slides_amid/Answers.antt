use Rattle.gates.proofs.Rings.{row_slides, row_low}
use Rattle.gates.proofs.slides.slides_amid.Goals as goal

pub returns-clause-slides : goal.returns-clause-slides
returns-clause-slides c = λ r is d. row_slides c.args.mask r is d

pub returns-clause-bound : goal.returns-clause-bound
returns-clause-bound c = row_low c.args.mask
