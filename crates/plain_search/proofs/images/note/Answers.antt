use Rattle.plain_search.proofs.ImageSteps.{known-more}
use Rattle.plain_search.proofs.images.note.Goals as goal

pub returns : goal.returns
returns c = λ p n all here. known-more p n _ _ _ all here c.push.ensures.items
