use Rattle.plain_search.proofs.RestLaws.{rest_does_not_matter}
use Rattle.plain_search.proofs.laws.rest_does_not_matter.Goals as goal

pub returns : goal.returns
returns c = rest_does_not_matter
