use Rattle.plain_search.proofs.PlacedLaws.{same_replies}
use Rattle.plain_search.proofs.laws.like_placements_have_the_same_replies.Goals as goal

pub returns : goal.returns
returns c = same_replies
