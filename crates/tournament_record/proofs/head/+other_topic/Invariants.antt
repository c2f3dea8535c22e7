use Rattle.std.proofs.Common.{length}
use Rattle.tournament_record.proofs.head.+other_topic.Given as goal

abbrev pub decreases-other_topic : goal.decreases-other_topic
decreases-other_topic l = length l.parts.now
