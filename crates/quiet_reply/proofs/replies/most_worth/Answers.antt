use Rattle.quiet_reply.proofs.Tests.{bound-fits, bound-is}
use Rattle.quiet_reply.proofs.replies.most_worth.Goals as goal

pub overflow_sub-result : goal.overflow_sub-result
overflow_sub-result c = bound-fits c.rest_weight-weight.result c.args.least _ c.rest_weight-weight.ensures.weight c.rest_weight-weight.ensures.most c.ranges.least c.if-least-ltminus1000000000.false

pub returns-clause-most : goal.returns-clause-most
returns-clause-most c = bound-is c.rest_weight-weight.result c.args.least _ c.rest_weight-weight.ensures.weight c.rest_weight-weight.ensures.most c.ranges.least c.if-least-ltminus1000000000.false
