use Rattle.rule_laws.proofs.SpanLaws.{law}
use Rattle.rule_laws.proofs.spans.hives_are_short.Goals as goal

pub returns : goal.returns
returns c = law
