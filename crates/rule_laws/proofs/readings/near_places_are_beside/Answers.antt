use Rattle.rule_laws.proofs.QueenLaws.{beside_near}
use Rattle.rule_laws.proofs.readings.near_places_are_beside.Goals as goal

pub returns : goal.returns
returns c = beside_near
