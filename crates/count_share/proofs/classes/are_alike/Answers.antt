use Rattle.std.proofs.Common.{sym, ◌∙◌}
use Rattle.count_share.proofs.ClassLaws.{shift-alike}
use Rattle.count_share.proofs.classes.are_alike.Goals as goal

pub returns-then-is_some : goal.returns-then-is_some
returns-then-is_some c = λ yes. shift-alike c.alike.result _ _ _ c.alike.ensures.shift (sym c.is_some.ensures ∙ c.if-is_some.true)
