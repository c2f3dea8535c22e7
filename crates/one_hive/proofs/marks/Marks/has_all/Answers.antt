use Rattle.std.proofs.Common.{sym, subst}
use Rattle.one_hive.specs.Visits.{IsSet}
use Rattle.one_hive.proofs.RoundLaws.{all_yes, all_no}
use Rattle.one_hive.proofs.marks.Marks.has_all.Goals as goal

pub returns : goal.returns
returns c = (
  λ e x h. subst (λ ms. IsSet ms x) c.self.view_is (all_yes c.self.inside.bits c.wanted.inside.bits e x (subst (λ ms. IsSet ms x) (sym c.wanted.view_is) h)),
  λ all. all_no c.self.inside.bits c.wanted.inside.bits c.wanted.invariant (λ x h. subst (λ ms. IsSet ms x) (sym c.self.view_is) (all x (subst (λ ms. IsSet ms x) c.wanted.view_is h))),
)
