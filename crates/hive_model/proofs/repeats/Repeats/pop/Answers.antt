use Rattle.std.proofs.Common.{◌≤◌, List, rules, sym, subst}
use Rattle.hive_model.specs.Keys.{KeyParts}
use Rattle.hive_model.specs.NumberCounts.{count_of, AreCounted}
use Rattle.hive_model.proofs.NumberCountLaws.{IsLess, counted_less, last_counted}
use Rattle.hive_model.proofs.repeats.Repeats.pop.Goals as goal

pub count_down-requires : goal.count_down-requires
count_down-requires c =
    let old = c.self.inside.counts in
    let counted = subst (λ (xs : List KeyParts). AreCounted xs old) c.in-Some.ensures.items c.self.invariant.1 in
    subst (λ n. 1 ≤ count_of old n) (sym c.number.ensures) (last_counted c.pop.new.self.items c.in-Some.key old old counted)

pub invariant_of-self : goal.invariant_of-self
invariant_of-self c =
    let old = c.self.inside.counts in
    let new = c.count_down.new.counts in
    let counted = subst (λ (xs : List KeyParts). AreCounted xs old) c.in-Some.ensures.items c.self.invariant.1 in
    let ks = c.pop.new.self.items in
    let key = c.in-Some.key in
    let less = subst (IsLess ks key old new) c.number.ensures (λ n. c.count_down.ensures n) in
    (search rules, counted_less ks key old new counted less)
