use Rattle.std.proofs.Common.{◌≡◌, ◌-◌, ◌∙◌, ap, arith, cond, Some, None}
use Rattle.indexmap.specs.IndexMap.{get}
use Rattle.hive_model.specs.NumberCounts.{or_none, count_of}
use Rattle.std.specs.Prelude.{nat_eq}
use Rattle.hive_model.proofs.NumberCountLaws.{count_set, must_do, stands_counted}
use Rattle.hive_model.proofs.number_counts.count_down.Goals as goal

pub returns-then-count-eq1 : goal.returns-then-count-eq1
returns-then-count-eq1 c =
    let old = c.args.counts.now in
    let number = c.args.number in
    let none : 0 ≡ count_of old number - 1 = (let one = c.if-count-eq1.true in let is = c.count_of-count.ensures in omega (arith, one, is)) in
    λ n. ap or_none (c.swap_remove.ensures.updates.0 n)
    ∙ count_set (nat_eq number n) None (get nat_eq old n)
    ∙ ap (λ i. cond (nat_eq number n) i (count_of old n)) none

pub returns-else-count-eq1 : goal.returns-else-count-eq1
returns-else-count-eq1 c =
    let old = c.args.counts.now in
    let number = c.args.number in
    let updates = must_do c.insert.result c.insert.ensures.absent (stands_counted (get nat_eq old number) c.requires) c.insert.ensures.updates in
    λ n. ap or_none (updates.0 n)
    ∙ count_set (nat_eq number n) (Some (c.count_of-count.result - 1)) (get nat_eq old n)
    ∙ ap (λ i. cond (nat_eq number n) (i - 1) (count_of old n)) c.count_of-count.ensures
