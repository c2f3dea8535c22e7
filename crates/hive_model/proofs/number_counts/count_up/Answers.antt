use Rattle.std.proofs.Common.{◌+◌, ◌∙◌, ap, cond, Some}
use Rattle.indexmap.specs.IndexMap.{get}
use Rattle.hive_model.specs.NumberCounts.{or_none, count_of}
use Rattle.std.specs.Prelude.{nat_eq}
use Rattle.hive_model.proofs.NumberCountLaws.{count_set}
use Rattle.hive_model.proofs.number_counts.count_up.Goals as goal

pub returns-in-Ok-clause-more : goal.returns-in-Ok-clause-more
returns-in-Ok-clause-more c =
    let old = c.args.counts.now in
    let number = c.args.number in
    λ n. ap or_none (c.in-Ok.ensures.updates.0 n)
    ∙ count_set (nat_eq number n) (Some (c.count_of-count.result + 1)) (get nat_eq old n)
    ∙ ap (λ i. cond (nat_eq number n) (i + 1) (count_of old n)) c.count_of-count.ensures
