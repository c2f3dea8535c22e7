use Rattle.std.proofs.Common.{◌≡◌, ◌++◌, ◌∷◌, [], List, rules, sym, subst, ap, ◌∙◌}
use Rattle.hive_model.specs.Keys.{KeyParts}
use Rattle.hive_model.specs.NumberCounts.{AreCounted}
use Rattle.hive_model.proofs.NumberCountLaws.{IsMore, counted_more}
use Rattle.hive_model.proofs.repeats.Repeats.push.Goals as goal

pub invariant_of-self-2 : goal.invariant_of-self-2
invariant_of-self-2 c =
    let ks = c.self.inside.kept.items in
    let old = c.self.inside.counts in
    let new = c.count_up.new.counts in
    let more = subst (IsMore ks c.args.key old new) c.number.ensures (λ n. c.in_ok-count_up.ensures.more n) in
    let items : ks ++ c.args.key ∷ [] ≡ c.push_reserved.new.self.items =
    sym (c.push_reserved.ensures.items ∙ ap (λ (xs : List KeyParts). xs ++ c.args.key ∷ []) c.reserve.ensures.items) in (
      search rules,
      subst (λ (xs : List KeyParts). AreCounted xs new) items (counted_more ks c.args.key old new c.self.invariant.1 more),
    )
