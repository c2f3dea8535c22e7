use Rattle.std.proofs.Common.{rules, ◌≡◌, ◌<◌, ◌≤◌, cond, ℕ, List, Option, length, Some, arith, ap, sym, subst, ◌∙◌, slice_get, to_z, of_z, w32}
use Rattle.hive_model.specs.Keys.{KeyParts}
use Rattle.indexmap.specs.IndexMap.{IndexMap}
use Rattle.strategy_lemmas.specs.declared.lemmas.Lemma.{Lemma}
use Rattle.strategy_lemmas.specs.Lemmas.{serves_at}
use Rattle.strategy_lemmas.specs.Index.{IsIndexed, last_before}
use Rattle.strategy_lemmas.proofs.IndexLaws.{reach, reach-below, goes-back, is-beside}
use Rattle.strategy_lemmas.proofs.FirstLaws.{IsSoFar, starts, goes-on}
use Rattle.strategy_lemmas.proofs.lemmas.Lemmas.first.Goals as goal
use Rattle.strategy_lemmas.proofs.lemmas.Lemmas.first.Goals.{then-serves, else-serves}

-- the index is one of the lemmas as they are seen
is-indexed : {S : Type 0} (ls kept : List Lemma) (previous : List (Option ℕ)) (last : IndexMap KeyParts ℕ S) → kept ≡ ls → IsIndexed kept previous last → IsIndexed ls previous last
is-indexed ls kept previous last same indexed = subst (λ (xs : List Lemma). IsIndexed xs previous last) same indexed

pub loop-at-init : goal.loop-at-init
loop-at-init c =
    let ls = c.args.self.now in
    let indexed = is-indexed _ _ _ _ c.self.view_is c.self.invariant.3 in
    starts c.args.key.now c.args.depth (to_z w32 (of_z w32 c.args.least)) ls c.copied-at.result
    (c.copied-at.ensures ∙ c.get.ensures.value ∙ indexed.lasts c.args.key.now)

pub index-at-requires : goal.index-at-requires
index-at-requires c =
    let indexed = is-indexed _ _ _ _ c.self.view_is c.self.invariant.3 in
    let within : c.in-Some.place < length c.self.inside.previous.items = is-beside c.args.key.now c.args.self.now _ _ indexed c.loop-at.at c.in-Some.place c.in-Some.is c.loop-at.invariant.here in
    search rules

pub loop-at-smaller : goal.loop-at-smaller
loop-at-smaller c =
    let k = c.args.key.now in
    let ls = c.args.self.now in
    let indexed = is-indexed _ _ _ _ c.self.view_is c.self.invariant.3 in
    let back : c.index-at.result.now ≡ last_before k ls c.in-Some.place =
    goes-back k ls _ _ indexed c.loop-at.at c.in-Some.place c.in-Some.is c.loop-at.invariant.here c.index-at.result.now c.index-at.ensures in
    let below : reach c.index-at.result.now ≤ c.in-Some.place = subst (λ o. reach o ≤ c.in-Some.place) (sym back) (reach-below k ls c.in-Some.place) in
    let here : reach c.loop-at.at ≡ reach (Some c.in-Some.place) = ap reach c.in-Some.is in
    let less : reach c.index-at.result.now < reach c.loop-at.at = omega (arith, below, here) in less

pub loop-at-preserved : goal.loop-at-preserved
loop-at-preserved c =
    let k = c.args.key.now in
    let x = to_z w32 (of_z w32 c.args.least) in
    let ls = c.args.self.now in
    let indexed = is-indexed _ _ _ _ c.self.view_is c.self.invariant.3 in
    let back : c.index-at.result.now ≡ last_before k ls c.in-Some.place =
    goes-back k ls _ _ indexed c.loop-at.at c.in-Some.place c.in-Some.is c.loop-at.invariant.here c.index-at.result.now c.index-at.ensures in
    let found : c.if-serves.found ≡ cond (serves_at k c.args.depth x (slice_get ls c.in-Some.place)) (Some c.in-Some.place) c.loop-at.found =
    elim c.if-serves.branch [
      | then-serves w ↦ w.found-is ∙ sym (ap (λ b. cond b (Some c.in-Some.place) c.loop-at.found) (sym c.serves.ensures ∙ w.if-serves.true))
      | else-serves w ↦ w.found-is ∙ sym (ap (λ b. cond b (Some c.in-Some.place) c.loop-at.found) (sym c.serves.ensures ∙ w.if-serves.false))
    ] in
    subst (λ o. IsSoFar k c.args.depth x ls o c.index-at.result.now) (sym found)
    (goes-on k c.args.depth x ls c.loop-at.found c.index-at.result.now c.in-Some.place back (subst (IsSoFar k c.args.depth x ls c.loop-at.found) c.in-Some.is c.loop-at.invariant))
