use Rattle.std.proofs.Common.{rules, ◌≡◌, ◌++◌, ◌∷◌, [], List, length, cond, Some, Option, ℕ, ap, sym, subst, ◌∙◌}
use Rattle.hive_model.specs.Keys.{KeyParts}
use Rattle.hive_model.specs.SameKeys.{same_key}
use Rattle.indexmap.specs.IndexMap.{get}
use Rattle.strategy_lemmas.specs.declared.lemmas.Lemma.{Lemma}
use Rattle.strategy_lemmas.specs.Index.{IsIndexed, last_before}
use Rattle.strategy_lemmas.proofs.IndexLaws.{index-kept}
use Rattle.strategy_lemmas.proofs.lemmas.Lemmas.keep.Goals as goal

pub invariant_of-self : goal.invariant_of-self
invariant_of-self c =
    let ls = c.self.inside.kept.items in
    let last = c.self.inside.last in
    let key = c.args.key in
    let l : Lemma = record { key = key; depth = c.args.depth; least = c.args.least } in
    let indexed = c.self.invariant.3 in
    let kept : c.push-then-len-lt-MOST.new.self.items ≡ ls ++ l ∷ [] = search rules in
    let previous : c.push.new.self.items ≡ c.self.inside.previous.items ++ c.note_last-previous.result ∷ [] = search rules in
    let before : c.note_last-previous.result ≡ last_before key ls (length ls) = c.note_last-previous.ensures.before ∙ indexed.lasts key in
    let noted : (k : KeyParts) → get same_key c.note_last-previous.new.last k ≡ cond (same_key key k) (Some (length ls)) (get same_key last k) = λ k. search rules in (
      search rules,
      search rules,
      search rules,
      subst (λ (xs : List Lemma). IsIndexed xs c.push.new.self.items c.note_last-previous.new.last) (sym kept)
          (subst (λ (ps : List (Option ℕ)). IsIndexed (ls ++ l ∷ []) ps c.note_last-previous.new.last) (sym (previous ∙ ap (λ p. c.self.inside.previous.items ++ p ∷ []) before))
          (index-kept ls c.self.inside.previous.items last c.note_last-previous.new.last l indexed noted c.note_last-previous.ensures.more c.note_last-previous.ensures.kept)),
    )
