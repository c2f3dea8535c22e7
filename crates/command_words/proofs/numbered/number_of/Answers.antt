use Rattle.std.proofs.Common.{◌≡◌, sym, ◌∙◌, subst}
use Rattle.std.specs.Prelude.{MatchOption}
use Rattle.hive_model.specs.Fields.{IsNumberText}
use Rattle.command_words.proofs.numbered.number_of.Goals as goal

pub returns-in_default-clause-only : goal.returns-in_default-clause-only
returns-in_default-clause-only c = λ n words.
    absurd (subst (λ o. MatchOption o ⊥ (λ r. r.now ≡ words.value)) c.in_default.is (c.in_ok-value.ensures.only words.value words.give))

pub returns-clause-only : goal.returns-clause-only
returns-clause-only c = λ n words.
    let same : c.in-Some.value.now ≡ words.value =
    subst (λ o. MatchOption o ⊥ (λ r. r.now ≡ words.value)) c.in-Some.is (c.in_ok-value.ensures.only words.value words.give) in
    c.small_number.ensures.only n (subst (λ v. IsNumberText v c.args.least c.args.most n) (sym (c.as_bytes.ensures.value ∙ same)) words.number)
