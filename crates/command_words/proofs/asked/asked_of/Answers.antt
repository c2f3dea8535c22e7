use Rattle.std.proofs.Common.{◌≡◌, ◌∙◌, sym, Some}
use Rattle.std.proofs.lemmas.Result.{IfOk-weaker}
use Rattle.std.specs.Prelude.{IfSome}
use Rattle.std.proofs.lemmas.Option.{same_Some}
use Rattle.command_words.specs.declared.asked.Asked.{Asked}
use Rattle.command_words.specs.Words.{Finds, IsInRange, Words}
use Rattle.command_words.proofs.MatchLemmas.{weaker}
use Rattle.command_words.proofs.NameLemmas.{named_first}
use Rattle.command_words.proofs.RangeLemmas.{in_range}
use Rattle.command_words.proofs.asked.asked_of.Goals as goal

pub returns-in-Some-clause-range : goal.returns-in-Some-clause-range
returns-in-Some-clause-range c =
    IfOk-weaker c.asked_by.result (Finds c.args.words.now c.in-Some.name) (λ o. IfSome o (λ a. IsInRange a))
    (λ o finds. weaker o (Words c.args.words.now) IsInRange (in_range c.args.words.now) finds.asked) c.asked_by.ensures.asked

pub returns-in-Some-clause-only : goal.returns-in-Some-clause-only
returns-in-Some-clause-only c =
    IfOk-weaker c.asked_by.result (Finds c.args.words.now c.in-Some.name) (λ o. (a : Asked) → Words c.args.words.now a → o ≡ Some a)
    (λ o finds a w. finds.only a w (same_Some _ _ (sym (named_first c.args.words.now a w) ∙ sym c.named.ensures ∙ c.in-Some.is))) c.asked_by.ensures.asked
