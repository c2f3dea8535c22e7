use Rattle.std.proofs.Common.{◌≡◌, sym, subst, MatchOption}
use Rattle.command_words.specs.Audits.{ChooseAudit, options_in}
use Rattle.command_words.proofs.AuditLemmas.{texts_are}
use Rattle.command_words.proofs.audits.audit_of.Goals as goal

pub returns-in-Some-clause-only : goal.returns-in-Some-clause-only
returns-in-Some-clause-only c = λ a w.
    let same = texts_are c.in-Some.is (c.in_ok-texts.ensures.only w.options w.give) in
    c.audit_at.ensures.only a (subst (λ o. ChooseAudit o a) (sym same) w.choose)

pub returns-in-None-clause-only : goal.returns-in-None-clause-only
returns-in-None-clause-only c = λ a w.
    absurd (subst (λ o. MatchOption o ⊥ (λ x. options_in x ≡ w.options)) c.in-None.is (c.in_ok-texts.ensures.only w.options w.give))
