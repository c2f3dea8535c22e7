use Rattle.std.proofs.Common.{◌≡◌, ◌∙◌, ap, sym, subst, MatchOption}
use Rattle.std.proofs.lemmas.Option.{none-some}
use Rattle.command_words.specs.Audits.{AuditOptions, options_in, untimed}
use Rattle.command_words.proofs.AuditLemmas.{texts_are}
use Rattle.command_words.proofs.MatchLemmas.{cared}
use Rattle.command_words.proofs.audits.audit_care.Goals as goal

pub unreachable-requires : goal.unreachable-requires
unreachable-requires c =
    let (a, w) = c.requires in
    subst (λ o. MatchOption o ⊥ (λ x. options_in x ≡ w.options)) c.in_default.is (c.in_ok-texts.ensures.only w.options w.give)

pub unreachable-requires-in_default-care_at : goal.unreachable-requires-in_default-care_at
unreachable-requires-in_default-care_at c =
    let (a, w) = c.requires in
    let same = texts_are c.in-Some.is (c.in_ok-texts.ensures.only w.options w.give) in
    let patience = ap (λ (o : AuditOptions). o.patience) (sym same) in
    let quiet = ap (λ (o : AuditOptions). o.quiet) (sym same) in
    let is = cared _ _ _ _ untimed w.choose.care patience quiet w.choose.care_is in
    none-some _ (sym c.in_default-care_at.is ∙ c.care_at.ensures.only w.choose.care is)

pub returns : goal.returns
returns c =
    (options_in c.in-Some.texts, rw c.in-Some.is at c.in_ok-texts.ensures.found, rw c.in-Some-care_at.is at c.care_at.ensures.found)
