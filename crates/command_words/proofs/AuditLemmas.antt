-- The texts that are read are the ones that the words of an audit give.
use Rattle.std.proofs.Common.{◌≡◌, Option, Some, MatchOption, subst}
use Rattle.command_words.specs.declared.audits.AuditTexts.{AuditTexts}
use Rattle.command_words.specs.Audits.{AuditOptions, options_in}

-- texts that were read are these
pub texts_are : {found : Option AuditTexts} {texts : AuditTexts} {options : AuditOptions} → found ≡ Some texts → MatchOption found ⊥ (λ t. options_in t ≡ options) → options_in texts ≡ options
texts_are {options = options} is here = subst (λ o. MatchOption o ⊥ (λ t. options_in t ≡ options)) is here
