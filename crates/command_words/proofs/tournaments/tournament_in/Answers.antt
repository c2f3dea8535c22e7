use Rattle.std.proofs.Common.{sym, subst, Some}
use Rattle.std.proofs.lemmas.Option.{none-some, same_Some}
use Rattle.command_words.specs.Matches.{IsNumberOr, IsRuleOf, IsSetupOf}
use Rattle.command_words.proofs.tournaments.tournament_in.Goals as goal

pub returns-in_err-setup-clause-only : goal.returns-in_err-setup-clause-only
returns-in_err-setup-clause-only c = λ s r g n p w.
    absurd (none-some _ (c.in_err-setup.ensures.only s (subst (λ k. IsSetupOf k s) (sym c.choices_in.ensures) w.setup_is)))

pub returns-in_err-rounds-clause-only : goal.returns-in_err-rounds-clause-only
returns-in_err-rounds-clause-only c = λ s r g n p w.
    absurd (none-some _ (c.in_err-rounds.ensures.only r (subst (λ t. IsNumberOr t 1 10000 1 r) (sym c.value.ensures) w.rounds_is)))

pub returns-in_err-at_once-clause-only : goal.returns-in_err-at_once-clause-only
returns-in_err-at_once-clause-only c = λ s r g n p w.
    absurd (none-some _ (c.in_err-at_once.ensures.only n (subst (λ t. IsNumberOr t 1 64 1 n) (sym c.value-2.ensures) w.at_once_is)))

pub returns-in_err-gauntlet-clause-only : goal.returns-in_err-gauntlet-clause-only
returns-in_err-gauntlet-clause-only c = λ s r g n p w.
    absurd (none-some _ (c.in_err-gauntlet.ensures.only g (subst (λ t. IsRuleOf t g) (sym c.value-3.ensures) w.gauntlet_is)))

pub returns-in_err-resume-clause-only : goal.returns-in_err-resume-clause-only
returns-in_err-resume-clause-only c = λ s r g n p w.
    absurd (none-some _ (c.in_err-resume.ensures.only p (subst (λ t. IsRuleOf t p) (sym c.value-4.ensures) w.resume_is)))

pub returns-clause-found : goal.returns-clause-found
returns-clause-found c = record {
  setup_is = subst (λ k. IsSetupOf k c.in_ok-setup.setup) c.choices_in.ensures c.in_ok-setup.ensures.found;
  rounds_is = subst (λ t. IsNumberOr t 1 10000 1 c.in_ok-rounds.rounds) c.value.ensures c.in_ok-rounds.ensures.found;
  at_once_is = subst (λ t. IsNumberOr t 1 64 1 c.in_ok-at_once.at_once) c.value-2.ensures c.in_ok-at_once.ensures.found;
  gauntlet_is = subst (λ t. IsRuleOf t c.in_ok-gauntlet.gauntlet) c.value-3.ensures c.in_ok-gauntlet.ensures.found;
  resume_is = subst (λ t. IsRuleOf t c.in_ok-resume.resume) c.value-4.ensures c.in_ok-resume.ensures.found;
}

pub returns-clause-only : goal.returns-clause-only
returns-clause-only c = λ s r g n p w.
    let setup = same_Some _ _ (c.in_ok-setup.ensures.only s (subst (λ k. IsSetupOf k s) (sym c.choices_in.ensures) w.setup_is)) in
    let rounds = same_Some _ _ (c.in_ok-rounds.ensures.only r (subst (λ t. IsNumberOr t 1 10000 1 r) (sym c.value.ensures) w.rounds_is)) in
    let at_once = same_Some _ _ (c.in_ok-at_once.ensures.only n (subst (λ t. IsNumberOr t 1 64 1 n) (sym c.value-2.ensures) w.at_once_is)) in
    let gauntlet = same_Some _ _ (c.in_ok-gauntlet.ensures.only g (subst (λ t. IsRuleOf t g) (sym c.value-3.ensures) w.gauntlet_is)) in
    let resume = same_Some _ _ (c.in_ok-resume.ensures.only p (subst (λ t. IsRuleOf t p) (sym c.value-4.ensures) w.resume_is)) in
    λ j. Some (record {
      setup = setup j;
      rounds = rounds j;
      gauntlet = gauntlet j;
      at_once = at_once j;
      resume = resume j;
    })
