-- What the answer of a whole check that writes tokens says of the walk.
use Rattle.std.proofs.Common.{◌≡◌, ℕ, refl, subst, Option, Some}
use Rattle.certificate_walks.specs.Walks.{WalkEnd, go_on, finish}
use Rattle.certificate_walks.specs.Follows.{Shown, Meets}
use Rattle.certificate_walks.specs.Items.{ToldItems}
use Rattle.certificate_walks.specs.Parts.{ending_of}
use Rattle.certificate_walks.specs.Answers.{CountsBad, StopsUnread, ended, ending}
use Rattle.certificate_walks.specs.Ends.{IsWhole}
use Rattle.certificate_walks.proofs.ItemLaws.{bad-as, unread-as}
use Rattle.certificate_walks.proofs.EndLaws.{Tells, ends-left, whole-answers, whole-counts, whole-unread}
use Rattle.certificate_walks.specs.declared.walker.Walked.{Walked}
use Rattle.certificate_walks.specs.declared.walk_answers.Halt.{Halt as AnyHalt}
use Rattle.certificate_walks.specs.declared.walk_answers.Halt.TheVariants.{Bad, Failed, Full}
use Rattle.certificate_walks.specs.declared.walk_answers.Stop.{Stop}
use Rattle.certificate_walks.specs.declared.walk_answers.WalkAnswer.{WalkAnswer}
use Rattle.certificate_walks.specs.declared.walk_answers.WalkAnswer.TheVariants.{Done}
use Rattle.certificate_walks.specs.declared.walk_answers.Checked.{Checked}
use Rattle.certificate_walks.specs.declared.walk_answers.Checked.TheVariants.{Accepted, Refused, Halted}
use Rattle.strategy_check.specs.declared.why.Why.{Why}
use Rattle.strategy_check.specs.declared.why.Why.TheVariants.{Rest}
use Rattle.strategy_check.specs.Checks.{index_faults}
use Rattle.strategy_lemmas.specs.Short.{ShortSteps, short_rules}
use Rattle.certificate_citing.specs.declared.draft.Draft.{Draft}
use Rattle.certificate_citing.specs.Shortening.{ShortSeen, short_seen, short_sight}
use Rattle.certificate_citing.specs.ShortTaking.{of_short_walk, short_stop_ending}
use Rattle.certificate_citing.specs.Migrating.{ShortAnswers}
use Rattle.certificate_citing.proofs.ShortWalks.{told-is, meets-is}
use Rattle.certificate_citing.proofs.Migrations.{answers-as}

module _ (told : ToldItems ℕ) (d : Draft) where
  seen-tells : Tells short_rules short_sight told d.taken (short_seen told d)
  seen-tells = record {
    items = λ s. s.items.left;
    left = λ s e. (told-is told d s e).left;
    count = λ s e. (told-is told d s e).taken;
    place = refl;
    ends = λ s. refl;
  }

  whole-shortened : (walked : WalkAnswer Why) (answer : Checked Why) (o : WalkEnd ShortSteps Why) → Meets short_sight o (ending walked) (short_seen told d) → IsWhole Rest walked d.taken told answer → (answer ≡ Accepted → walked ≡ Done) → ShortAnswers (go_on o (finish short_rules)) (Some answer) d
  whole-shortened walked Accepted o m whole done =
      let shown : Meets short_sight o Shown (short_seen told d) = subst (λ (w : WalkAnswer Why). Meets short_sight o (ending w) (short_seen told d)) (done refl) m in
      let at_end : IsWhole Rest Done d.taken told Accepted = subst (λ (w : WalkAnswer Why). IsWhole Rest w d.taken told Accepted) (done refl) whole in
      (shown.0, ends-left short_rules short_sight told d.taken (short_seen told d) seen-tells o shown.0 shown.1 shown.2 at_end, (told-is told d shown.0 shown.2).text)
  whole-shortened walked (Refused place why) o m whole done = whole-answers short_rules short_sight told d.taken (short_seen told d) seen-tells Rest walked (Refused place why) o refl m whole
  whole-shortened walked (Halted Bad) o m whole done = whole-answers short_rules short_sight told d.taken (short_seen told d) seen-tells Rest walked (Halted Bad) o refl m whole
  whole-shortened walked (Halted Failed) o m whole done = tt
  whole-shortened walked (Halted Full) o m whole done = tt

  module _ (whole_walk o : WalkEnd ShortSteps Why) (w : Walked (Option (Stop Why))) (walked : WalkAnswer Why) (seen : ShortSeen) (answer : Checked Why) (same : whole_walk ≡ go_on o (finish short_rules)) (m : Meets short_sight o (ending_of short_rules short_stop_ending w) seen) (is : seen ≡ short_seen told d) (ends : Some walked ≡ of_short_walk w) (whole : IsWhole Rest walked d.taken told answer) where
    ends-so : Meets short_sight o (ending walked) (short_seen told d)
    ends-so = subst (λ (x : ShortSeen). Meets short_sight o (ending walked) x) is (meets-is o w (Some walked) seen ends m)

    pub certificate-shortened : (answer ≡ Accepted → walked ≡ Done) → ShortAnswers whole_walk (Some answer) d
    certificate-shortened done = answers-as whole_walk (go_on o (finish short_rules)) (Some answer) d same (whole-shortened walked answer o ends-so whole done)

    pub certificate-counts : (before after : ℕ) → before ≡ ended walked d.taken → (answer ≡ Halted Bad → after ≡ before) → CountsBad whole_walk answer after
    certificate-counts before after count stands =
        bad-as whole_walk (go_on o (finish short_rules)) answer after same
        (whole-counts short_rules short_sight told d.taken (short_seen told d) seen-tells Rest walked answer o before after ends-so whole count stands)

    pub certificate-unread : (before after : ℕ) → before ≡ ended walked d.taken → ((halt : AnyHalt) → answer ≡ Halted halt → after ≡ before) → StopsUnread index_faults whole_walk answer after
    certificate-unread before after count stands =
        unread-as index_faults whole_walk (go_on o (finish short_rules)) answer after same
        (whole-unread short_rules short_sight told d.taken (short_seen told d) seen-tells index_faults (λ q h. h) refl Rest walked answer o before after ends-so whole count stands)
