use Rattle.std.proofs.Common.{Some, sym, ◌∙◌, ap, subst}
use Rattle.std.specs.Option.{is_some}
use Rattle.std.proofs.lemmas.Option.{none-some, same_Some}
use Rattle.hive_model.specs.Fields.{IsNumberText}
use Rattle.command_words.specs.declared.engine_limits.EngineLimits.{EngineLimits}
use Rattle.command_words.proofs.audits.audit_at.Goals as goal

pub returns-in_err-most-clause-only : goal.returns-in_err-most-clause-only
returns-in_err-most-clause-only c = λ a w. absurd (none-some _ (c.in_err-most.ensures.only a.most w.most_is))

pub returns-clause-only : goal.returns-clause-only
returns-clause-only c = λ a w.
    let games = same_Some _ _ (c.in_ok-games.ensures.only a.games (subst (λ b. IsNumberText b 1 1000000 a.games) (sym c.as_bytes.ensures.value) w.games_are)) in
    let first = same_Some _ _ (c.in_ok-first.ensures.only a.first w.first_is) in
    let seed = same_Some _ _ (c.in_ok-seed.ensures.only a.seed (subst (λ b. IsNumberText b 0 18446744073709551615 a.seed) (sym c.as_bytes-2.ensures.value) w.seed_is)) in
    let plies = same_Some _ _ (c.in_ok-plies.ensures.only a.plies w.plies_are) in
    let kind = same_Some _ _ (c.in_ok-game_type.ensures.only a.game_type w.kind) in
    let most = same_Some _ _ (c.in_ok-most.ensures.only a.most w.most_is) in
    let care = same_Some _ _ (c.in_ok-care.ensures.only w.care w.care_is) in
    let patient = c.is_some.ensures ∙ (ap (λ (x : EngineLimits). is_some x.limit) care ∙ sym w.patient_is) in
    λ j. Some (record {
      games = games j;
      first = first j;
      seed = seed j;
      plies = plies j;
      game_type = kind j;
      most = most j;
      patient = patient j;
    })
