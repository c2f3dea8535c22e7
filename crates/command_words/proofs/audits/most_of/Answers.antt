use Rattle.std.proofs.Common.{◌≡◌, ◌∙◌, ap, sym, Some, if◌then◌else◌}
use Rattle.std.proofs.lemmas.Option.{none-some, same_Some}
use Rattle.command_words.proofs.audits.most_of.Goals as goal

pub returns-in_err-stops-clause-only : goal.returns-in_err-stops-clause-only
returns-in_err-stops-clause-only c = λ n is. let (s, m, rule, number, e) = is in absurd (none-some _ (c.in_err-stops.ensures.only s rule))

pub returns-in_err-number-clause-only : goal.returns-in_err-number-clause-only
returns-in_err-number-clause-only c = λ n is. let (s, m, rule, number, e) = is in absurd (none-some _ (c.in_err-number.ensures.only m number))

pub returns-clause-found : goal.returns-clause-found
returns-clause-found c = (c.in_ok-stops.stops, c.in_ok-number.number, c.in_ok-stops.ensures.found, c.in_ok-number.ensures.found, c.ending.ensures)

pub returns-clause-only : goal.returns-clause-only
returns-clause-only c = λ n is.
    let (s, m, rule, number, e) = is in
    let stops = same_Some _ _ (c.in_ok-stops.ensures.only s rule) in
    let count = same_Some _ _ (c.in_ok-number.ensures.only m number) in
    let same : (if c.in_ok-stops.stops then 1 else c.in_ok-number.number) ≡ (if s then 1 else m) = λ j. if stops j then 1 else count j in
    ap Some (c.ending.ensures ∙ (same ∙ sym e))
