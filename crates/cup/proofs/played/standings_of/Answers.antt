use Rattle.std.proofs.Common.{length, ap, ◌∙◌, sym, subst, Some}
use Rattle.std.proofs.lemmas.List.{length-map}
use Rattle.std.proofs.lemmas.Result.{IfOk-weaker}
use Rattle.cup.specs.Cup.{AreStandings}
use Rattle.cup.proofs.Totals.{length-pairings}
use Rattle.cup.specs.Played.{pairing, verdict_of}
use Rattle.cup.proofs.played.standings_of.Goals as goal

pub standings-requires-clause-all : goal.standings-requires-clause-all
standings-requires-clause-all g c =
    let vs = c.in_ok-verdicts.verdicts.items in
    let js = c.args.jobs.now in
    ap length c.as_slice.ensures.value
    ∙ sym (length-map vs Some)
    ∙ sym (ap length c.in_ok-verdicts.ensures)
    ∙ length-map js (λ j. verdict_of j.referee)
    ∙ sym (length-map js pairing)
    ∙ ap length c.requires.games
    ∙ length-pairings c.args.engines

pub returns : goal.returns
returns g c =
    IfOk-weaker c.standings.result (λ list. AreStandings c.args.engines c.as_slice.result.now list) _
    (λ list told. (c.in_ok-verdicts.verdicts.items, c.in_ok-verdicts.ensures, subst (λ vs. AreStandings c.args.engines vs list) c.as_slice.ensures.value told))
    c.standings.ensures
