use Rattle.std.proofs.Common.{ℕ, rules, ap, map, subst, sym}
use Rattle.hive_model.specs.Histories.{position}
use Rattle.certificate_walks.specs.Answers.{CountsRefused, StopsUnread}
use Rattle.strategy_lemmas.specs.Cited.{cited_checked}
use Rattle.certificate_citing.specs.TokenText.{token_in}
use Rattle.certificate_verdicts.specs.Runs.{IsUndecided}
use Rattle.certificate_commands.specs.Verdicts.{of_cited}
use Rattle.strategy_lemmas.specs.CitedChecks.{cited_faults}
use Rattle.certificate_commands.proofs.LineReads.{walk-ends, walk-read}
use Rattle.certificate_commands.proofs.citing.judge_tokens.Goals as goal

pub returns : goal.returns
returns g c = record {
  judged = search rules;
  cause = search rules;
  read = λ text r.
      let after = c.check_cited-checked.new.tokens in
      walk-read (CountsRefused cited_faults c.check_cited-checked.result) c.verdict_of.result text _ _ (g.S.Source.rest after.source.now) _ _ _ after.reader.now _ _ c.lines.result c.new-tokens.ensures.same_reader (ap g.S.Source.rest c.new-tokens.ensures.same_source)
      c.new-tokens.ensures.none c.lines.ensures (search rules) (c.check_cited-checked.ensures.items.known text 5) (c.check_cited-checked.ensures.items.refused c.new-tokens.ensures.none)
      (λ known few. c.verdict_of.ensures.read text _ after.reader.now token_in known few c.check_cited-checked.ensures.items.met) r;
  unread = λ left told text r e.
      let claim = c.args.claim.now in
      let items = map token_in left in
      let after = c.check_cited-checked.new.tokens in
      let o = cited_checked (position (g.G.Game.history c.args.game.now)) claim.depth claim.best claim.value items in
      let stops : StopsUnread cited_faults o c.check_cited-checked.result c.lines.result =
      subst (λ (n : ℕ). StopsUnread cited_faults o c.check_cited-checked.result n) (sym c.lines.ensures) (c.check_cited-checked.ensures.unread items (search rules) c.new-tokens.ensures.none) in
      walk-ends (IsUndecided 5 (of_cited 5 o) text) text _ _ (g.S.Source.rest after.source.now) _ _ _ after.reader.now _ _ c.lines.result c.new-tokens.ensures.same_reader (ap g.S.Source.rest c.new-tokens.ensures.same_source)
      c.new-tokens.ensures.none c.lines.ensures (search rules) (c.check_cited-checked.ensures.items.known text 5)
      (λ known. c.verdict_of.ensures.unread o stops text _ after.reader.now known e) r;
}
