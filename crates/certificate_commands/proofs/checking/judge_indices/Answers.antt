use Rattle.std.proofs.Common.{ℕ, rules, ap, map, subst, sym}
use Rattle.hive_model.specs.Histories.{position}
use Rattle.certificate_walks.specs.Answers.{CountsRefused, StopsUnread}
use Rattle.strategy_check.specs.Trace.{checked}
use Rattle.certificate_text.specs.Text.{index_in}
use Rattle.certificate_verdicts.specs.Runs.{IsUndecided}
use Rattle.certificate_verdicts.specs.Verdicts.{of_walk}
use Rattle.strategy_check.specs.Checks.{index_faults}
use Rattle.certificate_commands.proofs.LineReads.{walk-ends, walk-read}
use Rattle.certificate_commands.proofs.checking.judge_indices.Goals as goal

pub returns : goal.returns
returns g c = record {
  judged = search rules;
  cause = search rules;
  read = λ text r.
      let after = c.check-checked.new.indices in
      walk-read (CountsRefused index_faults c.check-checked.result) c.verdict_of.result text _ _ (g.S.Source.rest after.source.now) _ _ _ after.reader.now _ _ c.lines-lines.result c.new-indices.ensures.same_reader (ap g.S.Source.rest c.new-indices.ensures.same_source)
      c.new-indices.ensures.none c.lines-lines.ensures (search rules) (c.check-checked.ensures.items.known text 5) (c.check-checked.ensures.items.refused c.new-indices.ensures.none)
      (λ known few. c.verdict_of.ensures.read text _ after.reader.now index_in known few c.check-checked.ensures.items.met) r;
  unread = λ left told text r e.
      let claim = c.args.claim.now in
      let items = map index_in left in
      let after = c.check-checked.new.indices in
      let o = checked (position (g.G.Game.history c.args.game.now)) claim.depth claim.best claim.value items in
      let stops : StopsUnread index_faults o c.check-checked.result c.lines-lines.result =
      subst (λ (n : ℕ). StopsUnread index_faults o c.check-checked.result n) (sym c.lines-lines.ensures) (c.check-checked.ensures.unread items (search rules) c.new-indices.ensures.none) in
      walk-ends (IsUndecided 5 (of_walk 5 o) text) text _ _ (g.S.Source.rest after.source.now) _ _ _ after.reader.now _ _ c.lines-lines.result c.new-indices.ensures.same_reader (ap g.S.Source.rest c.new-indices.ensures.same_source)
      c.new-indices.ensures.none c.lines-lines.ensures (search rules) (c.check-checked.ensures.items.known text 5)
      (λ known. c.verdict_of.ensures.unread o stops text _ after.reader.now known e) r;
}
