use Rattle.std.proofs.Common.{ℕ, ◌+◌, ap, map, rules, subst, sym}
use Rattle.hive_model.specs.Histories.{position}
use Rattle.certificate_walks.specs.Answers.{CountsRefused, StopsUnread}
use Rattle.certificate_text.specs.Text.{index_in}
use Rattle.win_solver.specs.Solution.{solved}
use Rattle.certificate_verdicts.specs.Runs.{IsUndecided}
use Rattle.certificate_verdicts.specs.Verdicts.{of_walk}
use Rattle.strategy_check.specs.Checks.{index_faults}
use Rattle.certificate_text.specs.Taken.{HasRead}
use Rattle.certificate_verdicts.specs.Reading.{WasReadAs}
use Rattle.certificate_verdicts.proofs.TextLaws.{read-begins}
use Rattle.win_commands.proofs.verifying.judge_indices.Goals as goal

pub returns : goal.returns
returns g c = record {
  judged = search rules;
  cause = search rules;
  read = λ text r.
      let before = c.new-indices.result in
      let after = c.check_solution-checked.new.indices in
      let begun : HasRead text (g.S.Source.rest before.source.now) before.reader.now (4 + before.lines) =
      read-begins 4 text _ _ _ _ _ c.new-indices.ensures.same_reader (ap g.S.Source.rest c.new-indices.ensures.same_source) c.new-indices.ensures.none r in
      let went : HasRead text (g.S.Source.rest after.source.now) after.reader.now (4 + after.lines) = c.check_solution-checked.ensures.items.known text 4 begun in
      let taken : HasRead text (g.S.Source.rest after.source.now) after.reader.now (4 + c.lines.result) =
      subst (λ (n : ℕ). HasRead text (g.S.Source.rest after.source.now) after.reader.now (4 + n)) (sym c.lines.ensures) went in
      let few : CountsRefused index_faults c.check_solution-checked.result c.lines.result =
      subst (λ (n : ℕ). CountsRefused index_faults c.check_solution-checked.result n) (sym c.lines.ensures) (c.check_solution-checked.ensures.items.refused c.new-indices.ensures.none) in
      let told : WasReadAs 4 c.verdict_of.result text (g.S.Source.rest after.source.now) = c.verdict_of.ensures.read text _ _ index_in taken few c.check_solution-checked.ensures.items.met in
      search (rules, told);
  unread = λ left told text r e.
      let before = c.new-indices.result in
      let after = c.check_solution-checked.new.indices in
      let p = position (g.G.Game.history c.args.game.now) in
      let items = map index_in left in
      let o = solved p c.args.plies p.side c.args.answer items in
      let begun : HasRead text (g.S.Source.rest before.source.now) before.reader.now (4 + before.lines) =
      read-begins 4 text _ _ _ _ _ c.new-indices.ensures.same_reader (ap g.S.Source.rest c.new-indices.ensures.same_source) c.new-indices.ensures.none r in
      let went : HasRead text (g.S.Source.rest after.source.now) after.reader.now (4 + after.lines) = c.check_solution-checked.ensures.items.known text 4 begun in
      let taken : HasRead text (g.S.Source.rest after.source.now) after.reader.now (4 + c.lines.result) =
      subst (λ (n : ℕ). HasRead text (g.S.Source.rest after.source.now) after.reader.now (4 + n)) (sym c.lines.ensures) went in
      let stops : StopsUnread index_faults o c.check_solution-checked.result c.lines.result =
      subst (λ (n : ℕ). StopsUnread index_faults o c.check_solution-checked.result n) (sym c.lines.ensures) (c.check_solution-checked.ensures.unread items (search rules) c.new-indices.ensures.none) in
      subst (IsUndecided 4 (of_walk 4 o) text) (search rules) (c.verdict_of.ensures.unread o stops text _ _ taken e);
}
