use Rattle.std.proofs.Common.{rules, ap, subst, sym}
use Rattle.std.specs.Prelude.{ℕ, map, IfSome}
use Rattle.hive_model.specs.Histories.{position}
use Rattle.certificate_walks.specs.Answers.{CountsBad, CountsRefused, StopsUnread}
use Rattle.strategy_check.specs.Trace.{checked}
use Rattle.certificate_text.specs.Text.{index_in}
use Rattle.strategy_check.specs.Checks.{index_faults}
use Rattle.certificate_citing.specs.Migrating.{answered}
use Rattle.certificate_commands.proofs.MigrateLaws.{if-some, read-causes}
use Rattle.certificate_verdicts.specs.Runs.{IsUndecided}
use Rattle.certificate_verdicts.specs.Verdicts.{of_walk}
use Rattle.certificate_commands.specs.Migrating.{judged_of}
use Rattle.certificate_commands.proofs.LineReads.{walk-ends, walk-read}
use Rattle.certificate_commands.proofs.migrating.migrate_lines.Goals as goal

pub returns : goal.returns
returns g c =
    let causes = read-causes c.migrate-migrated.result _ _ _ c.migrate-migrated.ensures.items.cause in
    record {
      told = λ left e.
          let claim = c.args.claim.now in
          let bad = subst (λ (n : ℕ). IfSome (answered c.migrate-migrated.result) (λ answer. CountsBad (checked (position (g.G.Game.history c.args.game.now)) claim.depth claim.best claim.value (map index_in left)) answer n)) (sym c.lines.ensures)
          (c.migrate-migrated.ensures.items.bad (map index_in left) (search rules) c.new-indices.ensures.none) in
          search (rules, bad);
      late = search rules;
      reads = search (rules, causes);
      writes = search rules;
      read = λ text r.
          let after = c.migrate-migrated.new.indices in
          walk-read (λ lines. IfSome (answered c.migrate-migrated.result) (λ answer. CountsRefused index_faults answer lines)) (judged_of c.taken_of.result) text _ _ (g.S.Source.rest after.source.now) _ _ _ after.reader.now _ _ c.lines.result c.new-indices.ensures.same_reader (ap g.S.Source.rest c.new-indices.ensures.same_source)
          c.new-indices.ensures.none c.lines.ensures (search rules) (c.migrate-migrated.ensures.items.known text 5) (c.migrate-migrated.ensures.items.refused c.new-indices.ensures.none)
          (λ known few. c.taken_of.ensures.read text _ after.reader.now known few c.migrate-migrated.ensures.items.met) r;
      unread = λ left told text r e.
          let claim = c.args.claim.now in
          let items = map index_in left in
          let after = c.migrate-migrated.new.indices in
          let p = position (g.G.Game.history c.args.game.now) in
          let o = checked p claim.depth claim.best claim.value items in
          let stops : IfSome (answered c.migrate-migrated.result) (λ answer. StopsUnread index_faults o answer c.lines.result) =
          subst (λ (n : ℕ). IfSome (answered c.migrate-migrated.result) (λ answer. StopsUnread index_faults o answer n)) (sym c.lines.ensures)
          (if-some (answered c.migrate-migrated.result) _ _ c.migrate-migrated.ensures.unread (λ answer h. h items (search rules) c.new-indices.ensures.none)) in
          walk-ends (IsUndecided 5 (of_walk 5 o) text) text _ _ (g.S.Source.rest after.source.now) _ _ _ after.reader.now _ _ c.lines.result c.new-indices.ensures.same_reader (ap g.S.Source.rest c.new-indices.ensures.same_source)
          c.new-indices.ensures.none c.lines.ensures (search rules) (c.migrate-migrated.ensures.items.known text 5)
          (λ known. c.taken_of.ensures.unread p claim.depth claim.best claim.value items stops text _ after.reader.now known e) r;
    }
