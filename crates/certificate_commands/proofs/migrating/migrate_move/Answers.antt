use Rattle.hive_model.specs.Histories.{History, position}
use Rattle.std.proofs.Common.{◌≡◌, ℕ, List, rules, map, subst}
use Rattle.certificate_text.specs.Text.{head_text, index_in}
use Rattle.certificate_verdicts.specs.Runs.{IsUndecided}
use Rattle.certificate_commands.specs.Migrating.{OfItems, Writes}
use Rattle.certificate_commands.specs.Verdicts.{of_items}
use Rattle.certificate_commands.proofs.MigrateLaws.{illegal-judged}
use Rattle.certificate_verdicts.proofs.JudgeLaws.{most-read}
use Rattle.certificate_commands.proofs.migrating.migrate_move.Goals as goal

pub returns-then-not-is_legal : goal.returns-then-not-is_legal
returns-then-not-is_legal g c = record {
  told = λ left told.
      illegal-judged (position (g.G.Game.history c.args.game.now)) c.args.claim.now.depth c.args.claim.now.best c.args.claim.now.value (map index_in left) c.is_legal.result c.is_legal.ensures.legal c.if-not-is_legal.true;
  late = search rules;
  reads = search rules;
  writes = search rules;
  read = λ text r. most-read 5 text _ _ r;
  unread = λ left told text r e. absurd (cc);
}

pub returns : goal.returns
returns g c =
    let claim = c.args.claim.now in
    let here : History = g.G.Game.history c.is_legal.new.self in
    let same : g.G.Game.history c.is_legal.new.self ≡ g.G.Game.history c.args.game.now = c.is_legal.ensures.same in
    let head : c.items.result.now ≡ head_text 2 here.game_type here.made claim.depth claim.best claim.value = search rules in
    let lines = c.migrate_lines.ensures in record {
      told = λ left told.
          let items = map index_in left in
          let r = c.migrate_lines.result in
          let a = g.K.Sink.written c.args.output.now in
          let b = g.K.Sink.written c.migrate_lines.new.output in
          subst (λ (x : History). Writes (of_items (position x) claim.depth claim.best claim.value items) (OfItems (position x) claim.depth claim.best claim.value items (head_text 2 x.game_type x.made claim.depth claim.best claim.value)) r a b) same
          (subst (λ (h : List ℕ). Writes (of_items (position here) claim.depth claim.best claim.value items) (OfItems (position here) claim.depth claim.best claim.value items h) r a b) head (lines.told left told));
      late = lines.late;
      reads = lines.reads;
      writes = lines.writes;
      read = lines.read;
      unread = λ left told text r e.
          subst (λ (x : History). IsUndecided 5 (of_items (position x) claim.depth claim.best claim.value (map index_in left)) text (g.S.Source.rest c.migrate_lines.new.input)) same (lines.unread left told text r e);
    }
