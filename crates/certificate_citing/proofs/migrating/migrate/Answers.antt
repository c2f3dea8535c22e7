use Rattle.std.proofs.Common.{true, false, ap, sym, subst, Some}
use Rattle.hive_model.specs.Histories.{position}
use Rattle.certificate_walks.specs.declared.walk_answers.Checked.{Checked}
use Rattle.certificate_walks.specs.declared.walk_answers.Checked.TheVariants.{Accepted, Refused, Halted}
use Rattle.strategy_check.specs.declared.why.Why.{Why}
use Rattle.strategy_lemmas.specs.Short.{shortened}
use Rattle.certificate_citing.specs.Migrating.{ShortAnswers}
use Rattle.certificate_citing.proofs.Migrations.{accepted-is, wrote-both, refused-is, halted-told, items-are, unread-are}
use Rattle.certificate_citing.proofs.migrating.migrate.Goals as goal

pub returns-then-write_both-clause-told : goal.returns-then-write_both-clause-told
returns-then-write_both-clause-told g c =
    let draft = c.shorten_certificate.new.draft in
    λ items e. (
      draft.text,
      accepted-is _ _ _ _ items c.in-Some.checked draft c.in-Accepted.is (c.in-Some.ensures.told items e),
      wrote-both c.write_both.result true c.args.head.now _ draft.text (g.K.Sink.written c.args.sink.now) _ c.if-write_both.true c.items.ensures c.write_both.ensures.wrote,
    )

pub returns-in-Accepted-clause-told : goal.returns-in-Accepted-clause-told
returns-in-Accepted-clause-told g c =
    let draft = c.shorten_certificate.new.draft in
    λ items e.
    let (n, cut, wrote) = wrote-both c.write_both.result false c.args.head.now _ draft.text (g.K.Sink.written c.args.sink.now) _ c.if-write_both.false c.items.ensures c.write_both.ensures.wrote in
    (draft.text, accepted-is _ _ _ _ items c.in-Some.checked draft c.in-Accepted.is (c.in-Some.ensures.told items e), n, cut, wrote)

pub returns-in-Refused-clause-told : goal.returns-in-Refused-clause-told
returns-in-Refused-clause-told g c =
    let p = position (g.G.Game.history c.args.game.now) in
    let d = c.args.claim.now.depth in
    let m = c.args.claim.now.best in
    let v = c.args.claim.now.value in
    let draft = c.shorten_certificate.new.draft in
    λ items e.
    let h : ShortAnswers (shortened p d m v items) (Some (Refused c.in-Refused.place c.in-Refused.why)) draft =
    subst (λ (x : Checked Why). ShortAnswers (shortened p d m v items) (Some x) draft) c.in-Refused.is (c.in-Some.ensures.told items e) in
    (h.0, refused-is p d m v items c.in-Refused.why h.0 h.1, h.2)

pub returns-clause-told : goal.returns-clause-told
returns-clause-told g c =
    let p = position (g.G.Game.history c.args.game.now) in
    let d = c.args.claim.now.depth in
    let m = c.args.claim.now.best in
    let v = c.args.claim.now.value in
    let draft = c.shorten_certificate.new.draft in
    λ items e.
    let h : ShortAnswers (shortened p d m v items) (Some (Halted c.in-Halted.answer)) draft =
    subst (λ (x : Checked Why). ShortAnswers (shortened p d m v items) (Some x) draft) c.in-Halted.is (c.in-Some.ensures.told items e) in
    halted-told p d m v items c.args.head.now (g.K.Sink.written c.args.sink.now) (g.K.Sink.written c.args.sink.now) c.in-Halted.answer draft h

pub returns-then-write_both-clause-items : goal.returns-then-write_both-clause-items
returns-then-write_both-clause-items g c =
    items-are (position (g.G.Game.history c.args.game.now)) c.args.claim.now.depth c.args.claim.now.best c.args.claim.now.value (Some c.in-Some.checked) (Some Accepted) _ _ (ap (λ x. Some x) (sym c.in-Accepted.is)) c.in-Some.ensures.items

pub returns-in-Accepted-clause-items : goal.returns-in-Accepted-clause-items
returns-in-Accepted-clause-items g c =
    items-are (position (g.G.Game.history c.args.game.now)) c.args.claim.now.depth c.args.claim.now.best c.args.claim.now.value (Some c.in-Some.checked) (Some Accepted) _ _ (ap (λ x. Some x) (sym c.in-Accepted.is)) c.in-Some.ensures.items

pub returns-in-Refused-clause-items : goal.returns-in-Refused-clause-items
returns-in-Refused-clause-items g c =
    items-are (position (g.G.Game.history c.args.game.now)) c.args.claim.now.depth c.args.claim.now.best c.args.claim.now.value (Some c.in-Some.checked) (Some (Refused c.in-Refused.place c.in-Refused.why)) _ _ (ap (λ x. Some x) (sym c.in-Refused.is)) c.in-Some.ensures.items

pub returns-clause-items : goal.returns-clause-items
returns-clause-items g c =
    items-are (position (g.G.Game.history c.args.game.now)) c.args.claim.now.depth c.args.claim.now.best c.args.claim.now.value (Some c.in-Some.checked) (Some (Halted c.in-Halted.answer)) _ _ (ap (λ x. Some x) (sym c.in-Halted.is)) c.in-Some.ensures.items

pub returns-then-write_both-clause-unread : goal.returns-then-write_both-clause-unread
returns-then-write_both-clause-unread g c =
    unread-are (position (g.G.Game.history c.args.game.now)) c.args.claim.now.depth c.args.claim.now.best c.args.claim.now.value (Some c.in-Some.checked) (Some Accepted) (g.I.Items.supply c.args.indices.now) (g.I.Items.supply c.shorten_certificate.new.indices) (ap (λ x. Some x) (sym c.in-Accepted.is)) c.in-Some.ensures.unread

pub returns-in-Accepted-clause-unread : goal.returns-in-Accepted-clause-unread
returns-in-Accepted-clause-unread g c =
    unread-are (position (g.G.Game.history c.args.game.now)) c.args.claim.now.depth c.args.claim.now.best c.args.claim.now.value (Some c.in-Some.checked) (Some Accepted) (g.I.Items.supply c.args.indices.now) (g.I.Items.supply c.shorten_certificate.new.indices) (ap (λ x. Some x) (sym c.in-Accepted.is)) c.in-Some.ensures.unread

pub returns-in-Refused-clause-unread : goal.returns-in-Refused-clause-unread
returns-in-Refused-clause-unread g c =
    unread-are (position (g.G.Game.history c.args.game.now)) c.args.claim.now.depth c.args.claim.now.best c.args.claim.now.value (Some c.in-Some.checked) (Some (Refused c.in-Refused.place c.in-Refused.why)) (g.I.Items.supply c.args.indices.now) (g.I.Items.supply c.shorten_certificate.new.indices) (ap (λ x. Some x) (sym c.in-Refused.is)) c.in-Some.ensures.unread

pub returns-clause-unread : goal.returns-clause-unread
returns-clause-unread g c =
    unread-are (position (g.G.Game.history c.args.game.now)) c.args.claim.now.depth c.args.claim.now.best c.args.claim.now.value (Some c.in-Some.checked) (Some (Halted c.in-Halted.answer)) (g.I.Items.supply c.args.indices.now) (g.I.Items.supply c.shorten_certificate.new.indices) (ap (λ x. Some x) (sym c.in-Halted.is)) c.in-Some.ensures.unread
