use Rattle.std.proofs.Common.{ap, arith, inl, inr, refl, rules, sym, ◌∙◌}
use Rattle.std.specs.Prelude.{map}
use Rattle.std.specs.Option.{option_map}
use Rattle.io_edge.specs.Lines.{Text, TooLong}
use Rattle.certificate_text.proofs.TextLaws.{end-told, no-items}
use Rattle.certificate_text.proofs.TakenLaws.{item-cause, item-front, lent-same, read-item, read-none-given, lines_given}
use Rattle.certificate_text.proofs.lines.LineItemsItems.take.Goals as goal

pub returns-in-End-clause-item : goal.returns-in-End-clause-item
returns-in-End-clause-item g c =
    let (bytes, takes, ends) = c.in-End.ensures.fed in
    let (none0, none1) = c.in-End.ensures.ahead in
    (ap (option_map (map g.F.LineForm.item)) (end-told _ _ _ _ bytes takes.left none0 none1), no-items _ _ none0)

pub returns-in-Some-clause-known : goal.returns-in-Some-clause-known
returns-in-Some-clause-known g c = read-item c.next_line.result _ _ _ _ c.next_line.ensures.fed c.next_line.ensures.counts.bound c.next_line.ensures.little _ _ c.saturating_add-self.ensures

pub returns-in-None-clause-known : goal.returns-in-None-clause-known
returns-in-None-clause-known g c = read-item c.next_line.result _ _ _ _ c.next_line.ensures.fed c.next_line.ensures.counts.bound c.next_line.ensures.little _ _ c.saturating_add-self.ensures

pub returns-in-TooLong-clause-known : goal.returns-in-TooLong-clause-known
returns-in-TooLong-clause-known g c = read-item c.next_line.result _ _ _ _ c.next_line.ensures.fed c.next_line.ensures.counts.bound c.next_line.ensures.little _ _ c.saturating_add-self-in-TooLong.ensures

pub returns-in-End-clause-known : goal.returns-in-End-clause-known
returns-in-End-clause-known g c = λ input before. read-none-given c.next_line.result _ _ _ _ c.next_line.ensures.fed c.next_line.ensures.counts.bound c.next_line.ensures.little (ap lines_given c.in-End.is) input _

pub returns-in-Failed-clause-known : goal.returns-in-Failed-clause-known
returns-in-Failed-clause-known g c = λ input before. read-none-given c.next_line.result _ _ _ _ c.next_line.ensures.fed c.next_line.ensures.counts.bound c.next_line.ensures.little (ap lines_given c.in-Failed.is) input _

pub returns-in-Full-clause-known : goal.returns-in-Full-clause-known
returns-in-Full-clause-known g c = λ input before. read-none-given c.next_line.result _ _ _ _ c.next_line.ensures.fed c.next_line.ensures.counts.bound c.next_line.ensures.little (ap lines_given c.in-Full.is) input _

pub returns-in-None-clause-met : goal.returns-in-None-clause-met
returns-in-None-clause-met g c = inl (search rules)

pub returns-in-TooLong-clause-met : goal.returns-in-TooLong-clause-met
returns-in-TooLong-clause-met g c = inr (let long = c.next_line.ensures.too_long.0 c.in-TooLong.is in omega (arith, long))

pub returns-in-Some-clause-item : goal.returns-in-Some-clause-item
returns-in-Some-clause-item g c =
    item-front g.F.LineForm.item (Text c.next_line.new.self.last) _ _ _ (c.in-Some.ensures ∙ ap (λ b. g.F.LineForm.item (Text b)) c.line.ensures) c.in-Line.ensures.ahead

pub returns-in-None-clause-item : goal.returns-in-None-clause-item
returns-in-None-clause-item g c =
    item-front g.F.LineForm.item (Text c.next_line.new.self.last) _ _ _ (c.in-None.ensures ∙ ap (λ b. g.F.LineForm.item (Text b)) c.line.ensures) c.in-Line.ensures.ahead

pub returns-in-TooLong-clause-item : goal.returns-in-TooLong-clause-item
returns-in-TooLong-clause-item g c = item-front g.F.LineForm.item TooLong _ _ _ (sym g.met.F.LineForm.too_long) c.in-TooLong.ensures.ahead

pub returns-in-Some-clause-cause : goal.returns-in-Some-clause-cause
returns-in-Some-clause-cause g c = item-cause c.next_line.result _ _ _ (λ e. cc) (λ e. cc c.in-Line.is) c.next_line.ensures.cause

pub returns-in-None-clause-cause : goal.returns-in-None-clause-cause
returns-in-None-clause-cause g c = item-cause c.next_line.result _ _ _ (λ e. cc) (λ e. cc c.in-Line.is) c.next_line.ensures.cause

pub returns-in-TooLong-clause-cause : goal.returns-in-TooLong-clause-cause
returns-in-TooLong-clause-cause g c = item-cause c.next_line.result _ _ _ (λ e. cc) (λ e. cc c.in-TooLong.is) c.next_line.ensures.cause

pub returns-in-End-clause-cause : goal.returns-in-End-clause-cause
returns-in-End-clause-cause g c = item-cause c.next_line.result _ _ _ (λ e. cc) (λ e. cc c.in-End.is) c.next_line.ensures.cause

pub returns-in-Failed-clause-cause : goal.returns-in-Failed-clause-cause
returns-in-Failed-clause-cause g c = item-cause c.next_line.result _ _ _ (λ e. c.in-Failed.is) (λ e. refl) c.next_line.ensures.cause

pub returns-in-Full-clause-cause : goal.returns-in-Full-clause-cause
returns-in-Full-clause-cause g c = item-cause c.next_line.result _ _ _ (λ e. cc) (λ e. cc c.in-Full.is) c.next_line.ensures.cause

pub returns-in-Some-clause-lenders : goal.returns-in-Some-clause-lenders
returns-in-Some-clause-lenders g c = lent-same _ _ _ _ _ c.next_line.result c.next_line.ensures.fed

pub returns-in-None-clause-lenders : goal.returns-in-None-clause-lenders
returns-in-None-clause-lenders g c = lent-same _ _ _ _ _ c.next_line.result c.next_line.ensures.fed

pub returns-in-TooLong-clause-lenders : goal.returns-in-TooLong-clause-lenders
returns-in-TooLong-clause-lenders g c = lent-same _ _ _ _ _ c.next_line.result c.next_line.ensures.fed

pub returns-in-End-clause-lenders : goal.returns-in-End-clause-lenders
returns-in-End-clause-lenders g c = lent-same _ _ _ _ _ c.next_line.result c.next_line.ensures.fed

pub returns-in-Failed-clause-lenders : goal.returns-in-Failed-clause-lenders
returns-in-Failed-clause-lenders g c = lent-same _ _ _ _ _ c.next_line.result c.next_line.ensures.fed

pub returns-in-Full-clause-lenders : goal.returns-in-Full-clause-lenders
returns-in-Full-clause-lenders g c = lent-same _ _ _ _ _ c.next_line.result c.next_line.ensures.fed
